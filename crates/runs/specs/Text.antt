-- The text of an answer. Assumes nothing.
use Rattle.std.specs.Prelude.{ℕ, List, ◌++◌, codes, decimal}
use Rattle.runs.specs.declared.calls.Answer.{Answer}
use Rattle.runs.specs.declared.calls.Answer.TheVariants.{Seated, Taken, Brought, Put, Woke}

-- the words, each number in decimal
abbrev pub answer_text : Answer → List ℕ
answer_text (Seated seat) = codes "seat " ++ decimal seat
answer_text (Taken seat kind name) = codes "took seat " ++ decimal seat ++ codes " kind " ++ decimal kind ++ codes " name " ++ decimal name
answer_text (Brought access) = codes "brought " ++ decimal access
answer_text (Put access) = codes "put " ++ decimal access
answer_text (Woke count) = codes "woke " ++ decimal count
