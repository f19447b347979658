-- The text of what feed answers. Assumes nothing.
use Rattle.std.specs.Prelude.{ℕ, List, ◌++◌, codes, decimal}
use Rattle.drive.specs.declared.fed.Fed.{Fed}
use Rattle.drive.specs.declared.fed.Fed.TheVariants.{Submitted, Finished}

-- a word and the number in decimal
abbrev pub fed_text : Fed → List ℕ
fed_text (Submitted seat) = codes "seat " ++ decimal seat
fed_text (Finished woken) = codes "woke " ++ decimal woken
