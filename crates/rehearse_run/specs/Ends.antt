-- The lines of a rehearsal that comes to its end. Assumes nothing.
use Rattle.std.specs.Prelude.{◌≡◌, List, [], ◌∷◌}
use Rattle.roll.specs.Rehearsal.{Line, sub, ran, refusal, end}

-- submissions and tasks that have run, then one refusal or the end, and nothing behind it
abbrev pub Ends : List Line → Type 0
Ends [] = ⊥
Ends (sub s ∷ ls) = Ends ls
Ends (ran s ∷ ls) = Ends ls
Ends (refusal n ∷ ls) = ls ≡ []
Ends (end ∷ ls) = ls ≡ []

-- the last line is the end, and not a refusal
abbrev pub Ended : List Line → Type 0
Ended [] = ⊥
Ended (sub s ∷ ls) = Ended ls
Ended (ran s ∷ ls) = Ended ls
Ended (refusal n ∷ ls) = ⊥
Ended (end ∷ ls) = ls ≡ []
