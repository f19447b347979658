-- The history of a list of calls has the state that the calls leave, one after the other; so the law holds of every run.
use Rattle.std.proofs.Common.{◌≡◌, List, [], ◌∷◌, refl, ap, ◌∙◌}
use Rattle.order.proofs.Serial.{any_order}
use Rattle.roll.specs.Calls.{Setting, setting, Call, submit, take, step, finish, Outcome, refused, succeeded, perform}
use Rattle.roll.specs.Built.{left_by, state_after}
use Rattle.roll.specs.History.{History, noted, next, after, beginning}
use Rattle.roll.proofs.Holds.{law as runs-law}
use Rattle.runs.specs.Obeys.{AllObey}

-- a call that is noted leaves the state of its outcome
noted_state : {V : Type 0} (m : Setting V) (h : History V) (c : Call) (o : Outcome V) → (noted m h c o).state ≡ left_by h.state o
noted_state m h c (refused fault) = refl
noted_state m h (submit name kind xs) (succeeded r) = refl
noted_state m h take (succeeded r) = refl
noted_state m h (step s) (succeeded r) = refl
noted_state m h (finish s) (succeeded r) = refl

-- after a list of calls
pub after_state : {V : Type 0} (m : Setting V) (h : History V) (cs : List Call) → (after m h cs).state ≡ state_after m h.state cs
after_state m h [] = refl
after_state m h (c ∷ cs) =
    after_state m (next m h c) cs ∙ ap (λ b. state_after m b cs) (noted_state m h c (perform m h.state c))

-- the law, and the state, after every list of calls
pub all_obey : {V : Type 0} → AllObey V
all_obey host w seats versions cs = record {
  law = runs-law any_order host w seats versions cs;
  state = after_state (setting host seats versions) (beginning (setting host seats versions) w) cs;
}
