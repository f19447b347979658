-- A submission of the code, where it is known that the call is one: what is told of it is what the outcome of its call on the roll answers,
-- and the state after it is the one that the outcome leaves.
use Rattle.std.proofs.Common.{◌≡◌, ℕ, List, Some, None, Ok, Err, Option, Result, refl, sym, ap, ◌∙◌, Bor}
use Rattle.fault.specs.declared.ManagerFault.{ManagerFault}
use Rattle.task.specs.declared.Access.{Access}
use Rattle.roll.specs.Tables.{submit_fault}
use Rattle.roll.specs.Calls as roll
use Rattle.roll.specs.Calls.{Setting, State, submit, seated, give_seat, submitted, perform}
use Rattle.roll.specs.Built.{left_by}
use Rattle.manager.specs.Answers.{submit_answer}
use Rattle.runs.specs.declared.calls.Call.{Call}
use Rattle.runs.specs.declared.calls.Call.TheVariants.{Submit}
use Rattle.runs.specs.Told.{call_of, answer_to}

-- what an answer of submit says: a seat, or the refusal as it is
abbrev pub seated_by : Result ℕ ManagerFault → Result roll.Answer ManagerFault
seated_by (Ok s) = Ok (seated s)
seated_by (Err fault) = Err fault

module _ {V : Type 0} where
  -- it says what the outcome answers
  submitted_says : (b : State V) (name kind : ℕ) (xs : List Access) (f : Option ManagerFault) (given : Option (ℕ × List ℕ)) →
      seated_by (submit_answer (submitted b name kind xs f given)) ≡ answer_to (submitted b name kind xs f given)
  submitted_says b name kind xs (Some fault) given = refl
  submitted_says b name kind xs None None = refl
  submitted_says b name kind xs None (Some p) = refl

  submit_says : (m : Setting V) (b : State V) (name kind : ℕ) (xs : List Access) →
      seated_by (submit_answer (perform m b (submit name kind xs))) ≡ answer_to (perform m b (submit name kind xs))
  submit_says m b name kind xs = submitted_says b name kind xs (submit_fault m.tables m.host.held b.roll b.free_line xs) (give_seat b.free_line)

module _ {V : Type 0} (m : Setting V) (b : State V) (x : Call) (name kind : ℕ) (xs : Bor (List Access)) (which : x ≡ Submit name kind xs) where
  pub submit_told : (t : Result roll.Answer ManagerFault) (r : Result ℕ ManagerFault) → t ≡ seated_by r → r ≡ submit_answer (perform m b (submit name kind xs.now)) →
      t ≡ answer_to (perform m b (call_of x))
  submit_told t r told answered =
      told ∙ ap seated_by answered ∙ submit_says m b name kind xs.now ∙ sym (ap (λ (z : Call). answer_to (perform m b (call_of z))) which)

  pub submit_leaves : (a : State V) → a ≡ left_by b (perform m b (submit name kind xs.now)) → a ≡ left_by b (perform m b (call_of x))
  submit_leaves a left = left ∙ sym (ap (λ (z : Call). left_by b (perform m b (call_of z))) which)
