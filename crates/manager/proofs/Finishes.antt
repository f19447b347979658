-- What a finish comes to, by the standing of the seat. Assumes nothing.
use Rattle.std.proofs.Common.{◌≡◌, ℕ, true, false, List, [], Ok, Err, Result, sym, refl, ap, ◌∙◌, subst}
use Rattle.fault.specs.declared.ManagerFault.{ManagerFault}
use Rattle.task.specs.declared.Access.{Access}
use Rattle.task.specs.Task.{accesses_of}
use Rattle.order.specs.Steps.{Step}
use Rattle.roll.specs.Roll.{find, running}
use Rattle.roll.specs.Calls.{State, Outcome, refused, finished, finished_at}
use Rattle.seat.specs.declared.Standing.{Standing}
use Rattle.seat.specs.declared.Standing.TheVariants.{Free, Waiting, Ready, Running}
use Rattle.seat.specs.declared.Phase.TheVariants.{Bring, Put, Done}
use Rattle.seat.specs.Phases.{standing_of, sound_standing}
use Rattle.seat.proofs.Laws.{bring_steps, put_steps}
use Rattle.manager.specs.declared.inner.Inner.{Inner}
use Rattle.manager.specs.Model.{seat_at, roll_of, state_of}
use Rattle.manager.specs.Answers.{no_values}
use Rattle.manager.specs.Finished.{may_finish}
use Rattle.manager.specs.Sound.{Seated, is_free}
use Rattle.manager.proofs.Seats.{roll_found, roll_none}

module _ (i : Inner) (seated : Seated i) (s : ℕ) where
  -- the state, the accesses of the seat's task, and the outcome of its finish
  abbrev pub here : State (Unit {0})
  here = state_of i no_values

  abbrev accesses : List Access
  accesses = accesses_of (seat_at i s).task

  abbrev pub outcome : Outcome (Unit {0})
  outcome = finished_at here s (find s (roll_of i))

  -- a refusal is that of the roll, and a seat that may finish is that of a task with no step left
  abbrev pub Agrees : Result ℕ ManagerFault → Type 0
  Agrees (Err fault) = outcome ≡ refused fault
  Agrees (Ok t) = (t ≡ s) × (outcome ≡ finished here s (running []))

  -- a seat that has a task goes by its standing
  there : (st : Standing) → (seat_at i s).standing ≡ st → is_free st ≡ false → outcome ≡ finished here s (standing_of accesses st)
  there st e f = ap (finished_at here s) (roll_found i seated s (ap is_free e ∙ f)) ∙ ap (λ (x : Standing). finished here s (standing_of accesses x)) e

  -- a running task is in a phase that its accesses allow
  phase_sound : (st : Standing) → (seat_at i s).standing ≡ st → sound_standing accesses st ≡ true
  phase_sound st e = ap (sound_standing accesses) (sym e) ∙ (seat_at i s).phased

  agrees : (st : Standing) → (seat_at i s).standing ≡ st → Agrees (may_finish s st)
  agrees Free e = ap (finished_at here s) (roll_none i seated s (ap is_free e))
  agrees Waiting e = there Waiting e refl
  agrees Ready e = there Ready e refl
  agrees (Running (Bring a n)) e = there (Running (Bring a n)) e refl ∙ ap (λ (ss : List Step). finished here s (running ss)) (bring_steps accesses a n (phase_sound (Running (Bring a n)) e))
  agrees (Running (Put a n)) e = there (Running (Put a n)) e refl ∙ ap (λ (ss : List Step). finished here s (running ss)) (put_steps accesses a n (phase_sound (Running (Put a n)) e))
  agrees (Running Done) e = (refl, there (Running Done) e refl)

  -- so what the check of the seat answers agrees with the roll
  pub finish_agrees : (r : Result ℕ ManagerFault) → r ≡ may_finish s (seat_at i s).standing → Agrees r
  finish_agrees r e = subst Agrees (sym e) (agrees (seat_at i s).standing refl)

-- only a running task with no step left may finish
pub finish_done : (s t : ℕ) (st : Standing) → ◌≡◌ {A = Result ℕ ManagerFault} (Ok t) (may_finish s st) → st ≡ Running Done
finish_done s t Free e = absurd cc
finish_done s t Waiting e = absurd cc
finish_done s t Ready e = absurd cc
finish_done s t (Running (Bring a n)) e = absurd cc
finish_done s t (Running (Put a n)) e = absurd cc
finish_done s t (Running Done) e = refl
