-- A call is refused, or it is one of four that succeed, each with what led there: all cases of `perform`. Assumes nothing.
use Rattle.std.proofs.Common.{◌≡◌, ℕ, List, [], ◌∷◌, Some, None, Option, sym, refl, ap}
use Rattle.fault.specs.declared.TableFault.TheVariants.{NoFreeSeat}
use Rattle.fault.specs.declared.ManagerFault.{ManagerFault}
use Rattle.fault.specs.declared.ManagerFault.TheVariants.{Table, NotRunning, NoStepLeft, StepsLeft, LineEmpty}
use Rattle.task.specs.declared.Access.{Access}
use Rattle.order.specs.Steps.{Step}
use Rattle.roll.specs.Roll.{Standing, waiting, ready, running, Entry, stand, find}
use Rattle.roll.specs.Tables.{or_else, lasting_fault, submit_fault}
use Rattle.roll.specs.Calls.{Setting, State, Call, submit, take, step, finish, Outcome, refused, succeeded, give_seat, accepted, submitted, begun, begun_at, took, stepped, stepped_at, finished, finished_at, perform}
use Rattle.roll.proofs.Split.{none_some, some_is}

-- the free line of which a seat was given
given : (line : List ℕ) (p : ℕ × List ℕ) → give_seat line ≡ Some p → line ≡ p.0 ∷ p.1
given [] p e = absurd (none_some p e)
given (s ∷ free) p e = ap (λ (q : ℕ × List ℕ). q.0 ∷ q.1) (some_is (s, free) p e)

-- where the first of two faults is none, both are
pub both_none : (f g : Option ManagerFault) → or_else f g ≡ None → (f ≡ None) × (g ≡ None)
both_none None g e = (refl, e)
both_none (Some fault) g e = absurd (none_some fault (sym e))

module _ {V : Type 0} (m : Setting V) (b : State V) (P : Call → Outcome V → Type 0) (no : (c : Call) (fault : ManagerFault) → P c (refused fault)) where
  -- what is to be shown of an accepted submission, a take, a step and a finish that succeed
  abbrev Enters : Type 0
  Enters = (name kind : ℕ) (xs : List Access) (s : ℕ) (free : List ℕ) → b.free_line ≡ s ∷ free → lasting_fault m.tables m.host.held xs ≡ None →
      P (submit name kind xs) (succeeded (accepted b name kind xs s free))

  abbrev Begins : Type 0
  Begins = (s : ℕ) (line : List ℕ) (e : Entry) → b.ready_line ≡ s ∷ line → find s b.roll ≡ Some (stand ready e) → P take (begun b s line e ready)

  abbrev Goes : Type 0
  Goes = (s : ℕ) (e : Entry) (σ : Step) (ss : List Step) → find s b.roll ≡ Some (stand (running (σ ∷ ss)) e) → P (step s) (stepped m.host b s e.job (running (σ ∷ ss)))

  abbrev Leaves : Type 0
  Leaves = (s : ℕ) (e : Entry) → find s b.roll ≡ Some (stand (running []) e) → P (finish s) (finished b s (running []))

  -- a submission, by its fault and the seat that is given
  by_submit : Enters → (name kind : ℕ) (xs : List Access) (f : Option ManagerFault) (o : Option (ℕ × List ℕ)) →
      submit_fault m.tables m.host.held b.roll b.free_line xs ≡ f → give_seat b.free_line ≡ o → P (submit name kind xs) (submitted b name kind xs f o)
  by_submit enters name kind xs (Some fault) o q e = no (submit name kind xs) fault
  by_submit enters name kind xs None None q e = no (submit name kind xs) (Table NoFreeSeat)
  by_submit enters name kind xs None (Some p) q e =
      enters name kind xs p.0 p.1 (given b.free_line p e) (both_none (lasting_fault m.tables m.host.held xs) _ q).0

  -- a take: by the standing of the entry, by the entry that is found, and by the ready line
  by_begun : Begins → (s : ℕ) (line : List ℕ) (e : Entry) (st : Standing) → b.ready_line ≡ s ∷ line → find s b.roll ≡ Some (stand st e) → P take (begun b s line e st)
  by_begun begins s line e waiting q f = no take LineEmpty
  by_begun begins s line e ready q f = begins s line e q f
  by_begun begins s line e (running ss) q f = no take LineEmpty

  by_found : Begins → (s : ℕ) (line : List ℕ) (o : Option Entry) → b.ready_line ≡ s ∷ line → find s b.roll ≡ o → P take (begun_at b s line o)
  by_found begins s line None q f = no take LineEmpty
  by_found begins s line (Some e) q f = by_begun begins s line e e.standing q f

  by_take : Begins → (line : List ℕ) → b.ready_line ≡ line → P take (took b line)
  by_take begins [] q = no take LineEmpty
  by_take begins (s ∷ line) q = by_found begins s line (find s b.roll) q refl

  -- a step: by the standing of the entry, and by the entry that is found
  by_stepped : Goes → (s : ℕ) (e : Entry) (st : Standing) → find s b.roll ≡ Some (stand st e) → P (step s) (stepped m.host b s e.job st)
  by_stepped goes s e waiting f = no (step s) (NotRunning s)
  by_stepped goes s e ready f = no (step s) (NotRunning s)
  by_stepped goes s e (running []) f = no (step s) (NoStepLeft s)
  by_stepped goes s e (running (σ ∷ ss)) f = goes s e σ ss f

  by_step : Goes → (s : ℕ) (o : Option Entry) → find s b.roll ≡ o → P (step s) (stepped_at m.host b s o)
  by_step goes s None f = no (step s) (NotRunning s)
  by_step goes s (Some e) f = by_stepped goes s e e.standing f

  -- a finish, likewise
  by_finished : Leaves → (s : ℕ) (e : Entry) (st : Standing) → find s b.roll ≡ Some (stand st e) → P (finish s) (finished b s st)
  by_finished leaves s e waiting f = no (finish s) (NotRunning s)
  by_finished leaves s e ready f = no (finish s) (NotRunning s)
  by_finished leaves s e (running (σ ∷ ss)) f = no (finish s) (StepsLeft s)
  by_finished leaves s e (running []) f = leaves s e f

  by_finish : Leaves → (s : ℕ) (o : Option Entry) → find s b.roll ≡ o → P (finish s) (finished_at b s o)
  by_finish leaves s None f = no (finish s) (NotRunning s)
  by_finish leaves s (Some e) f = by_finished leaves s e e.standing f

  -- what holds of every refusal and of the four that succeed holds of every call and its outcome
  pub by_call : Enters → Begins → Goes → Leaves → (c : Call) → P c (perform m b c)
  by_call enters begins goes leaves (submit name kind xs) = by_submit enters name kind xs (submit_fault m.tables m.host.held b.roll b.free_line xs) (give_seat b.free_line) refl refl
  by_call enters begins goes leaves take = by_take begins b.ready_line refl
  by_call enters begins goes leaves (step s) = by_step goes s (find s b.roll) refl
  by_call enters begins goes leaves (finish s) = by_finish leaves s (find s b.roll) refl
