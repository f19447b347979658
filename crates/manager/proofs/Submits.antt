-- What a submission comes to, by what each check answers. Assumes nothing.
--   apart_from          a task without a repeated address has its addresses apart
--   seat_refuses        the fault of the tables
--   seat_gives          no fault, and the first free seat
use Rattle.std.proofs.Common.{◌≡◌, ℕ, suc, ◌+◌, ◌<◌, ◌≤◌, Bool, true, false, cond, eqb, ltb, List, [], ◌∷◌, length, take, Some, None, Ok, Err, Option, refl, ap, ◌∙◌, subst, arith}
use Rattle.std.proofs.lemmas.Bool.{or_parts, or_from}
use Rattle.fault.specs.declared.TableFault.{TableFault}
use Rattle.fault.specs.declared.TableFault.TheVariants.{NeverFits}
use Rattle.fault.specs.declared.ManagerFault.{ManagerFault}
use Rattle.fault.specs.declared.ManagerFault.TheVariants.{Table, TooManyAccesses, RepeatedAddress, NotHeld}
use Rattle.task.specs.declared.Access.{Access}
use Rattle.task.specs.Limits.{max_accesses}
use Rattle.admission.specs.Admission.{address_at, occurs, repeated, not_held, fault_at, task_fault, unless}
use Rattle.admission.proofs.Sound.{nowhere, no_fault}
use Rattle.order.proofs.Update.{eqb_flip}
use Rattle.claims.specs.Queues.{Apart}
use Rattle.roll.specs.Tables.{Tables, never_fits, stall, by_tables, or_else, submit_fault}
use Rattle.roll.specs.Calls.{State, Outcome, refused, succeeded, give_seat, submitted, accepted}
use Rattle.host.specs.Meaning.{Values}
use Rattle.manager.specs.declared.inner.Inner.{Inner}
use Rattle.manager.specs.Model.{state_of}
use Rattle.manager.specs.Answers.{no_values}
use Rattle.manager.specs.Entered.{table_fault, seat_unless}

-- an address that is that of none of the accesses does not occur
occurs_none : (a : ℕ) (xs : List Access) → ((k : ℕ) → k < length xs → eqb a (address_at xs k) ≡ false) → occurs a xs ≡ false
occurs_none a [] h = refl
occurs_none a (x ∷ xs) h = or_from (eqb x.address a) (occurs a xs) (eqb_flip a x.address (h 0 (omega arith))) (occurs_none a xs (λ k lt. h (suc k) (omega arith)))

-- addresses that do not occur earlier are apart
apart_by : (xs : List Access) → ((k : ℕ) → k < length xs → occurs (address_at xs k) (take k xs) ≡ false) → Apart xs
apart_by [] h = tt
apart_by (x ∷ xs) h = (
  occurs_none x.address xs (λ k lt. (or_parts (eqb x.address (address_at xs k)) (occurs (address_at xs k) (take k xs)) (h (suc k) (omega arith))).0),
  apart_by xs (λ k lt. (or_parts (eqb x.address (address_at xs k)) (occurs (address_at xs k) (take k xs)) (h (suc k) (omega arith))).1),
)

-- a task without a fault of its own
sound_task : (held : ℕ → Bool) (xs : List Access) (b : Bool) → ltb max_accesses (length xs) ≡ b →
    cond b (Some TooManyAccesses) (fault_at (repeated xs) RepeatedAddress (fault_at (not_held held xs) NotHeld None)) ≡ None → (length xs ≤ 15) × Apart xs
sound_task held xs true q e = absurd cc
sound_task held xs false q e =
    let none : repeated xs ≡ None = (no_fault (repeated xs) RepeatedAddress (fault_at (not_held held xs) NotHeld None) e).0 in
    (grind arith, apart_by xs (λ k lt. let z : 0 + k ≡ k = omega arith in subst (λ (n : ℕ). occurs (address_at xs n) (take n xs) ≡ false) z (nowhere (λ i. occurs (address_at xs i) (take i xs)) (length xs) 0 none k lt)))

pub apart_from : (held : ℕ → Bool) (xs : List Access) → task_fault held xs ≡ None → (length xs ≤ 15) × Apart xs
apart_from held xs e = sound_task held xs (ltb max_accesses (length xs)) refl e

-- what the check of the task says
pub unless_ok : (o : Option ManagerFault) (u : Unit {0}) → Ok u ≡ unless o → o ≡ None
unless_ok None u e = refl
unless_ok (Some f) u e = absurd cc

-- what the tables refuse is a fault of the manager
tables_fault : (b : Bool) (s : Option TableFault) → or_else (cond b (Some (Table NeverFits)) None) (by_tables s) ≡ by_tables (cond b (Some NeverFits) s)
tables_fault true s = refl
tables_fault false s = refl

module _ {V : Type 0} (b : State V) (name kind : ℕ) (xs : List Access) (z : Tables) (held : ℕ → Bool) where
  -- the outcome of the submission
  abbrev pub submission : Outcome V
  submission = submitted b name kind xs (submit_fault z held b.roll b.free_line xs) (give_seat b.free_line)

  -- without one, the faults are those of the tables
  by_the_tables : task_fault held xs ≡ None → submission ≡ submitted b name kind xs (by_tables (table_fault z b.roll b.free_line xs)) (give_seat b.free_line)
  by_the_tables e =
      ap (λ (o : Option ManagerFault). submitted b name kind xs (or_else (or_else o (cond (never_fits z xs) (Some (Table NeverFits)) None)) (by_tables (stall z b.roll b.free_line xs))) (give_seat b.free_line)) e
      ∙ ap (λ (o : Option ManagerFault). submitted b name kind xs o (give_seat b.free_line)) (tables_fault (never_fits z xs) (stall z b.roll b.free_line xs))

  refuses_by : (o : Option TableFault) (free : List ℕ) (f : TableFault) → Err f ≡ seat_unless o free → submitted b name kind xs (by_tables o) (give_seat free) ≡ refused (Table f)
  refuses_by (Some f') free f e = cc
  refuses_by None [] f e = cc
  refuses_by None (s ∷ free) f e = absurd cc

  -- the tables refuse
  pub seat_refuses : task_fault held xs ≡ None → (f : TableFault) → Err f ≡ seat_unless (table_fault z b.roll b.free_line xs) b.free_line → submission ≡ refused (Table f)
  seat_refuses e f u = by_the_tables e ∙ refuses_by (table_fault z b.roll b.free_line xs) b.free_line f u

  gives_by : (o : Option TableFault) (free : List ℕ) (s : ℕ) → Ok s ≡ seat_unless o free →
      (o ≡ None) × ((rest : List ℕ) × (free ≡ s ∷ rest) × (submitted b name kind xs (by_tables o) (give_seat free) ≡ succeeded (accepted b name kind xs s rest)))
  gives_by (Some f) free s e = absurd cc
  gives_by None [] s e = absurd cc
  gives_by None (t ∷ free) s e = let same : t ≡ s = cc in (refl, (free, ap (λ (x : ℕ). x ∷ free) same, ap (λ (x : ℕ). succeeded (accepted b name kind xs x free)) same))

  -- the task gets the first free seat
  pub seat_gives : task_fault held xs ≡ None → (s : ℕ) → Ok s ≡ seat_unless (table_fault z b.roll b.free_line xs) b.free_line →
      (table_fault z b.roll b.free_line xs ≡ None) × ((rest : List ℕ) × (b.free_line ≡ s ∷ rest) × (submission ≡ succeeded (accepted b name kind xs s rest)))
  seat_gives e s u =
      let r = gives_by (table_fault z b.roll b.free_line xs) b.free_line s u in
      (r.0, (r.1.0, r.1.1, by_the_tables e ∙ r.1.2))

-- the state after a task entered, beside any values
pub entered_beside : {V : Type 0} (i j : Inner) (w : Values V) (name kind name' kind' : ℕ) (xs xs' : List Access) (s : ℕ) (rest : List ℕ) → name ≡ name' → kind ≡ kind' → xs ≡ xs' →
    state_of j no_values ≡ (accepted (state_of i no_values) name kind xs s rest).state → state_of j w ≡ (accepted (state_of i w) name' kind' xs' s rest).state
entered_beside i j w name kind name' kind' xs xs' s rest p q r e =
    let f : state_of j no_values ≡ (accepted (state_of i no_values) name' kind' xs' s rest).state = e ∙ (λ k. (accepted (state_of i no_values) (p k) (q k) (r k) s rest).state) in
    λ k. record { roll = (f k).roll; ready_line = (f k).ready_line; free_line = (f k).free_line; values = w }
