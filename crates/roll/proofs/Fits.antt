-- What a submission without a lasting fault comes to, and that beside an empty roll it does not stall. Assumes nothing.
use Rattle.std.proofs.Common.{◌≡◌, ℕ, ◌+◌, ◌≤◌, Bool, true, false, cond, ◌||◌, eqb, ltb, List, [], ◌∷◌, length, is_some, Some, None, Option, sym, refl, ap, ◌∙◌, subst, ap₂, zero-add, arith}
use mathlib.Core.Path.{fun_ext}
use Rattle.std.proofs.lemmas.Bool.{true≢false, eqb-false, ltb-false, le-ltb, or_parts, or_right}
use Rattle.fault.specs.declared.TableFault.{TableFault}
use Rattle.fault.specs.declared.TableFault.TheVariants.{NeverFits, TooFewVersions}
use Rattle.fault.specs.declared.ManagerFault.{ManagerFault}
use Rattle.fault.specs.declared.ManagerFault.TheVariants.{TooManyAccesses, RepeatedAddress, NotHeld, Table}
use Rattle.fault.specs.Numbers.{manager_number}
use Rattle.task.specs.declared.Access.{Access}
use Rattle.task.specs.Access.{writes}
use Rattle.task.specs.Limits.{max_accesses}
use Rattle.host.specs.Meaning.{Fixed}
use Rattle.admission.specs.Admission.{repeated, not_held, fault_at, task_fault}
use Rattle.admission.proofs.Sound.{all_held}
use Rattle.one_at_a_time.specs.Alone.{AllHeld}
use Rattle.one_at_a_time.proofs.Whole.{held_all}
use Rattle.roll.specs.Roll.{Roll}
use Rattle.roll.specs.Tables.{Tables, tally, needs, fresh, occupied, crowded, never_fits, missing, full_set, stall, by_tables, or_else, lasting_fault, submit_fault}
use Rattle.roll.specs.Calls.{State, submit, give_seat, submitted}
use Rattle.roll.specs.History.{enters}
use Rattle.roll.specs.Law.{Stalls}
use Rattle.roll.proofs.Split.{none_some}
use Rattle.roll.proofs.ByCall.{both_none}

-- a fault that is no stall has a number up to 9
abbrev Early : Option ManagerFault → Type 0
Early None = Unit {0}
Early (Some fault) = manager_number fault ≤ 9

-- the first of two such faults, one behind a test, and one at an access
early_or : (f g : Option ManagerFault) → Early f → Early g → Early (or_else f g)
early_or None g h k = k
early_or (Some fault) g h k = h

early_if : (b : Bool) (fault : ManagerFault) (next : Option ManagerFault) → manager_number fault ≤ 9 → Early next → Early (cond b (Some fault) next)
early_if true fault next h k = h
early_if false fault next h k = k

early_at : (o : Option ℕ) (fault : ℕ → ManagerFault) (next : Option ManagerFault) → ((i : ℕ) → manager_number (fault i) ≤ 9) → Early next → Early (fault_at o fault next)
early_at None fault next h k = k
early_at (Some i) fault next h k = h i

-- a lasting fault is no stall
early_lasting : (z : Tables) (held : ℕ → Bool) (xs : List Access) → Early (lasting_fault z held xs)
early_lasting z held xs =
    early_or (task_fault held xs) _
    (early_if (ltb max_accesses (length xs)) TooManyAccesses _ (omega arith)
    (early_at (repeated xs) RepeatedAddress _ (λ i. omega arith) (early_at (not_held held xs) NotHeld None (λ i. omega arith) tt)))
    (early_if (never_fits z xs) (Table NeverFits) None (omega arith) tt)

-- a submission without a lasting fault
pub record Fitting {V : Type 0} (z : Tables) (h : Fixed V) (xs : List Access) : Type 0 where
  pub few : length xs ≤ max_accesses
  pub held : AllHeld h xs
  pub some_seat : 1 ≤ z.seats
  pub versions : length xs ≤ z.versions
  pub spread : crowded (λ set. fresh z [] set xs) ≡ None

-- a test that leads to no fault fails
test_fails : (b : Bool) (fault : ManagerFault) (next : Option ManagerFault) → cond b (Some fault) next ≡ None → b ≡ false
test_fails true fault next e = absurd (none_some fault (sym e))
test_fails false fault next e = refl

-- an option that is not full is empty
is_none : (o : Option ℕ) → is_some o ≡ false → o ≡ None
is_none None e = refl
is_none (Some i) e = absurd (true≢false e)

-- without a lasting fault the task is within every limit
pub fitting : {V : Type 0} (z : Tables) (h : Fixed V) (xs : List Access) → lasting_fault z h.held xs ≡ None → Fitting z h xs
fitting z h xs e =
    let c : Option ℕ = crowded (λ set. fresh z [] set xs) in
    let p : (task_fault h.held xs ≡ None) × (cond (never_fits z xs) (Some (Table NeverFits)) None ≡ None) = both_none _ _ e in
    let q : (eqb z.seats 0 ≡ false) × ((ltb z.versions (length xs) || is_some c) ≡ false) = or_parts _ _ (test_fails (never_fits z xs) (Table NeverFits) None p.1) in
    let r : (ltb z.versions (length xs) ≡ false) × (is_some c ≡ false) = or_parts _ _ q.1 in
    record {
      few = ltb-false max_accesses (length xs) (test_fails (ltb max_accesses (length xs)) TooManyAccesses _ p.0);
      held = held_all h xs (all_held h.held xs p.0);
      some_seat = omega (arith, eqb-false z.seats 0 q.0);
      versions = ltb-false z.versions (length xs) r.0;
      spread = is_none c r.1;
    }

-- beside an empty roll a submission needs a version for each access
needs_empty : (xs : List Access) → needs [] xs ≡ length xs
needs_empty [] = refl
needs_empty (x ∷ xs) = omega (arith, ap tally (or_right (writes x) true refl), needs_empty xs)

-- and does not stall if a seat is free
fits_empty : {V : Type 0} (z : Tables) (h : Fixed V) (xs : List Access) → Fitting z h xs → (free : List ℕ) → 1 ≤ length free → stall z [] free xs ≡ None
fits_empty z h xs f [] le = absurd (omega (arith, le))
fits_empty z h xs f (s ∷ free) le =
    ap (λ (b : Bool). cond b (Some (TooFewVersions (missing z [] xs))) (full_set (crowded (λ set. occupied z set [] [] + fresh z [] set xs))))
    (le-ltb 0 (missing z [] xs) (omega (arith, needs_empty xs, f.versions)))
    ∙ ap (λ (count : ℕ → ℕ). full_set (crowded count)) (fun_ext (λ set. zero-add (fresh z [] set xs)))
    ∙ ap full_set f.spread

-- so it has no fault at all
pub no_fault : {V : Type 0} (z : Tables) (h : Fixed V) (xs : List Access) → lasting_fault z h.held xs ≡ None → (roll : Roll) (free : List ℕ) → roll ≡ [] → 1 ≤ length free →
    submit_fault z h.held roll free xs ≡ None
no_fault z h xs e roll free empty le =
    subst (λ (r : Roll). submit_fault z h.held r free xs ≡ None) (sym empty)
    (ap₂ (λ (f : Option ManagerFault) (g : Option TableFault). or_else f (by_tables g)) e (fits_empty z h xs (fitting z h xs e) free le))

-- a submission without a fault is accepted if a seat is free
pub enters_if : {V : Type 0} (b : State V) (name kind : ℕ) (xs : List Access) (f : Option ManagerFault) (free : List ℕ) → f ≡ None → 1 ≤ length free →
    enters (submit name kind xs) (submitted b name kind xs f (give_seat free)) ≡ 1
enters_if b name kind xs (Some fault) free e le = absurd (none_some fault (sym e))
enters_if b name kind xs None [] e le = absurd (omega (arith, le))
enters_if b name kind xs None (s ∷ free) e le = refl

-- a submission that stalls has no lasting fault
stall_late : {V : Type 0} (b : State V) (name kind : ℕ) (xs : List Access) (f g : Option ManagerFault) (o : Option (ℕ × List ℕ)) → Early f → Stalls (submitted b name kind xs (or_else f g) o) → f ≡ None
stall_late b name kind xs (Some fault) g o early s = absurd (omega (arith, early, s.0))
stall_late b name kind xs None g o early s = refl

-- so it is with the lasting fault of a submission
pub stalls_none : {V : Type 0} (z : Tables) (held : ℕ → Bool) (b : State V) (name kind : ℕ) (xs : List Access) (g : Option ManagerFault) (o : Option (ℕ × List ℕ)) →
    Stalls (submitted b name kind xs (or_else (lasting_fault z held xs) g) o) → lasting_fault z held xs ≡ None
stalls_none z held b name kind xs g o s = stall_late b name kind xs (lasting_fault z held xs) g o (early_lasting z held xs) s
