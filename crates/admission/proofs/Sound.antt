-- What a check that finds no fault says of a task. Assumes nothing.
use Rattle.std.proofs.Common.{◌≡◌, ℕ, zero, suc, ◌+◌, ◌<◌, Bool, true, false, cond, not, ltb, List, length, Some, None, Ok, Err, Option, Result, refl, ap, ◌∙◌, le_of_suc-le-suc, not-suc-le-zero, arith}
use Rattle.std.proofs.lemmas.Bool.{not-false}
use Rattle.fault.specs.declared.ManagerFault.{ManagerFault}
use Rattle.fault.specs.declared.ManagerFault.TheVariants.{TooManyAccesses, RepeatedAddress, NotHeld}
use Rattle.task.specs.declared.Access.{Access}
use Rattle.task.specs.Limits.{max_accesses}
use Rattle.admission.specs.Admission.{first_from, address_at, repeated, not_held, fault_at, task_fault, unless}

-- a test that holds at none of some numbers fails at the first of them, and holds at none of the others
not_here : (b : Bool) (i : ℕ) (r : Option ℕ) → cond b (Some i) r ≡ None → (b ≡ false) × (r ≡ None)
not_here true i r e = absurd cc
not_here false i r e = (refl, e)

-- so it fails at each of them
pub nowhere : (p : ℕ → Bool) (n i : ℕ) → first_from p i n ≡ None → (k : ℕ) → k < n → p (i + k) ≡ false
nowhere p zero i e k lt = absurd (not-suc-le-zero lt)
nowhere p (suc n) i e zero lt = let z : i + 0 ≡ i = omega arith in ap p z ∙ (not_here (p i) i (first_from p (suc i) n) e).0
nowhere p (suc n) i e (suc k) lt =
    let s : i + suc k ≡ suc i + k = omega arith in
    ap p s ∙ nowhere p n (suc i) (not_here (p i) i (first_from p (suc i) n) e).1 k (le_of_suc-le-suc lt)

-- a check that passes has no fault
pub passes_sound : (f : Option ManagerFault) → ◌≡◌ {A = Result (Unit {0}) ManagerFault} (Ok tt) (unless f) → f ≡ None
passes_sound None e = refl
passes_sound (Some fault) e = absurd cc

-- and one that fails has this one
pub fails_at : (f : Option ManagerFault) (fault : ManagerFault) → ◌≡◌ {A = Result (Unit {0}) ManagerFault} (Err fault) (unless f) → f ≡ Some fault
fails_at None fault e = absurd cc
fails_at (Some other) fault e = cc

no_first : (b : Bool) (fault : ManagerFault) (next : Option ManagerFault) → cond b (Some fault) next ≡ None → next ≡ None
no_first true fault next e = absurd cc
no_first false fault next e = e

pub no_fault : (r : Option ℕ) (fault : ℕ → ManagerFault) (next : Option ManagerFault) → fault_at r fault next ≡ None → (r ≡ None) × (next ≡ None)
no_fault None fault next e = (refl, e)
no_fault (Some i) fault next e = absurd cc

-- a task without a fault has only addresses that are held
pub all_held : (held : ℕ → Bool) (xs : List Access) → task_fault held xs ≡ None → (k : ℕ) → k < length xs → held (address_at xs k) ≡ true
all_held held xs e k lt =
    let second = no_first (ltb max_accesses (length xs)) TooManyAccesses _ e in
    let third = (no_fault (repeated xs) RepeatedAddress _ second).1 in
    let none = (no_fault (not_held held xs) NotHeld None third).0 in
    let z : 0 + k ≡ k = omega arith in
    not-false (held (address_at xs k)) (rw z at (nowhere (λ i. not (held (address_at xs i))) (length xs) 0 none k lt))
