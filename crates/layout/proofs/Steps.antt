-- The steps of a reader: what it gives after a value, and what lies behind a value that it gives. Assumes nothing.
use Rattle.std.proofs.Common.{◌≡◌, ℕ, Bool, true, false, cond, List, Ok, Err, refl, ap, arith}
use Rattle.fault.specs.declared.StreamFault.{StreamFault}
use Rattle.layout.specs.Reading.{Read, then}

-- a fault is no value
pub no_value : {A : Type 0} (x : StreamFault) (p : A × List ℕ) → ◌≡◌ {A = Read A} (Err x) (Ok p) → ⊥
no_value x p e = let z : ◌≡◌ {A = ℕ} 0 1 = cc in omega arith

-- equal readings have equal values, and equal bytes behind them
pub ok_parts : {A : Type 0} (p q : A × List ℕ) → ◌≡◌ {A = Read A} (Ok p) (Ok q) → (p.0 ≡ q.0) × (p.1 ≡ q.1)
ok_parts {A} p q e = let is : p ≡ q = cc in (ap (λ (r : A × List ℕ). r.0) is, ap (λ (r : A × List ℕ). r.1) is)

-- a value was read, and going on with it gives one
pub then_ok : {A B : Type 0} (r : Read A) (f : A → List ℕ → Read B) (q : A × List ℕ) (p : B × List ℕ) → r ≡ Ok q → f q.0 q.1 ≡ Ok p → then r f ≡ Ok p
then_ok r f q p e more = rw e more

-- a reader gives p: it had read a value, and went on with that
pub record Steps {A B : Type 0} (r : Read A) (f : A → List ℕ → Read B) (p : B × List ℕ) : Type 0 where
  pub value : A
  pub rest : List ℕ
  pub reads : r ≡ Ok (value, rest)
  pub goes : f value rest ≡ Ok p

-- what lies behind a reading of two steps
pub then_steps : {A B : Type 0} (r : Read A) (f : A → List ℕ → Read B) (p : B × List ℕ) → then r f ≡ Ok p → Steps r f p
then_steps (Ok q) f p e = record { value = q.0; rest = q.1; reads = refl; goes = e }
then_steps (Err x) f p e = absurd (no_value x p e)

-- the reader gave a value, so the test for a fault failed
pub fault_unless : {A : Type 0} (b : Bool) (x : StreamFault) (r : Read A) (p : A × List ℕ) → cond b (Err x) r ≡ Ok p → (b ≡ false) × (r ≡ Ok p)
fault_unless true x r p e = absurd (no_value x p e)
fault_unless false x r p e = (refl, e)

-- the reader gave a value, so the test for no fault passed
pub fault_if_not : {A : Type 0} (b : Bool) (x : StreamFault) (r : Read A) (p : A × List ℕ) → cond b r (Err x) ≡ Ok p → (b ≡ true) × (r ≡ Ok p)
fault_if_not true x r p e = (refl, e)
fault_if_not false x r p e = absurd (no_value x p e)
