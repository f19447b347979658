-- A function changed at one argument: its value there, and at any other. Assumes nothing.
use Rattle.std.proofs.Common.{◌≡◌, ℕ, cond, ap}
use Rattle.std.proofs.lemmas.Bool.{ne_eqb, eq-eqb}
use Rattle.host.specs.Meaning.{update}

-- at the argument
pub update_same : {A : Type 0} (M : ℕ → A) (a : ℕ) (st : A) (b : ℕ) → b ≡ a → update M a st b ≡ st
update_same M a st b e = ap (λ v. cond v st (M b)) (eq-eqb b a e)

-- at another
pub update_other : {A : Type 0} (M : ℕ → A) (a : ℕ) (st : A) (b : ℕ) → (b ≡ a → ⊥) → update M a st b ≡ M b
update_other M a st b ne = ap (λ v. cond v st (M b)) (ne_eqb b a ne)
