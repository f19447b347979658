-- A function changed at one argument: its value there and elsewhere, and two changes at different arguments. Assumes nothing.
use Rattle.std.proofs.Common.{◌≡◌, ℕ, Bool, true, false, cond, eqb, sym, refl, ◌∙◌}
use mathlib.Core.Path.{fun_ext}
use Rattle.std.proofs.lemmas.Bool.{eq-eqb, ne_eqb, eqb-true, eqb-false, cond-true, cond-false}
use Rattle.host.specs.Meaning.{update}

-- that two numbers differ, the other way round
pub eqb_flip : (a b : ℕ) → eqb a b ≡ false → eqb b a ≡ false
eqb_flip a b ne = ne_eqb b a (λ e. eqb-false a b ne (sym e))

-- two tests that do not both hold may be made in either order
either_first : {A : Type 0} (p q : Bool) (u v w : A) → (p ≡ true → q ≡ true → ⊥) → cond p u (cond q v w) ≡ cond q v (cond p u w)
either_first true true u v w not-both = absurd (not-both refl refl)
either_first true false u v w not-both = refl
either_first false true u v w not-both = refl
either_first false false u v w not-both = refl

module _ {A : Type 0} (f : ℕ → A) (a : ℕ) (v : A) where
  -- the value at the changed argument
  pub update_here : update f a v a ≡ v
  update_here = cond-true (eqb a a) v (f a) (eq-eqb a a refl)

  -- the value at another argument
  pub update_other : (b : ℕ) → eqb b a ≡ false → update f a v b ≡ f b
  update_other b ne = cond-false (eqb b a) v (f b) ne

  -- changes at two different arguments, in either order
  pub update_commute : (b : ℕ) (u : A) → eqb a b ≡ false → update (update f a v) b u ≡ update (update f b u) a v
  update_commute b u ne =
      fun_ext (λ x. either_first (eqb x b) (eqb x a) u v (f x) (λ p q. eqb-false a b ne (sym (eqb-true x a q) ∙ eqb-true x b p)))
