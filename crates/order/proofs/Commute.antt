-- A step of one task and a step of another commute, where the seats differ and no address that one of them puts is an address of
-- the other. Assumes nothing.
use Rattle.std.proofs.Common.{◌≡◌, ℕ, Bool, true, false, cond, ◌&&◌, eqb, ltb, leb, length, sym, refl, ap, ◌∙◌, ap₂}
use Rattle.task.specs.Access.{readers}
use Rattle.host.specs.Meaning.{Fixed, Values, update, row, copied, worked, seats, positions}
use Rattle.order.specs.Steps.{Step, bring, put, Job, done}
use Rattle.order.proofs.Update.{eqb_flip, update_other, update_commute}

-- how many values a task reads
abbrev pub size : Job → ℕ
size j = length (readers j.accesses)

-- steps of which neither puts an address of the other
abbrev pub Apart : Step → Step → Type 0
Apart (bring x p) (bring y q) = Unit {0}
Apart (bring x p) (put y) = eqb x.address y.address ≡ false
Apart (put x) (bring y q) = eqb x.address y.address ≡ false
Apart (put x) (put y) = eqb x.address y.address ≡ false

-- functions that commute do so too where each is applied only if a test holds
tested : {W : Type 0} (f g : W → W) → ((w : W) → g (f w) ≡ f (g w)) → (b c : Bool) (w : W) →
    cond c (g (cond b (f w) w)) (cond b (f w) w) ≡ cond b (f (cond c (g w) w)) (cond c (g w) w)
tested f g same true true w = same w
tested f g same true false w = refl
tested f g same false true w = refl
tested f g same false false w = refl

-- what a change leaves as it was, the change under a test does
cond_keeps : {W X : Type 0} (P : W → X) (b : Bool) (v w : W) → P v ≡ P w → P (cond b v w) ≡ P w
cond_keeps P true v w e = e
cond_keeps P false v w e = refl

module _ {V : Type 0} (h : Fixed V) where
  -- values of their two parts
  abbrev both : (ℕ → V) → (ℕ → ℕ → V) → Values V
  both at aside = record { at = at; aside = aside }

  -- the host's test of a step, and what the step does if it holds
  abbrev pub may : Job → Step → Bool
  may j (bring x p) = h.held x.address && (ltb j.seat seats && ltb p positions)
  may j (put x) = h.held x.address && (ltb j.seat seats && leb (size j) positions)

  abbrev pub change : Job → Step → Values V → Values V
  change j (bring x p) w = copied x.address j.seat p w
  change j (put x) w = worked h j.kind x.number (size j) j.seat x.address w

  -- what the change leaves as it was, the step does
  pub step_keeps : {X : Type 0} (P : Values V → X) (j : Job) (σ : Step) (w : Values V) → P (change j σ w) ≡ P w → P (done h j σ w) ≡ P w
  step_keeps P j (bring x p) w e = cond_keeps P (may j (bring x p)) (change j (bring x p) w) w e
  step_keeps P j (put x) w e = cond_keeps P (may j (put x)) (change j (put x) w) w e

  -- values held aside for different seats
  asides : (f : ℕ → ℕ → V) (s t p q : ℕ) (v u : V) → eqb s t ≡ false →
      update (update f s (update (f s) p v)) t (update (update f s (update (f s) p v) t) q u) ≡ update (update f t (update (f t) q u)) s (update (update f t (update (f t) q u) s) p v)
  asides f s t p q v u ne =
      ap (λ (g : ℕ → V). update (update f s (update (f s) p v)) t (update g q u)) (update_other f s (update (f s) p v) t (eqb_flip s t ne))
      ∙ update_commute f s (update (f s) p v) t (update (f t) q u) ne
      ∙ ap (λ (g : ℕ → V). update (update f t (update (f t) q u)) s (update g p v)) (sym (update_other f t (update (f t) q u) s ne))

  -- a bring and a put
  bring_put : (s t : ℕ) → eqb s t ≡ false → (p a kind i n b : ℕ) → eqb a b ≡ false → (w : Values V) →
      worked h kind i n t b (copied a s p w) ≡ copied a s p (worked h kind i n t b w)
  bring_put s t ne p a kind i n b far w =
      ap₂ both
      (ap (λ (g : ℕ → V). update w.at b (h.rule kind i (row 0 n g))) (update_other w.aside s (update (w.aside s) p (w.at a)) t (eqb_flip s t ne)))
      (ap (λ (v : V). update w.aside s (update (w.aside s) p v)) (sym (update_other w.at b (h.rule kind i (row 0 n (w.aside t))) a far)))

  module _ (i j : Job) (ne : eqb i.seat j.seat ≡ false) where
    -- what the two steps do, in either order
    changes : (σ τ : Step) → Apart σ τ → (w : Values V) → change j τ (change i σ w) ≡ change i σ (change j τ w)
    changes (bring x p) (bring y q) far w =
        ap (both w.at) (asides w.aside i.seat j.seat p q (w.at x.address) (w.at y.address) ne)
    changes (bring x p) (put y) far w = bring_put i.seat j.seat ne p x.address j.kind y.number (size j) y.address far w
    changes (put x) (bring y q) far w =
        sym (bring_put j.seat i.seat (eqb_flip i.seat j.seat ne) q y.address i.kind x.number (size i) x.address (eqb_flip x.address y.address far) w)
    changes (put x) (put y) far w =
        ap (λ (m : ℕ → V). both m w.aside)
        (update_commute w.at x.address (h.rule i.kind x.number (row 0 (size i) (w.aside i.seat))) y.address (h.rule j.kind y.number (row 0 (size j) (w.aside j.seat))) far)

    -- the two steps in either order, each done only if the host's test of it holds
    pub commute : (σ τ : Step) → Apart σ τ → (w : Values V) → done h j τ (done h i σ w) ≡ done h i σ (done h j τ w)
    commute (bring x p) (bring y q) far =
        tested (change i (bring x p)) (change j (bring y q)) (changes (bring x p) (bring y q) far) (may i (bring x p)) (may j (bring y q))
    commute (bring x p) (put y) far = tested (change i (bring x p)) (change j (put y)) (changes (bring x p) (put y) far) (may i (bring x p)) (may j (put y))
    commute (put x) (bring y q) far = tested (change i (put x)) (change j (bring y q)) (changes (put x) (bring y q) far) (may i (put x)) (may j (bring y q))
    commute (put x) (put y) far = tested (change i (put x)) (change j (put y)) (changes (put x) (put y) far) (may i (put x)) (may j (put y))
