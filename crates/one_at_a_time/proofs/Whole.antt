-- A task's brings and puts together. Assumes nothing.
use Rattle.std.proofs.Common.{◌≡◌, ℕ, suc, ◌<◌, true, eqb, List, [], ◌∷◌, length, refl, ap, ◌∙◌, arith, eq-eqb, ne_eqb}
use Rattle.std.proofs.lemmas.Bool.{cond-true, cond-false}
use Rattle.task.specs.declared.Access.{Access}
use Rattle.host.specs.Meaning.{Fixed, update, row}
use Rattle.admission.specs.Admission.{address_at}
use Rattle.one_at_a_time.specs.Alone.{filled, AllHeld}

-- values filled in from p on leave what stands before p
filled_below : {V : Type 0} (vs : List V) (p q : ℕ) (f : ℕ → V) → q < p → filled p vs f q ≡ f q
filled_below [] p q f lt = refl
filled_below (v ∷ vs) p q f lt =
    filled_below vs (suc p) q (update f p v) (omega arith) ∙ cond-false (eqb q p) v (f q) (ne_eqb q p (λ e. omega arith))

-- and stand there in their order
pub row_filled : {V : Type 0} (vs : List V) (p : ℕ) (f : ℕ → V) → row p (length vs) (filled p vs f) ≡ vs
row_filled [] p f = refl
row_filled {V} (v ∷ vs) p f =
    let g : ℕ → V = update f p v in
    let first : filled (suc p) vs g p ≡ v = filled_below vs (suc p) p g (omega arith) ∙ cond-true (eqb p p) v (f p) (eq-eqb p p refl) in
    ap (λ (x : V). x ∷ row (suc p) (length vs) (filled (suc p) vs g)) first ∙ ap (λ (xs : List V). v ∷ xs) (row_filled vs (suc p) g)

-- accesses whose addresses are held, each by its number
pub held_all : {V : Type 0} (h : Fixed V) (xs : List Access) → ((k : ℕ) → k < length xs → h.held (address_at xs k) ≡ true) → AllHeld h xs
held_all h [] f = tt
held_all h (x ∷ xs) f = (f 0 (omega arith), held_all h xs (λ k lt. f (suc k) (omega arith)))
