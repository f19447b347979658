-- Bringing the reading accesses one after another: what is left from here comes to what all comes to from the start.
-- Assumes nothing.
use Rattle.std.proofs.Common.{◌≡◌, ℕ, suc, ◌+◌, ◌<◌, Bool, true, false, cond, ◌&&◌, eqb, ltb, Some, None, Option, List, [], ◌∷◌, ◌++◌, map, length, sym, refl, ap, ◌∙◌, append_assoc, append-nil, add-one, arith, eq-eqb, eqb-true, lt-ltb}
use Rattle.std.proofs.lemmas.Bool.{cond-true}
use mathlib.Core.Path.{fun_ext}
use Rattle.task.specs.Access.{Numbered}
use Rattle.host.specs.Meaning.{Fixed, Values, seats, positions, update, copied, brought}
use Rattle.one_at_a_time.specs.Alone.{filled, brought_alone}

-- a function changed to what it was is itself; and the second of two changes at one argument stays
unchanged : {A : Type 0} (f : ℕ → A) (s t : ℕ) (b : Bool) → eqb t s ≡ b → cond b (f s) (f t) ≡ f t
unchanged f s t true e = ap f (sym (eqb-true t s e))
unchanged f s t false e = refl

pub update_same : {A : Type 0} (f : ℕ → A) (s : ℕ) → update f s (f s) ≡ f
update_same f s = fun_ext (λ t. unchanged f s t (eqb t s) refl)

second : {A : Type 0} (b : Bool) (x y z : A) → cond b y (cond b x z) ≡ cond b y z
second true x y z = refl
second false x y z = refl

pub update_twice : {A : Type 0} (f : ℕ → A) (s : ℕ) (x y : A) → update (update f s x) s y ≡ update f s y
update_twice f s x y = fun_ext (λ t. second (eqb t s) x y (f t))

-- a host's values once these values are brought to seat 0 from position n on
abbrev pub bringing : {V : Type 0} → ℕ → List V → Values V → Values V
bringing n vs w = record { at = w.at; aside = update w.aside 0 (filled n vs (w.aside 0)) }

-- the values at accesses
abbrev pub values_at : {V : Type 0} → (ℕ → V) → List Numbered → List V
values_at at xs = map (λ (x : Numbered). at x.address) xs

-- of all reading accesses some are left: n are brought, and these are their values
pub record Bringing {V : Type 0} (w0 : Values V) (all left : List Numbered) (n : ℕ) (items : List V) (w : Values V) : Type 0 where
  pub count : n + length left ≡ length all
  pub read : items ++ values_at w0.at left ≡ values_at w0.at all
  pub values : bringing n (values_at w0.at left) w ≡ bringing 0 (values_at w0.at all) w0

-- one more is brought
pub bring_more : {V : Type 0} (w0 : Values V) (all left : List Numbered) (x : Numbered) (n n' : ℕ) (items more : List V) (w w' : Values V) →
    n' ≡ n + 1 → more ≡ items ++ (w.at x.address ∷ []) → w' ≡ copied x.address 0 n w → Bringing w0 all (x ∷ left) n items w → Bringing w0 all left n' more w'
bring_more {V} w0 all left x n n' items more w w' on grown moved b =
    let same : w.at ≡ w0.at = ap (λ (v : Values V). v.at) b.values in
    let v : V = w0.at x.address in
    let rest : List V = values_at w0.at left in
    let place : w' ≡ record { at = w.at; aside = update w.aside 0 (update (w.aside 0) n v) } =
    moved ∙ ap (λ (z : V). record { at = w.at; aside = update w.aside 0 (update (w.aside 0) n z) }) (ap (λ (f : ℕ → V). f x.address) same) in
    record {
      count = let c : n + suc (length left) ≡ length all = b.count in omega arith;
      read =
          ap (λ (ys : List V). ys ++ rest) (grown ∙ ap (λ (z : V). items ++ (z ∷ [])) (ap (λ (f : ℕ → V). f x.address) same)) ∙ append_assoc items (v ∷ []) rest ∙ b.read;
      values =
          ap (bringing n' rest) place ∙ ap (λ (m : ℕ). bringing m rest (record { at = w.at; aside = update w.aside 0 (update (w.aside 0) n v) })) on
          ∙ ap (λ (f : ℕ → ℕ → V). record { at = w.at; aside = f }) (update_twice w.aside 0 (update (w.aside 0) n v) (filled (n + 1) rest (update (w.aside 0) n v)))
          ∙ ap (λ (m : ℕ). record { at = w.at; aside = update w.aside 0 (filled m rest (update (w.aside 0) n v)) }) (add-one n) ∙ b.values;
    }

-- a held address is brought to a position that the seat has, and its value is found there
pub brought_there : {V : Type 0} (h : Fixed V) (a p : ℕ) (w w' : Values V) (o : Option V) → h.held a ≡ true → p < positions → w' ≡ brought h a 0 p w →
    o ≡ cond (ltb 0 seats && ltb p positions) (Some (w'.aside 0 p)) None → (w' ≡ copied a 0 p w) × (o ≡ Some (w.at a))
brought_there {V} h a p w w' o there lt e f =
    let t : ltb p positions ≡ true = lt-ltb p positions lt in
    let moved : w' ≡ copied a 0 p w = e ∙ rw (there, t) refl in
    let seen : w'.aside 0 p ≡ w.at a = ap (λ (v : Values V). v.aside 0 p) moved ∙ cond-true (eqb p p) (w.at a) (w.aside 0 p) (eq-eqb p p refl) in
    (moved, f ∙ rw t (ap Some seen))

-- nothing is brought
pub same_bringing : {V : Type 0} (w0 : Values V) (all left : List Numbered) (n n' : ℕ) (items more : List V) (w w' : Values V) →
    n' ≡ n → more ≡ items → w' ≡ w → Bringing w0 all left n items w → Bringing w0 all left n' more w'
same_bringing {V} w0 all left n n' items more w w' on grown moved b =
    record {
      count = ap (λ (m : ℕ). m + length left) on ∙ b.count;
      read = ap (λ (ys : List V). ys ++ values_at w0.at left) grown ∙ b.read;
      values = ap (λ (m : ℕ). bringing m (values_at w0.at left) w') on ∙ ap (bringing n (values_at w0.at left)) moved ∙ b.values;
    }

-- none is left
pub bring_all : {V : Type 0} (w0 : Values V) (all : List Numbered) (n : ℕ) (items : List V) (w : Values V) → Bringing w0 all [] n items w →
    (n ≡ length all) × (items ≡ values_at w0.at all) × (w ≡ brought_alone 0 (values_at w0.at all) w0)
bring_all {V} w0 all n items w b =
    (let c : n + 0 ≡ length all = b.count in omega arith, sym (append-nil items) ∙ b.read, ap (λ (f : ℕ → ℕ → V). record { at = w.at; aside = f }) (sym (update_same w.aside 0)) ∙ b.values)
