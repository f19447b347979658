-- A roll made of a list of seats, each with its entry: one seat's entry found, changed and taken off. Assumes nothing.
use Rattle.std.proofs.Common.{◌≡◌, ℕ, Bool, true, false, cond, ◌||◌, eqb, List, [], ◌∷◌, ◌++◌, map, Some, None, sym, refl, ap, ◌∙◌, ap₂}
use Rattle.std.proofs.lemmas.Bool.{eqb-true, eqb-false, eq-eqb, or_parts, or_left, or_right, both_ways}
use Rattle.acceptance.specs.Listed.{member, removed}
use Rattle.order.proofs.Update.{eqb_flip}
use Rattle.roll.specs.Roll.{Standing, Entry, Roll, sits, stand, find, change, without}

-- a test of two numbers reads the same either way round
turned : (a b : ℕ) (v : Bool) → eqb a b ≡ v → eqb b a ≡ v
turned a b true h = eq-eqb b a (sym (eqb-true a b h))
turned a b false h = eqb_flip a b h

eqb_turn : (a b : ℕ) → eqb b a ≡ eqb a b
eqb_turn a b = turned a b (eqb a b) refl

-- the roll of two functions that agree on the listed seats
pub map_same : (f g : ℕ → Entry) (l : List ℕ) → ((t : ℕ) → member t l ≡ true → f t ≡ g t) → map f l ≡ map g l
map_same f g [] same = refl
map_same f g (x ∷ l) same =
    ap₂ (λ (e : Entry) (r : Roll). e ∷ r) (same x (or_left (eqb x x) (member x l) (eq-eqb x x refl))) (map_same f g l (λ t h. same t (or_right (eqb t x) (member t l) h)))

module _ (f : ℕ → Entry) (own : (t : ℕ) → (f t).job.seat ≡ t) where
  -- is it the entry of this seat? as the list of seats says
  sits_at : (s x : ℕ) → sits s (f x) ≡ eqb s x
  sits_at s x = ap (λ (t : ℕ). eqb t s) (own x) ∙ eqb_turn s x

  found_by : (s x : ℕ) (l : List ℕ) (v : Bool) → eqb s x ≡ v → ((v || member s l) ≡ true) → (member s l ≡ true → find s (map f l) ≡ Some (f s)) → cond v (Some (f x)) (find s (map f l)) ≡ Some (f s)
  found_by s x l true e h rest = ap (λ (t : ℕ). Some (f t)) (sym (eqb-true s x e))
  found_by s x l false e h rest = rest h

  -- a listed seat's entry is found
  pub find_there : (s : ℕ) (l : List ℕ) → member s l ≡ true → find s (map f l) ≡ Some (f s)
  find_there s [] h = absurd cc
  find_there s (x ∷ l) h = rw (sits_at s x) (found_by s x l (eqb s x) refl h (find_there s l))

  -- and of no other seat
  pub find_none : (s : ℕ) (l : List ℕ) → member s l ≡ false → find s (map f l) ≡ None
  find_none s [] h = refl
  find_none s (x ∷ l) h =
      let parts = or_parts (eqb s x) (member s l) h in
      rw (sits_at s x ∙ parts.0) (find_none s l parts.1)

  -- the list without a seat makes the roll without it
  pub map_without : (s : ℕ) (l : List ℕ) → map f (removed s l) ≡ without s (map f l)
  map_without s [] = refl
  map_without s (x ∷ l) =
      rw (sits_at s x)
      (elim (eqb s x) as (λ v. map f (cond v l (x ∷ removed s l)) ≡ cond v (map f l) (f x ∷ without s (map f l))) [
        | true ↦ refl
        | false ↦ ap (λ (r : Roll). f x ∷ r) (map_without s l)
      ])

  -- one seat's entry in another standing makes the roll in which it is changed
  pub map_change : (g : ℕ → Entry) (s : ℕ) (st : Standing) (pre post : List ℕ) → member s pre ≡ false → member s post ≡ false →
      ((t : ℕ) → (t ≡ s → ⊥) → g t ≡ f t) → g s ≡ stand st (f s) → map g (pre ++ (s ∷ post)) ≡ change s st (map f (pre ++ (s ∷ post)))
  map_change g s st [] post h k other here =
      rw (sits_at s s ∙ eq-eqb s s refl)
      (ap₂ (λ (e : Entry) (r : Roll). e ∷ r) here (map_same g f post (λ t m. other t (λ e. both_ways (member s post) k (rw e at m)))))
  map_change g s st (x ∷ pre) post h k other here =
      let parts = or_parts (eqb s x) (member s pre) h in
      rw (sits_at s x ∙ parts.0)
      (ap₂ (λ (e : Entry) (r : Roll). e ∷ r) (other x (λ e. eqb-false s x parts.0 (sym e))) (map_change g s st pre post parts.1 k other here))
