-- The seats among what stands at places, when the noted places are right. Assumes nothing.
use Rattle.std.proofs.Common.{◌≡◌, ℕ, zero, suc, ◌+◌, ◌<◌, ◌≤◌, true, false, eqb, List, [], ◌∷◌, ◌++◌, Some, None, Option, length, get_or, take, drop, set, sym, refl, ap, ◌∙◌, inl, inr, filter, ◌⊎◌, add-one, arith, get_or-set_other, get_or-set_same}
use Rattle.std.specs.Option.{is_some, option_eq, MatchOption}
use Rattle.std.proofs.lemmas.Bool.{eqb-true, eq-eqb, or_cases, or_left, or_right, both_ways, cases_Bool}
use Rattle.std.proofs.lemmas.List.Elements.{filter_map-append}
use Rattle.acceptance.specs.Listed.{member, removed, seats_in}
use Rattle.acceptance.specs.Placed.{Placed}
use Rattle.acceptance.proofs.Lists.{Once, once_middle, removed_middle, few}

pub seats_append : (xs ys : List (Option ℕ)) → seats_in (xs ++ ys) ≡ seats_in xs ++ seats_in ys
seats_append xs ys = filter_map-append (λ (slot : Option ℕ). slot) xs ys

-- the places before one, that one, and those behind it
pub seats_split : (xs : List (Option ℕ)) (k s : ℕ) → get_or xs k None ≡ Some s → seats_in xs ≡ seats_in (take k xs) ++ (s ∷ seats_in (drop (suc k) xs))
seats_split [] k s e = cc
seats_split (None ∷ xs) zero s e = cc
seats_split (Some t ∷ xs) zero s e = let same : t ≡ s = cc in ap (λ (u : ℕ). u ∷ seats_in xs) same
seats_split (None ∷ xs) (suc k) s e = seats_split xs k s e
seats_split (Some t ∷ xs) (suc k) s e = ap (λ (l : List ℕ). t ∷ l) (seats_split xs k s e)

-- the same with a hole there
pub seats_hole : (xs : List (Option ℕ)) (k s : ℕ) → get_or xs k None ≡ Some s → seats_in (set xs k None) ≡ seats_in (take k xs) ++ seats_in (drop (suc k) xs)
seats_hole [] k s e = cc
seats_hole (x ∷ xs) zero s e = refl
seats_hole (None ∷ xs) (suc k) s e = seats_hole xs k s e
seats_hole (Some t ∷ xs) (suc k) s e = ap (λ (l : List ℕ). t ∷ l) (seats_hole xs k s e)

-- one place more, with a seat, and with a hole
pub more_seat : (xs : List (Option ℕ)) (k s : ℕ) → get_or xs k None ≡ Some s → seats_in (take (k + 1) xs) ≡ seats_in (take k xs) ++ (s ∷ [])
more_seat xs k s e = rw add-one (step xs k e)
  where
    step : (xs : List (Option ℕ)) (k : ℕ) → get_or xs k None ≡ Some s → seats_in (take (suc k) xs) ≡ seats_in (take k xs) ++ (s ∷ [])
    step [] k e = cc
    step (None ∷ xs) zero e = cc
    step (Some t ∷ xs) zero e = let same : t ≡ s = cc in ap (λ (u : ℕ). u ∷ []) same
    step (None ∷ xs) (suc k) e = step xs k e
    step (Some t ∷ xs) (suc k) e = ap (λ (l : List ℕ). t ∷ l) (step xs k e)

pub more_hole : (xs : List (Option ℕ)) (k : ℕ) → get_or xs k None ≡ None → seats_in (take (k + 1) xs) ≡ seats_in (take k xs)
more_hole xs k e = rw add-one (step xs k e)
  where
    step : (xs : List (Option ℕ)) (k : ℕ) → get_or xs k None ≡ None → seats_in (take (suc k) xs) ≡ seats_in (take k xs)
    step [] zero e = refl
    step [] (suc k) e = refl
    step (None ∷ xs) zero e = refl
    step (Some t ∷ xs) zero e = cc
    step (None ∷ xs) (suc k) e = step xs k e
    step (Some t ∷ xs) (suc k) e = ap (λ (l : List ℕ). t ∷ l) (step xs k e)

-- each seat stands at a place
pub stands : (s : ℕ) (xs : List (Option ℕ)) → member s (seats_in xs) ≡ true → (k : ℕ) × (get_or xs k None ≡ Some s)
stands s [] h = absurd (both_ways false refl h)
stands s (None ∷ xs) h = let r = stands s xs h in (suc r.0, r.1)
stands s (Some t ∷ xs) h =
    elim (or_cases (eqb s t) (member s (seats_in xs)) h) [
      | inl y ↦ (0, ap Some (sym (eqb-true s t y)))
      | inr y ↦ let r = stands s xs y in (suc r.0, r.1)
    ]

-- and what stands at a place is one of the seats
pub stood : (xs : List (Option ℕ)) (k s : ℕ) → get_or xs k None ≡ Some s → member s (seats_in xs) ≡ true
stood [] k s e = cc
stood (None ∷ xs) zero s e = cc
stood (Some t ∷ xs) zero s e = let same : s ≡ t = cc in or_left (eqb s t) (member s (seats_in xs)) (eq-eqb s t same)
stood (None ∷ xs) (suc k) s e = stood xs k s e
stood (Some t ∷ xs) (suc k) s e = or_right (eqb s t) (member s (seats_in xs)) (stood xs k s e)

-- where each seat's place, counted from one on, is noted, each seat stands once
pub once : (f : ℕ → ℕ) (o : ℕ) (xs : List (Option ℕ)) → ((p s : ℕ) → get_or xs p None ≡ Some s → f s ≡ o + p) → Once (seats_in xs)
once f o [] n = tt
once f o (None ∷ xs) n = once f (suc o) xs (λ p s e. let h = n (suc p) s e in omega arith)
once f o (Some t ∷ xs) n =
    let rest = once f (suc o) xs (λ p s e. let h = n (suc p) s e in omega arith) in
    elim (cases_Bool (member t (seats_in xs))) [
      | inr absent ↦ (absent, rest)
      | inl y ↦ let r = stands t xs y in let here = n 0 t refl in let there = n (suc r.0) t r.1 in absurd (omega arith)
    ]

-- a seat stands before the end
pub stands_low : (xs : List (Option ℕ)) (k s : ℕ) → get_or xs k None ≡ Some s → k < length xs
stands_low [] k s e = cc
stands_low (x ∷ xs) zero s e = omega arith
stands_low (x ∷ xs) (suc k) s e = let h = stands_low xs k s e in omega arith

-- what a comparison with a seat says
pub is_seat : (x : Option ℕ) (s : ℕ) → option_eq eqb x (Some s) ≡ true → x ≡ Some s
is_seat None s h = cc
is_seat (Some t) s h = ap Some (eqb-true t s h)

-- without the holes there are as many places as seats
pub seats_kept : (xs : List (Option ℕ)) → seats_in (filter is_some xs) ≡ seats_in xs
seats_kept [] = refl
seats_kept (None ∷ xs) = seats_kept xs
seats_kept (Some t ∷ xs) = ap (λ (l : List ℕ). t ∷ l) (seats_kept xs)

pub length_kept : (xs : List (Option ℕ)) → length (filter is_some xs) ≡ length (seats_in xs)
length_kept [] = refl
length_kept (None ∷ xs) = length_kept xs
length_kept (Some t ∷ xs) = ap suc (length_kept xs)

-- a seat that stands after a hole was made stood before
pub hole_stood : (xs : List (Option ℕ)) (k p s : ℕ) → get_or (set xs k None) p None ≡ Some s → get_or xs p None ≡ Some s
hole_stood [] k p s e = cc
hole_stood (x ∷ xs) zero zero s e = cc
hole_stood (x ∷ xs) zero (suc p) s e = e
hole_stood (x ∷ xs) (suc k) zero s e = e
hole_stood (x ∷ xs) (suc k) (suc p) s e = hole_stood xs k p s e

-- a seat that stands after one more place joined stood before, or stands there
pub joined_stood : (xs : List (Option ℕ)) (x : Option ℕ) (p s : ℕ) → get_or (xs ++ (x ∷ [])) p None ≡ Some s → (get_or xs p None ≡ Some s) ⊎ ((p ≡ length xs) × (x ≡ Some s))
joined_stood [] x zero s e = inr (refl, e)
joined_stood [] x (suc p) s e = cc
joined_stood (y ∷ xs) x zero s e = inl e
joined_stood (y ∷ xs) x (suc p) s e = elim (joined_stood xs x p s e) [ inl h ↦ inl h | inr h ↦ inr (ap suc h.0, h.1) ]

module _ (slots : List (Option ℕ)) (places : List ℕ) (placed : Placed slots places) where
  pub listed_once : Once (seats_in slots)
  listed_once = once (λ s. get_or places s 0) 0 slots (λ p s e. let h = (placed p s e).1 in omega arith)

  -- each listed seat is below 256 and stands at its noted place
  pub at_place : (s : ℕ) → member s (seats_in slots) ≡ true → (s < 256) × (get_or slots (get_or places s 0) None ≡ Some s)
  at_place s h =
      let r = stands s slots h in
      let p = placed r.0 s r.1 in
      (p.0, ap (λ (k : ℕ). get_or slots k None) p.1 ∙ r.1)

  -- a seat is listed exactly if it stands at its noted place
  pub told : (s : ℕ) → option_eq eqb (get_or slots (get_or places s 0) None) (Some s) ≡ member s (seats_in slots)
  told s =
      let k = get_or places s 0 in
      elim (cases_Bool (member s (seats_in slots))) [
        | inl y ↦ ap (λ (x : Option ℕ). option_eq eqb x (Some s)) (at_place s y).1 ∙ eq-eqb s s refl ∙ sym y
        | inr n ↦ elim (cases_Bool (option_eq eqb (get_or slots k None) (Some s))) [
          | inl y ↦ absurd (both_ways (member s (seats_in slots)) n (stood slots k s (is_seat (get_or slots k None) s y)))
          | inr off ↦ off ∙ sym n
        ]
      ]

  -- what stands at a place
  pub there : (k n : ℕ) (x : Option ℕ) → length slots ≡ n → x ≡ get_or slots k None →
      MatchOption x (seats_in (take (k + 1) slots) ≡ seats_in (take k slots)) (λ s. (seats_in (take (k + 1) slots) ≡ seats_in (take k slots) ++ (s ∷ [])) × (get_or places s 0 ≡ k) × (k < n))
  there k n None long e = more_hole slots k (sym e)
  there k n (Some s) long e = (more_seat slots k s (sym e), (placed k s (sym e)).1, (let lt = stands_low slots k s (sym e) in omega arith))

  pub listed_few : length (seats_in slots) ≤ 256
  listed_few = few 256 (seats_in slots) listed_once (λ t h. (at_place t h).0)

  -- a hole at a listed seat's place removes the seat
  pub hole : (s : ℕ) → member s (seats_in slots) ≡ true → seats_in (set slots (get_or places s 0) None) ≡ removed s (seats_in slots)
  hole s h =
      let k = get_or places s 0 in
      let there = (at_place s h).1 in
      let front = seats_in (take k slots) in
      let rest = seats_in (drop (suc k) slots) in
      let parts = seats_split slots k s there in
      let before : member s front ≡ false = (once_middle s front rest (rw parts at listed_once)).0 in
      seats_hole slots k s there ∙ sym (ap (removed s) parts ∙ removed_middle s front rest before)

  pub hole_placed : (k : ℕ) → Placed (set slots k None) places
  hole_placed k p s e = placed p s (hole_stood slots k p s e)

  -- one more place without a seat
  pub empty_placed : Placed (slots ++ (None ∷ [])) places
  empty_placed p s e = elim (joined_stood slots None p s e) [ inl h ↦ placed p s h | inr h ↦ absurd (cc (h.1)) ]

  -- a seat that is not listed joins behind the others
  pub joined_placed : (s : ℕ) → s < 256 → s < length places → member s (seats_in slots) ≡ false → Placed (slots ++ (Some s ∷ [])) (set places s (length slots))
  joined_placed s low in' new p t e =
      elim (joined_stood slots (Some s) p t e) [
        | inl h ↦
            let q = placed p t h in
            let other : t ≡ s → ⊥ = λ same. both_ways (member s (seats_in slots)) new (ap (λ (u : ℕ). member u (seats_in slots)) (sym same) ∙ stood slots p t h) in
            (q.0, get_or-set_other places s t (length slots) 0 other ∙ q.1)
        | inr h ↦
            let same : s ≡ t = cc (h.1) in
            (rw same at low, ap (λ (u : ℕ). get_or (set places s (length slots)) u 0) (sym same) ∙ get_or-set_same places s (length slots) 0 in' ∙ sym h.0)
      ]
