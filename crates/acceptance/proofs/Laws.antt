-- What holds of every order of acceptance, for those that use one. Assumes nothing.
--   listed_low, listed_few     each listed seat is below 256, and there are at most 256
--   listed_apart               each seat is listed once
--   place_low, place_seat      a listed seat stands at its place, which is before the end
--   listed_before              the listed seats are those below a place and those from it on
--   below_between              the seats below a later place
--   below_has, below_not       a listed seat stands below each later place, and below no other
--   before_place, before_is    the seats below that place are those listed before it
--   removed_middle             a list without a number
use Rattle.std.proofs.Common.{◌≡◌, ℕ, suc, ◌+◌, ◌-◌, ◌<◌, ◌≤◌, true, false, List, ◌∷◌, ◌++◌, Some, None, length, get_or, take, drop, vec_items, sym, ap, ◌∙◌, inl, inr, arith, take-add, take-append-drop, get_or-take, length-take}
use Rattle.std.proofs.lemmas.Bool.{cases_Bool}
use Rattle.acceptance.specs.declared.Acceptance.{Acceptance}
use Rattle.acceptance.specs.Listed.{member, removed, seats_in, below, listed, place_of, end_of, seat_at}
use Rattle.acceptance.proofs.Lists as lists
use Rattle.acceptance.proofs.Places as places

-- what stands at the places from one on
abbrev pub from_place : Acceptance → ℕ → List ℕ
from_place a p = seats_in (drop p (vec_items a.slots))

-- what stands at the places from one on, up to another
abbrev pub between : Acceptance → ℕ → ℕ → List ℕ
between a p q = seats_in (take (q - p) (drop p (vec_items a.slots)))

-- the first occurrence of a number is removed
pub removed_middle : (s : ℕ) (pre post : List ℕ) → member s pre ≡ false → removed s (pre ++ (s ∷ post)) ≡ pre ++ post
removed_middle = lists.removed_middle

module _ (a : Acceptance) where
  -- each listed seat is below 256
  pub listed_low : (s : ℕ) → member s (listed a) ≡ true → s < 256
  listed_low s h = (places.at_place (vec_items a.slots) (vec_items a.places) a.placed s h).0

  -- and stands at its place, which is before the end
  pub place_seat : (s : ℕ) → member s (listed a) ≡ true → seat_at a (place_of a s) ≡ Some s
  place_seat s h = (places.at_place (vec_items a.slots) (vec_items a.places) a.placed s h).1

  pub place_low : (s : ℕ) → member s (listed a) ≡ true → place_of a s < end_of a
  place_low s h = omega (arith, places.stands_low (vec_items a.slots) (place_of a s) s (place_seat s h))

  -- there are at most 256
  pub listed_few : length (listed a) ≤ 256
  listed_few = places.listed_few (vec_items a.slots) (vec_items a.places) a.placed

  -- each seat is listed once
  pub listed_apart : (s : ℕ) (pre post : List ℕ) → listed a ≡ pre ++ (s ∷ post) → (member s pre ≡ false) × (member s post ≡ false)
  listed_apart s pre post e = lists.once_middle s pre post (rw e at (places.listed_once (vec_items a.slots) (vec_items a.places) a.placed))

  -- the listed seats are those below a place and those from it on
  pub listed_before : (p : ℕ) → listed a ≡ below a p ++ from_place a p
  listed_before p = ap seats_in (sym (take-append-drop p (vec_items a.slots))) ∙ places.seats_append (take p (vec_items a.slots)) (drop p (vec_items a.slots))

  -- the seats below a later place are those below an earlier one and those between
  pub below_between : (p q : ℕ) → p ≤ q → below a q ≡ below a p ++ between a p q
  below_between p q le =
      let xs = vec_items a.slots in
      let sum : p + (q - p) ≡ q = omega arith in
      ap (below a) (sym sum) ∙ ap seats_in (take-add p (q - p) xs) ∙ places.seats_append (take p xs) (take (q - p) (drop p xs))

  -- a listed seat stands below each later place, and below no other
  pub below_has : (s p : ℕ) → member s (listed a) ≡ true → place_of a s < p → member s (below a p) ≡ true
  below_has s p h lt = places.stood (take p (vec_items a.slots)) (place_of a s) s (get_or-take p (vec_items a.slots) (place_of a s) None lt ∙ place_seat s h)

  pub below_not : (s p : ℕ) → p ≤ place_of a s → member s (below a p) ≡ false
  below_not s p le =
      elim (cases_Bool (member s (below a p))) [
        | inr absent ↦ absent
        | inl y ↦
            let r = places.stands s (take p (vec_items a.slots)) y in
            let lt = places.stands_low (take p (vec_items a.slots)) r.0 s r.1 in
            let near : r.0 < p = omega (arith, length-take p (vec_items a.slots)) in
            let here : get_or (vec_items a.slots) r.0 None ≡ Some s = sym (get_or-take p (vec_items a.slots) r.0 None near) ∙ r.1 in
            absurd (omega (arith, (a.placed r.0 s here).1))
      ]

  -- the seats below the place of a listed seat are those before it
  pub before_place : (s : ℕ) → member s (listed a) ≡ true → (post : List ℕ) × (listed a ≡ below a (place_of a s) ++ (s ∷ post))
  before_place s h = (from_place a (suc (place_of a s)), places.seats_split (vec_items a.slots) (place_of a s) s (place_seat s h))

  -- and so in every account of the listed seats
  pub before_is : (s : ℕ) (pre post : List ℕ) → listed a ≡ pre ++ (s ∷ post) → below a (place_of a s) ≡ pre
  before_is s pre post e =
      let r = before_place s (rw e (lists.member_middle s pre post)) in
      lists.same_front s (below a (place_of a s)) pre r.0 post (listed_apart s (below a (place_of a s)) r.0 r.1).0 (listed_apart s pre post e).0 (sym r.1 ∙ e)
