-- The loop that notes the seats' places once the holes are closed up. Assumes nothing.
use Rattle.std.proofs.Common.{◌≡◌, ℕ, suc, ◌+◌, ◌<◌, ◌≤◌, false, List, [], ◌∷◌, ◌++◌, Some, None, Option, length, get_or, take, drop, set, ap, ◌∙◌, arith, filter, length-take-le}
use Rattle.std.specs.Option.{is_some}
use Rattle.std.proofs.lemmas.List.{take_more}
use Rattle.acceptance.specs.Listed.{member, seats_in}
use Rattle.acceptance.specs.Placed.{Placed}
use Rattle.acceptance.proofs.Lists.{Once, once_middle}
use Rattle.acceptance.proofs.Places.{seats_split, seats_kept, length_kept, listed_once, listed_few, empty_placed, joined_placed}

-- the places after the holes are closed up: the seats are the same, each stands once, and there are at most 256
pub record Closed (xs ys : List (Option ℕ)) : Type 0 where
  pub same : seats_in ys ≡ seats_in xs
  pub once : Once (seats_in ys)
  pub few : length ys ≤ 256

pub closed_up : (xs ys : List (Option ℕ)) (places : List ℕ) → Placed xs places → ys ≡ filter is_some xs → Closed xs ys
closed_up xs ys places placed e =
    let same : seats_in ys ≡ seats_in xs = ap seats_in e ∙ seats_kept xs in
    record {
      same = same;
      once = rw same (listed_once xs places placed);
      few = omega (arith, ap length e, length_kept xs, listed_few xs places placed);
    }

-- what stands at one place more, if that is known
next_slot : (xs : List (Option ℕ)) (k : ℕ) (x : Option ℕ) → k < length xs → get_or xs k None ≡ x → take (k + 1) xs ≡ take k xs ++ (x ∷ [])
next_slot xs k x lt e = take_more xs k None lt ∙ ap (λ (y : Option ℕ). take k xs ++ (y ∷ [])) e

-- no seat stands there
pub closing_hole : (xs : List (Option ℕ)) (places : List ℕ) (k : ℕ) → k < length xs → get_or xs k None ≡ None → Placed (take k xs) places → Placed (take (k + 1) xs) places
closing_hole xs places k lt e h = rw (next_slot xs k None lt e) (empty_placed (take k xs) places h)

-- a seat stands there, and does not stand before, since it stands once
pub closing_seat : (xs : List (Option ℕ)) (places : List ℕ) (k s : ℕ) → Once (seats_in xs) → k < length xs → get_or xs k None ≡ Some s → s < 256 → s < length places → Placed (take k xs) places → Placed (take (k + 1) xs) (set places s k)
closing_seat xs places k s one lt e low in' h =
    let front = seats_in (take k xs) in
    let rest = seats_in (drop (suc k) xs) in
    let new : member s front ≡ false = (once_middle s front rest (rw (seats_split xs k s e) at one)).0 in
    let long : length (take k xs) ≡ k = length-take-le k xs (omega arith) in
    let now = joined_placed (take k xs) places h s low in' new in
    rw (next_slot xs k (Some s) lt e) (rw long at now)
