-- Which seats are listed, in order of acceptance, and where each stands. Assumes nothing.
--   member, removed            a number in a list, and a list without it
--   seats_in                   the seats among places, without the holes
--   below, listed              the seats before a place, and all of them
--   place_of, seat_at          the place of a seat, and the seat at a place
--   end_of                     the place behind all listed seats
use Rattle.std.specs.Prelude.{ℕ, Bool, false, cond, ◌||◌, List, [], ◌∷◌, take, None, vec_items, vec_len, Option, ◌==◌, slice_index, slice_index_or}
use Rattle.std.specs.List.{filter_map}
use Rattle.acceptance.specs.declared.Acceptance.{Acceptance}

-- is the number in the list?
abbrev pub member : ℕ → List ℕ → Bool
member s [] = false
member s (t ∷ ts) = s == t || member s ts

-- the list without the first occurrence of the number
abbrev pub removed : ℕ → List ℕ → List ℕ
removed s [] = []
removed s (t ∷ ts) = cond (s == t) ts (t ∷ removed s ts)

-- the seats among what stands at places: each place has a seat or is a hole
abbrev pub seats_in : List (Option ℕ) → List ℕ
seats_in = filter_map (λ (slot : Option ℕ). slot)

-- the seats that stand before a place
abbrev pub below : Acceptance → ℕ → List ℕ
below a p = seats_in (take p (vec_items a.slots))

-- the listed seats, the first accepted first
abbrev pub listed : Acceptance → List ℕ
listed a = seats_in (vec_items a.slots)

-- the place that is noted for a seat; it says nothing of a seat that is not listed
abbrev pub place_of : Acceptance → ℕ → ℕ
place_of a s = slice_index (vec_items a.places) s

-- the seat at a place, if the place is in use and not a hole
abbrev pub seat_at : Acceptance → ℕ → Option ℕ
seat_at a p = slice_index_or (vec_items a.slots) p None

-- the place behind all listed seats
abbrev pub end_of : Acceptance → ℕ
end_of a = vec_len a.slots
