-- What a table of the values held aside means: the value at each seat and position. Assumes nothing.
use Rattle.std.specs.Prelude.{ℕ, ◌+◌, ◌*◌, Bool, cond, ◌&&◌, vec_items, nat_lt, slice_index_or}
use Rattle.host.specs.Meaning.{seats, positions}
use Rattle.host.specs.declared.seat_values.SeatValues.{SeatValues}

-- whether the table has the seat and the position
abbrev pub within : ℕ → ℕ → Bool
within s p = nat_lt s seats && nat_lt p positions

-- the value at a seat and a position, and the blank value beyond the table
abbrev pub aside_of : {V : Type 0} → V → SeatValues V → ℕ → ℕ → V
aside_of blank t s p = cond (within s p) (slice_index_or (vec_items t.values) (s * positions + p) blank) blank
