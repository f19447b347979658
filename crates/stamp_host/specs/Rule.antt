-- The work rule of stamps: a number of 64 bits made from a kind, an access number and a list of stamps. Assumes nothing.
use Rattle.std.specs.Prelude.{ℕ, ◌+◌, ◌*◌, ◌/◌, ◌%◌, ◌^◌, List, fold, bit_or, bit_xor}

-- 64 bits rotated left by 7
abbrev pub rotated : ℕ → ℕ
rotated code = bit_or ((code * 2 ^ 7) % 2 ^ 64) (code / 2 ^ 57)

-- one value more: rotated, combined with the value by exclusive or, and raised by 1
abbrev pub step : ℕ → ℕ → ℕ
step code value = (bit_xor (rotated code) value + 1) % 2 ^ 64

-- the kind plus the access number, and then a step for each value in order
abbrev pub stamp_rule : ℕ → ℕ → List ℕ → ℕ
stamp_rule kind access values = fold step (kind + access) values
