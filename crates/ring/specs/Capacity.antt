-- How many elements a ring has room for. Assumes nothing.
use Rattle.std.specs.Prelude.{ℕ}

-- the number of its slots
abbrev pub capacity : ℕ
capacity = 256
