-- The limit of a host of tiles. Assumes nothing.
use Rattle.std.specs.Prelude.{ℕ}
use Rattle.host.specs.Limit.{max_values}

-- how many tiles a host has at most
abbrev pub max_tiles : ℕ
max_tiles = max_values
