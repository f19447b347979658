-- The limit of a host of stamps. Assumes nothing.
use Rattle.std.specs.Prelude.{ℕ}
use Rattle.host.specs.Limit.{max_values}

-- how many stamps a host has at most
abbrev pub max_stamps : ℕ
max_stamps = max_values
