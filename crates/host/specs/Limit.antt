-- The limit of a host whose values lie at evenly spaced addresses. Assumes nothing.
use Rattle.std.specs.Prelude.{ℕ}

-- how many values a host has at most
abbrev pub max_values : ℕ
max_values = 4096
