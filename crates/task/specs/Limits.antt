-- The limit of a task. Assumes nothing.
use Rattle.std.specs.Prelude.{ℕ}

-- how many accesses a task may have
abbrev pub max_accesses : ℕ
max_accesses = 15
