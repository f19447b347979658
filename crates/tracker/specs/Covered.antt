-- Which places a span covers. Assumes nothing.
use Rattle.std.specs.Prelude.{ℕ, ◌<◌, ◌≤◌}
use Rattle.tracker.specs.declared.span.Span.{Span}

-- the place is one of the span's
abbrev pub Covered : Span → ℕ → Type 0
Covered s p = (s.first ≤ p) × (p < s.end)
