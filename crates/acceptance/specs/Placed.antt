-- When the noted places are right. Assumes nothing.
use Rattle.std.specs.Prelude.{◌≡◌, ℕ, ◌<◌, List, Some, None, Option, slice_index, slice_index_or}

-- for each seat that stands at a place, that place is noted; so a seat stands there once
abbrev pub Placed : List (Option ℕ) → List ℕ → Type 0
Placed slots places = (p s : ℕ) → slice_index_or slots p None ≡ Some s → (s < 256) × (slice_index places s ≡ p)
