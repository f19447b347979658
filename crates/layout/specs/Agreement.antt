-- The reader and the layout agree, in both directions. Assumes nothing.
use Rattle.std.specs.Prelude.{◌≡◌, ℕ, ◌<◌, List, [], ◌∷◌, ◌++◌, Ok}
use Rattle.layout.specs.Layout.{Contents, layout, Fits}
use Rattle.layout.specs.Reading.{read}

-- each number of the list is a byte
abbrev pub Bytes : List ℕ → Type 0
Bytes [] = Unit {0}
Bytes (b ∷ bs) = (b < 256) × Bytes bs

-- what is laid out is read back as itself, with what stands behind it left over; and what is read is laid out exactly so
pub record Agree : Type 0 where
  pub laid_out_is_read : (m : Contents) → Fits m → (place : ℕ) (rest : List ℕ) → read place (layout m ++ rest) ≡ Ok (m, rest)
  pub read_is_laid_out : (place : ℕ) (bs : List ℕ) → Bytes bs → (m : Contents) (rest : List ℕ) → read place bs ≡ Ok (m, rest) → (bs ≡ layout m ++ rest) × Fits m
