-- When two hosts hold the same stamps. Assumes nothing.
use Rattle.std.specs.Prelude.{◌≡◌, ℕ, ◌<◌}
use Rattle.host.specs.declared.array_host.ArrayHost.{ArrayHost}
use Rattle.host.specs.declared.work.Work.{Ghosts}
use Rattle.stamp_host.specs.Stamps.{count_of, values_of}

-- they have as many stamps, and the same stamp at each address
abbrev pub SameStamps : {W : Type 0} {g : Ghosts W ℕ} → ArrayHost W ℕ g → ArrayHost W ℕ g → Type 0
SameStamps one other = (count_of one ≡ count_of other) × ((a : ℕ) → a < count_of one → (values_of one).at a ≡ (values_of other).at a)
