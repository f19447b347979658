-- The work rule of tiles: a tile made from a kind and a list of tiles. Assumes nothing.
use Rattle.std.specs.Prelude.{ℕ, ◌/◌, max, cond, List, [], ◌∷◌, length, fold, sum_by, ◌==◌, slice_index}
use Rattle.tile_host.specs.declared.Tile.{Tile}
use Rattle.tile_host.specs.declared.rule.Kind.{Kind}
use Rattle.tile_host.specs.declared.rule.Kind.TheVariants.{Zeros, Average, Maximum, First}

-- the number in a channel of a tile
abbrev pub channel : ℕ → Tile → ℕ
channel c tile = slice_index tile.channels c

-- the sum of a channel over a list of tiles
abbrev pub total : ℕ → List Tile → ℕ
total c values = sum_by (channel c) values

-- the greatest number of a channel over a list of tiles, or 0
abbrev pub highest : ℕ → List Tile → ℕ
highest c values = fold (λ best tile. max best (channel c tile)) 0 values

-- the tile with a number for each channel
abbrev pub tile_of : (ℕ → ℕ) → Tile
tile_of f = record { channels = f 0 ∷ f 1 ∷ f 2 ∷ f 3 ∷ [] }

-- the tile of zeros
abbrev pub blank : Tile
blank = tile_of (λ c. 0)

-- the kind of work that a number stands for
abbrev pub kind_of : ℕ → Kind
kind_of number = cond (number == 0) Zeros (cond (number == 1) Average (cond (number == 2) Maximum First))

-- kind 0: zeros; kind 1: each channel's average, rounded down; kind 2: each channel's maximum; any other: the first value;
-- and zeros for no value
abbrev pub tile_rule : ℕ → List Tile → Tile
tile_rule kind [] = blank
tile_rule kind (first ∷ rest) =
    cond (kind == 0) blank
    (cond (kind == 1) (tile_of (λ c. total c (first ∷ rest) / length (first ∷ rest)))
    (cond (kind == 2) (tile_of (λ c. highest c (first ∷ rest))) first))
