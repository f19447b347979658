-- What a host of tiles means: the tiles at the multiples of 16 from 0 on, and the tiles held aside. Assumes nothing.
use Rattle.std.specs.Prelude.{ℕ, List}
use Rattle.host.specs.ArrayHost as hosts
use Rattle.host.specs.Meaning.{Fixed, Values}
use Rattle.host.specs.declared.array_host.ArrayHost.{ArrayHost}
use Rattle.host.specs.declared.work.Work.{Ghosts}
pub use Rattle.tile_host.specs.Limit.{max_tiles}
use Rattle.tile_host.specs.Rule.{blank, tile_rule}
use Rattle.tile_host.specs.declared.Tile.{Tile}

-- what is fixed of a host that is made of n tiles, or of max_tiles if n is more: it holds an address for each, and its rule
-- takes no account of the access number
abbrev pub fixed_for : ℕ → Fixed Tile
fixed_for n = hosts.fixed_for 16 (λ kind access values. tile_rule kind values) n

-- the tiles of a list at the held addresses, the blank tile at every other address, and blank tiles held aside
abbrev pub values_from : List Tile → Values Tile
values_from tiles = hosts.values_from 16 blank tiles

module _ {W : Type 0} {g : Ghosts W Tile} where
  -- how many tiles a host has
  abbrev pub count_of : ArrayHost W Tile g → ℕ
  count_of h = hosts.count_of h

  -- what is fixed of a host
  abbrev pub fixed_of : ArrayHost W Tile g → Fixed Tile
  fixed_of h = hosts.fixed_of h

  -- the values of a host: its tiles at the held addresses, the blank tile at every other address, and the tiles held aside
  abbrev pub values_of : ArrayHost W Tile g → Values Tile
  values_of h = hosts.values_of h
