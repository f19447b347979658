-- What a host of stamps means: the stamps at the addresses from 0 on, and the stamps held aside. Assumes nothing.
use Rattle.std.specs.Prelude.{ℕ, List}
use Rattle.host.specs.ArrayHost as hosts
use Rattle.host.specs.Meaning.{Fixed, Values}
use Rattle.host.specs.declared.array_host.ArrayHost.{ArrayHost}
use Rattle.host.specs.declared.work.Work.{Ghosts}
pub use Rattle.stamp_host.specs.Limit.{max_stamps}
use Rattle.stamp_host.specs.Rule.{stamp_rule}

-- what is fixed of a host that is made of n stamps, or of max_stamps if n is more: it holds the addresses below that
abbrev pub fixed_for : ℕ → Fixed ℕ
fixed_for n = hosts.fixed_for 1 stamp_rule n

-- the stamps of a list at the held addresses, 0 at every other address, and zeros held aside
abbrev pub values_from : List ℕ → Values ℕ
values_from stamps = hosts.values_from 1 0 stamps

-- 0 at every address and zeros held aside
abbrev pub all_zero : Values ℕ
all_zero = hosts.all_blank 0

module _ {W : Type 0} {g : Ghosts W ℕ} where
  -- how many stamps a host has
  abbrev pub count_of : ArrayHost W ℕ g → ℕ
  count_of h = hosts.count_of h

  -- what is fixed of a host
  abbrev pub fixed_of : ArrayHost W ℕ g → Fixed ℕ
  fixed_of h = hosts.fixed_of h

  -- the values of a host: its stamps at the held addresses, 0 at every other address, and the stamps held aside
  abbrev pub values_of : ArrayHost W ℕ g → Values ℕ
  values_of h = hosts.values_of h
