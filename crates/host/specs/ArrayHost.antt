-- What a host whose values lie at evenly spaced addresses means: the values at the multiples of the step from 0 on, and
-- the values held aside. Assumes nothing.
use Rattle.std.specs.Prelude.{ℕ, ◌/◌, ◌%◌, min, Bool, cond, ◌&&◌, List, length, vec_items, vec_len, ◌==◌, nat_lt, slice_index_or}
use Rattle.host.specs.Meaning.{Fixed, Values}
use Rattle.host.specs.SeatValues.{aside_of}
use Rattle.host.specs.Limit.{max_values}
use Rattle.host.specs.declared.array_host.ArrayHost.{ArrayHost}
use Rattle.host.specs.declared.work.Work.{Ghosts}

-- whether one of n values is at the address
abbrev pub held_by : ℕ → ℕ → ℕ → Bool
held_by step n a = a % step == 0 && nat_lt (a / step) n

-- what is fixed of a host with n values: it holds an address for each
abbrev pub fixed_by : {V : Type 0} → ℕ → (ℕ → ℕ → List V → V) → ℕ → Fixed V
fixed_by step rule n = record { held = held_by step n; rule = rule }

-- the value of a list at each of the first n addresses, and the blank value at every other address
abbrev pub value_by : {V : Type 0} → ℕ → V → ℕ → List V → ℕ → V
value_by step blank n xs a = cond (held_by step n a) (slice_index_or xs (a / step) blank) blank

-- the values of a list at its first n addresses, the blank value at every other address, and the values held aside
abbrev pub values_by : {V : Type 0} → ℕ → V → ℕ → List V → (ℕ → ℕ → V) → Values V
values_by step blank n xs aside = record { at = value_by step blank n xs; aside = aside }

-- what is fixed of a host that is made of n values, or of max_values if n is more
abbrev pub fixed_for : {V : Type 0} → ℕ → (ℕ → ℕ → List V → V) → ℕ → Fixed V
fixed_for step rule n = fixed_by step rule (min n max_values)

-- the values of a list at the held addresses, the blank value at every other address, and blank values held aside
abbrev pub values_from : {V : Type 0} → ℕ → V → List V → Values V
values_from step blank xs = values_by step blank (min (length xs) max_values) xs (λ s p. blank)

-- the blank value at every address and held aside
abbrev pub all_blank : {V : Type 0} → V → Values V
all_blank blank = record { at = λ a. blank; aside = λ s p. blank }

-- how many values a host has
abbrev pub count_of : {W V : Type 0} {g : Ghosts W V} → ArrayHost W V g → ℕ
count_of h = vec_len h.values

-- what is fixed of a host
abbrev pub fixed_of : {W V : Type 0} {g : Ghosts W V} → ArrayHost W V g → Fixed V
fixed_of {g} h = fixed_by g.STEP g.rule (count_of h)

-- the values of a host: its own at the held addresses, the blank value at every other address, and those held aside
abbrev pub values_of : {W V : Type 0} {g : Ghosts W V} → ArrayHost W V g → Values V
values_of {g} h = values_by g.STEP g.blank (count_of h) (vec_items h.values) (aside_of g.blank h.aside)
