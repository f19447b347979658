-- What stands in slots that are used as a ring: some elements from a slot on, round the end of the slots. Assumes nothing.
use Rattle.std.specs.Prelude.{ℕ, ◌+◌, ◌-◌, cond, List, ◌++◌, take, drop, nat_lt}

-- the slots from head on, and then those before head
abbrev pub turned : {X : Type 0} → List X → ℕ → List X
turned xs h = drop h xs ++ take h xs

-- the n elements from head on
abbrev pub contents : {X : Type 0} → List X → ℕ → ℕ → List X
contents xs h n = take n (turned xs h)

-- the slot behind them
abbrev pub next_slot : ℕ → ℕ → ℕ → ℕ
next_slot slots h n = cond (nat_lt n (slots - h)) (h + n) (n - (slots - h))
