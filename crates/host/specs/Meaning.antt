-- What a host means: the addresses that it holds, the value at each, the values held aside for each seat and position,
-- and the work rule; and what bring and put do to them. Assumes nothing.
--
--   Fixed        what never changes: the held addresses and the work rule
--   Values       what changes: the value at each address, the value held aside for each seat and position
--   brought      the values after a bring
--   stored       the values after a put
use Rattle.std.specs.Prelude.{ℕ, zero, suc, Bool, cond, ◌&&◌, List, [], ◌∷◌, ◌==◌, nat_le, nat_lt}

-- how many seats have values held aside, and how many positions each of them has: one for each access that a task may have
abbrev pub seats : ℕ
seats = 256

abbrev pub positions : ℕ
positions = 15

-- what is fixed of a host: whether it holds an address, and the work rule, which names a value for a kind of work,
-- an access number and a list of values
pub record Fixed (V : Type 0) : Type 0 where
  pub held : ℕ → Bool
  pub rule : ℕ → ℕ → List V → V

-- what changes: the value at each address, and the value held aside for each seat and position
pub record Values (V : Type 0) : Type 0 where
  pub at : ℕ → V
  pub aside : ℕ → ℕ → V

-- a function changed at one argument
abbrev pub update : {A : Type 0} → (ℕ → A) → ℕ → A → ℕ → A
update f a v b = cond (b == a) v (f b)

-- the n values of a function from position p on
abbrev pub row : {V : Type 0} → ℕ → ℕ → (ℕ → V) → List V
row p zero f = []
row p (suc n) f = f p ∷ row (suc p) n f

-- the value at the address is copied to the seat's position
abbrev pub copied : {V : Type 0} → ℕ → ℕ → ℕ → Values V → Values V
copied address seat position w = record { at = w.at; aside = update w.aside seat (update (w.aside seat) position (w.at address)) }

-- the address is set to the rule's value for the kind, the access number and the seat's first n positions
abbrev pub worked : {V : Type 0} → Fixed V → ℕ → ℕ → ℕ → ℕ → ℕ → Values V → Values V
worked h kind access n seat address w =
    record { at = update w.at address (h.rule kind access (row 0 n (w.aside seat))); aside = w.aside }

-- bring: with an address that is not held, or a seat or a position beyond the table, nothing changes
abbrev pub brought : {V : Type 0} → Fixed V → ℕ → ℕ → ℕ → Values V → Values V
brought h address seat position w = cond (h.held address && (nat_lt seat seats && nat_lt position positions)) (copied address seat position w) w

-- put: with an address that is not held, a seat beyond the table, or more values than a seat has positions, nothing changes
abbrev pub stored : {V : Type 0} → Fixed V → ℕ → ℕ → ℕ → ℕ → ℕ → Values V → Values V
stored h kind access n seat address w = cond (h.held address && (nat_lt seat seats && nat_le n positions)) (worked h kind access n seat address w) w
