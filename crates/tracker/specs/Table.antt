-- The address table as a map from addresses to what their queues come to. Assumes nothing.
--
--   slot_at, tag_at, lock_at    what stands at a way, its address and its lock
--   live_at                     the count of a set
--   Live, Found, Absent         a way is live; an address is at a way; it is at no way of its set
--   Full, Free                  every way of the set is live; one is not
--   Table                       the table stands for a map
--   Placed                      the way of an address, or one that it may have
--   ChangesOnlyWay              what stands at the other ways stays, and so do the counts
use Rattle.std.specs.Prelude.{◌≡◌, ℕ, zero, suc, ◌+◌, ◌*◌, ◌%◌, ◌<◌, not, ◌&&◌, vec_items, ◌==◌, ◌≢◌, nat_lt, slice_index, slice_index_or}
use Rattle.roll.specs.Tables.{tally}
use Rattle.host.specs.Meaning.{update}
use Rattle.claims.specs.declared.Claim.{Claim}
use Rattle.claims.specs.Claims.{State, vacant, open_to, joined_by}
use Rattle.tracker.specs.State.{state_of, blank}
use Rattle.tracker.specs.declared.lock.Lock.{Lock}
use Rattle.tracker.specs.declared.ways.AddressTable.{AddressTable}
use Rattle.tracker.specs.declared.ways.Claimed.{Claimed}
use Rattle.tracker.specs.declared.ways.Slot.{Slot}

-- what stands at a way; outside the table the address 0, which nobody holds
abbrev pub slot_at : AddressTable → ℕ → Slot
slot_at w i = slice_index_or (vec_items w.slots) i (record { address = 0; lock = blank })

-- the address at a way
abbrev pub tag_at : AddressTable → ℕ → ℕ
tag_at w i = (slot_at w i).address

-- the lock at a way
abbrev pub lock_at : AddressTable → ℕ → Lock
lock_at w i = (slot_at w i).lock

-- the count of a set's live ways
abbrev pub live_at : AddressTable → ℕ → ℕ
live_at w z = slice_index (vec_items w.live) z

-- a way is live while somebody holds its address
abbrev pub Live : AddressTable → ℕ → Type 0
Live w i = 0 < (state_of (lock_at w i)).holders

-- a live address is at the way
abbrev pub Found : AddressTable → ℕ → ℕ → Type 0
Found w a i = (tag_at w i ≡ a) × Live w i

-- an address is at no way of its set
abbrev pub Absent : AddressTable → ℕ → Type 0
Absent w a = (k : ℕ) → k < 8 → Found w a (a % 64 + 64 * k) → ⊥

-- every way of the set of an address is live
abbrev pub Full : AddressTable → ℕ → Type 0
Full w a = (k : ℕ) → k < 8 → Live w (a % 64 + 64 * k)

-- a way of the set of an address is not live
abbrev pub Free : AddressTable → ℕ → ℕ → Type 0
Free w a i = (i < 512) × (i % 64 ≡ a % 64) × ((state_of (lock_at w i)).holders ≡ 0)

-- how many of the first n ways of a set are live
abbrev pub live_ways : AddressTable → ℕ → ℕ → ℕ
live_ways w z zero = 0
live_ways w z (suc n) = tally (nat_lt 0 (state_of (lock_at w (z + 64 * n))).holders) + live_ways w z n

-- the table stands for the map M
pub record Table (w : AddressTable) (M : ℕ → State) : Type 0 where
  -- a live way has what the map says of its address, and each address that is held is at a way
  pub here : (i : ℕ) → i < 512 → Live w i → state_of (lock_at w i) ≡ M (tag_at w i)
  pub there : (a : ℕ) → 0 < (M a).holders → ((i : ℕ) → i < 512 → Found w a i → ⊥) → ⊥
  -- no address is at two ways, and each is at a way of its set
  pub apart : (i j : ℕ) → i < 512 → j < 512 → Live w i → Live w j → tag_at w i ≡ tag_at w j → i ≡ j
  pub home : (i : ℕ) → i < 512 → Live w i → tag_at w i % 64 ≡ i % 64
  -- where nobody holds, nobody waits
  pub idle : (i : ℕ) → i < 512 → (state_of (lock_at w i)).holders ≡ 0 → state_of (lock_at w i) ≡ vacant
  pub absent : (a : ℕ) → (M a).holders ≡ 0 → M a ≡ vacant
  -- each set's live ways are counted
  pub counted : (z : ℕ) → z < 64 → live_at w z ≡ live_ways w z 8

-- i is the way of a, or one that it may have: whatever the table stands for, it shows what it says of a
abbrev pub Placed : AddressTable → ℕ → ℕ → Type 0
Placed w a i =
    (M : ℕ → State) → Table w M →
    (i % 64 ≡ a % 64) × (Live w i → tag_at w i ≡ a) × ((j : ℕ) → j < 512 → Found w a j → j ≡ i) × (state_of (lock_at w i) ≡ M a)

-- the table changes at way i alone: what stands at each other way stays, and so do the counts of the sets
pub record ChangesOnlyWay (w w' : AddressTable) (i : ℕ) : Type 0 where
  pub others : (j : ℕ) → (j ≢ i) → slot_at w' j ≡ slot_at w j
  pub live : vec_items w'.live ≡ vec_items w.live

-- a claim on an address was made: what it met, the table and the set's count after
pub record Joined (w w' : AddressTable) (M : ℕ → State) (a : ℕ) (c : Claim) (r : Claimed) : Type 0 where
  pub fresh : r.fresh ≡ not (nat_lt 0 (M a).holders)
  pub holds : r.holds ≡ open_to (M a) c.writes
  pub table : Table w' (update M a (joined_by (M a) c))
  pub live : (z : ℕ) → z < 64 → live_at w' z ≡ live_at w z + tally (a % 64 == z && not (nat_lt 0 (M a).holders))

-- no way is live
pub record Unused (w : AddressTable) : Type 0 where
  pub locks : (i : ℕ) → i < 512 → state_of (lock_at w i) ≡ vacant
  pub counts : (z : ℕ) → z < 64 → live_at w z ≡ 0
