-- What the parts of a departure do to the tables. Assumes nothing.
--
--   Leaves, Departed    when a holder of an address can leave, and what is so after
--   Ready, Drained      when those that wait at a way can become holders, and what is so after all that may do
--   Lowered             one access fewer of a seat's task waits
--   Woken               the seats whose last waiting access became a holder are covered
use Rattle.std.specs.Prelude.{◌≡◌, ℕ, ◌+◌, ◌-◌, ◌%◌, ◌<◌, ◌≤◌, not, ◌&&◌, length, ◌==◌, ◌≢◌, nat_lt}
use Rattle.acceptance.specs.declared.Acceptance.{Acceptance}
use Rattle.acceptance.specs.Listed.{place_of}
use Rattle.host.specs.Meaning.{update}
use Rattle.roll.specs.Tables.{tally}
use Rattle.claims.specs.Claims.{State, claims, released, freed, settled}
use Rattle.tracker.specs.State.{state_of}
use Rattle.tracker.specs.Table.{Table, ChangesOnlyWay, tag_at, lock_at, live_at}
use Rattle.tracker.specs.Covered.{Covered}
use Rattle.tracker.specs.Tracked.{blocked_at}
use Rattle.tracker.specs.declared.span.Span.{Span}
use Rattle.tracker.specs.declared.tracker.Tracker.{Tracker}

-- somebody holds the address, and each seat's count covers its claims that wait
pub record Leaves (st : State) (t : Tracker) : Type 0 where
  pub some : 0 < st.holders
  pub few : st.holders + length st.waiting ≤ 512
  pub owed : (s : ℕ) → s < 256 → claims s st.waiting ≤ blocked_at t s

-- a holder of an address left: the map, the counts, the versions in use and the live addresses of each set
pub record Departed (t t' : Tracker) (M : ℕ → State) (a : ℕ) : Type 0 where
  pub table : Table t'.table (update M a (released (M a)))
  pub counts : (s : ℕ) → s < 256 → blocked_at t' s + claims s (M a).waiting ≡ blocked_at t s + claims s (released (M a)).waiting
  pub versions : t'.used ≡ t.used - freed (M a)
  pub addresses : (z : ℕ) → z < 64 → live_at t'.table z ≡ live_at t.table z - tally (a % 64 == z && not (nat_lt 0 (released (M a)).holders))

-- the lock at a way has few claims, and each seat's count covers its claims that wait there
pub record Ready (t : Tracker) (i : ℕ) : Type 0 where
  pub few : (state_of (lock_at t.table i)).holders + length (state_of (lock_at t.table i)).waiting ≤ 512
  pub owed : (s : ℕ) → s < 256 → claims s (state_of (lock_at t.table i)).waiting ≤ blocked_at t s

-- all that may hold the address at a way do, and each seat's count fell by its claims that became holders
pub record Drained (t t' : Tracker) (i : ℕ) : Type 0 where
  pub tag : tag_at t'.table i ≡ tag_at t.table i
  pub rest : ChangesOnlyWay t.table t'.table i
  pub versions : t'.used ≡ t.used
  pub here : state_of (lock_at t'.table i) ≡ settled (state_of (lock_at t.table i))
  pub counts : (s : ℕ) → s < 256 → blocked_at t' s + claims s (state_of (lock_at t.table i)).waiting ≡ blocked_at t s + claims s (settled (state_of (lock_at t.table i))).waiting

-- one access fewer of the seat's task waits, and nothing else changes
pub record Lowered (t t' : Tracker) (seat : ℕ) : Type 0 where
  pub table : t'.table ≡ t.table
  pub versions : t'.used ≡ t.used
  pub counts : (s : ℕ) → blocked_at t' s ≡ blocked_at t s - tally (seat == s)

-- the place of each seat that is no longer blocked is covered, and what was covered still is
pub record Woken (t t' : Tracker) (o : Acceptance) (sp sp' : Span) : Type 0 where
  pub covered : (s : ℕ) → s < 256 → (blocked_at t s ≢ 0) → blocked_at t' s ≡ 0 → Covered sp' (place_of o s)
  pub stays : (p : ℕ) → Covered sp p → Covered sp' p
