-- What always holds of the manager's fields. Every part is a proposition. Assumes nothing.
--
--   free_at, waiting_at, ready_at    a seat's standing
--   Sound                            the fields agree with one another
use Rattle.std.specs.Prelude.{◌≡◌, ℕ, ◌<◌, ◌≤◌, Bool, true, false, not, ◌&&◌, vec_len, ◌==◌, nat_lt}
use Rattle.roll.specs.Tables.{tally, max_seats, max_versions}
use Rattle.acceptance.specs.Listed.{listed, member}
use Rattle.claims.specs.Queues.{bares}
use Rattle.seat.specs.declared.Standing.{Standing}
use Rattle.seat.specs.declared.Standing.TheVariants.{Free, Waiting, Ready, Running}
use Rattle.tracker.specs.Tracked.{Tracked, blocked_at}
use Rattle.manager.specs.declared.inner.Inner.{Inner}
use Rattle.manager.specs.Lines.{occurrences}
use Rattle.manager.specs.Model.{seat_at, roll_of, ready_of, free_of}

-- is a seat free? does its task wait? is it ready?
abbrev pub is_free : Standing → Bool
is_free Free = true
is_free Waiting = false
is_free Ready = false
is_free (Running p) = false

abbrev pub is_waiting : Standing → Bool
is_waiting Free = false
is_waiting Waiting = true
is_waiting Ready = false
is_waiting (Running p) = false

abbrev pub is_ready : Standing → Bool
is_ready Free = false
is_ready Waiting = false
is_ready Ready = true
is_ready (Running p) = false

abbrev pub free_at : Inner → ℕ → Bool
free_at i s = is_free (seat_at i s).standing

abbrev pub waiting_at : Inner → ℕ → Bool
waiting_at i s = is_waiting (seat_at i s).standing

abbrev pub ready_at : Inner → ℕ → Bool
ready_at i s = is_ready (seat_at i s).standing

-- what holds of the fields also while a finish is under way
pub record Seated (i : Inner) : Type 0 where
  -- there is a record for every seat, and the sizes are within their limits
  pub full : vec_len i.table.records ≡ max_seats
  pub few_seats : i.seats ≤ max_seats
  pub few_versions : i.versions ≤ max_versions
  -- the seats in order of acceptance are those that are not free
  pub listed_seats : (s : ℕ) → member s (listed i.order) ≡ not (free_at i s)
  -- and all of them are within the number of seats
  pub within : (s : ℕ) → free_at i s ≡ false → s < i.seats
  -- the free line has each free seat once, the ready line each ready one
  pub freed : (s : ℕ) → occurrences s (free_of i) ≡ tally (nat_lt s i.seats && free_at i s)
  pub lined : (s : ℕ) → occurrences s (ready_of i) ≡ tally (ready_at i s)
  -- the dependence tables stand for the roll
  pub tracked : Tracked i.tracker (bares (roll_of i))

-- a task waits exactly if one of its accesses is blocked
pub record Sound (i : Inner) : Type 0 where
  pub seated : Seated i
  pub waits : (s : ℕ) → free_at i s ≡ false → waiting_at i s ≡ not (blocked_at i.tracker s == 0)
