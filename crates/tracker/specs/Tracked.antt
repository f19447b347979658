-- The dependence tables stand for a roll. Assumes nothing.
--
--   sized                tables of so many seats and versions, and 64 sets
--   blocked_at           how many accesses of a seat's task wait
--   repeats, doubled     a task has an address twice; two tasks have one seat
--   Tracked              the tables stand for a roll
--   unless               a check that answers a fault of the tables
use Rattle.std.specs.Prelude.{◌≡◌, ℕ, ◌%◌, ◌<◌, ◌≤◌, Bool, false, ◌||◌, List, [], ◌∷◌, ◌++◌, length, Some, None, Ok, Err, Option, Result, vec_items, ◌==◌, slice_index}
use Rattle.fault.specs.declared.TableFault.{TableFault}
use Rattle.task.specs.declared.Access.{Access}
use Rattle.admission.specs.Admission.{occurs}
use Rattle.roll.specs.Roll.{Entry, Roll}
use Rattle.roll.specs.Tables.{Tables, used, occupied, sets}
use Rattle.claims.specs.Queues.{map_of, stuck_of}
use Rattle.tracker.specs.Table.{Table, live_at}
use Rattle.tracker.specs.declared.tracker.Tracker.{Tracker}

-- tables of so many seats and versions; an address belongs to the set of its remainder
abbrev pub sized : ℕ → ℕ → Tables
sized seats versions = record { seats = seats; versions = versions; set_of = λ a. a % sets }

-- how many accesses of the task at a seat wait
abbrev pub blocked_at : Tracker → ℕ → ℕ
blocked_at t s = slice_index (vec_items t.blocked) s

-- does an address occur twice?
abbrev pub repeats : List Access → Bool
repeats [] = false
repeats (x ∷ xs) = occurs x.address xs || repeats xs

-- has a task of the roll the seat?
abbrev pub taken : ℕ → Roll → Bool
taken s [] = false
taken s (e ∷ es) = e.job.seat == s || taken s es

-- have two tasks one seat?
abbrev pub doubled : Roll → Bool
doubled [] = false
doubled (e ∷ es) = taken e.job.seat es || doubled es

-- the tables stand for the roll
pub record Tracked (t : Tracker) (v : Roll) : Type 0 where
  -- the address table has what the roll makes of each address
  pub table : Table t.table (map_of v)
  -- each task's count is that of its accesses that wait
  pub counts : (pre post : Roll) (e : Entry) → v ≡ pre ++ (e ∷ post) → blocked_at t e.job.seat ≡ stuck_of (map_of v) e.job.seat e.job.accesses
  -- the versions in use, and the live addresses of each set
  pub versions : t.used ≡ used [] v
  pub addresses : (z : ℕ) → z < 64 → live_at t.table z ≡ occupied (sized 0 0) z [] v
  -- each task has a seat of the table, at most 15 accesses, and no address twice
  pub low : (pre post : Roll) (e : Entry) → v ≡ pre ++ (e ∷ post) → e.job.seat < 256
  pub short : (pre post : Roll) (e : Entry) → v ≡ pre ++ (e ∷ post) → length e.job.accesses ≤ 15
  pub apart : (pre post : Roll) (e : Entry) → v ≡ pre ++ (e ∷ post) → repeats e.job.accesses ≡ false
  -- no two tasks have one seat, and there are at most as many as seats
  pub seats : doubled v ≡ false
  pub few : length v ≤ 256

-- a check that answers the fault, if there is one
abbrev pub unless : Option TableFault → Result (Unit {0}) TableFault
unless (Some fault) = Err fault
unless None = Ok tt
