-- What a finish finds at a seat, and what holds of the fields between its two parts. Assumes nothing.
use Rattle.std.specs.Prelude.{◌≡◌, ℕ, Bool, true, false, cond, ◌&&◌, List, ◌++◌, Ok, Err, Result, ◌==◌}
use Rattle.fault.specs.declared.ManagerFault.{ManagerFault}
use Rattle.fault.specs.declared.ManagerFault.TheVariants.{NotRunning, StepsLeft}
use Rattle.acceptance.specs.Listed.{place_of}
use Rattle.seat.specs.declared.Standing.{Standing}
use Rattle.seat.specs.declared.Standing.TheVariants.{Free, Waiting, Ready, Running}
use Rattle.seat.specs.declared.Phase.TheVariants.{Bring, Put, Done}
use Rattle.tracker.specs.Covered.{Covered}
use Rattle.tracker.specs.Tracked.{blocked_at}
use Rattle.tracker.specs.declared.span.Span.{Span}
use Rattle.manager.specs.declared.inner.Inner.{Inner}
use Rattle.manager.specs.Model.{seat_at, ready_of}
use Rattle.manager.specs.Sound.{Seated, free_at, waiting_at}

-- a seat may finish if it runs and has no step left
abbrev pub may_finish : ℕ → Standing → Result ℕ ManagerFault
may_finish s Free = Err (NotRunning s)
may_finish s Waiting = Err (NotRunning s)
may_finish s Ready = Err (NotRunning s)
may_finish s (Running (Bring i n)) = Err (StepsLeft s)
may_finish s (Running (Put i n)) = Err (StepsLeft s)
may_finish s (Running Done) = Ok s

-- right after a task has left: of the tasks that wait, some may no longer be blocked, and their places are covered
pub record Waking (i : Inner) (span : Span) : Type 0 where
  pub seated : Seated i
  pub clear : (s : ℕ) → free_at i s ≡ false → waiting_at i s ≡ false → blocked_at i.tracker s ≡ 0
  pub covered : (s : ℕ) → waiting_at i s ≡ true → blocked_at i.tracker s ≡ 0 → Covered span (place_of i.order s)

-- does the task of a seat wait, and nothing blocks it any more?
abbrev pub wakes : Inner → ℕ → Bool
wakes i s = waiting_at i s && blocked_at i.tracker s == 0

-- after the tasks of some seats became ready and joined the ready line in this order; all else is as it was
pub record BecameReady (i j : Inner) (which : ℕ → Bool) (line : List ℕ) : Type 0 where
  pub seated : Seated j
  pub task : (t : ℕ) → (seat_at j t).task ≡ (seat_at i t).task
  pub standing : (t : ℕ) → (seat_at j t).standing ≡ cond (which t) Ready (seat_at i t).standing
  pub ready : ready_of j ≡ ready_of i ++ line
  pub free : j.free ≡ i.free
  pub order : j.order ≡ i.order
  pub tracker : j.tracker ≡ i.tracker
  pub seats : j.seats ≡ i.seats
  pub versions : j.versions ≡ i.versions
