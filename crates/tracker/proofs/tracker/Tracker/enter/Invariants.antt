use Rattle.std.proofs.Common.{◌≡◌, ℕ, ◌≤◌, [], ◌∷◌, length, take, None}
use Rattle.roll.specs.Roll.{Roll}
use Rattle.roll.specs.Tables.{stall}
use Rattle.claims.specs.Queues.{Apart}
use Rattle.claims.proofs.Joins.{plus}
use Rattle.tracker.specs.Tracked.{Tracked, sized}
use Rattle.tracker.proofs.tracker.Tracker.enter.Given as goal

-- the tables stand for the roll and a task with the accesses so far
abbrev pub invariant-loop-x : goal.invariant-loop-x
invariant-loop-x l =
    (v : Roll) (versions : ℕ) → Tracked l.initial.self (plus v l.seat []) → Apart l.accesses → length l.accesses ≤ 15 → versions ≤ 512 →
    stall (sized 0 versions) v (0 ∷ []) l.accesses ≡ None → Tracked l.self (plus v l.seat (take l.x-index l.accesses))
