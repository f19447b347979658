use Rattle.std.proofs.Common.{◌≡◌, false, drop}
use Rattle.roll.specs.Roll.{Roll, blocked}
use Rattle.claims.proofs.Leaving.{with}
use Rattle.tracker.specs.Tracked.{Tracked}
use Rattle.tracker.specs.Departures.{Woken}
use Rattle.tracker.proofs.tracker.Tracker.leave.Given as goal

-- the tables stand for the roll with the accesses that are left of the task
abbrev pub invariant-loop-x : goal.invariant-loop-x
invariant-loop-x l =
    ((pre post : Roll) → Tracked l.initial.self (with pre l.seat l.accesses post) → blocked pre l.accesses ≡ false → Tracked l.self (with pre l.seat (drop l.x-index l.accesses) post))
    × Woken l.initial.self l.self l.order l.initial.span l.span
