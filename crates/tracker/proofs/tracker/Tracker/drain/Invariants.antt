use Rattle.std.proofs.Common.{length}
use Rattle.tracker.specs.State.{state_of}
use Rattle.tracker.specs.Table.{lock_at}
use Rattle.tracker.specs.Departures.{Ready, Woken}
use Rattle.tracker.proofs.Draining.{Draining}
use Rattle.tracker.proofs.tracker.Tracker.drain.Given as goal

abbrev pub invariant-loop-seat : goal.invariant-loop-seat
invariant-loop-seat l = (Ready l.initial.self l.way.number → Draining l.initial.self l.self l.way.number) × Woken l.initial.self l.self l.order l.initial.span l.span

abbrev pub decreases-loop-seat : goal.decreases-loop-seat
decreases-loop-seat l = length (state_of (lock_at l.self.table l.way.number)).waiting
