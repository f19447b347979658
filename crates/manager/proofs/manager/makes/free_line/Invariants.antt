use Rattle.std.proofs.Common.{◌≡◌}
use Rattle.ring.specs.Model.{contents_of}
use Rattle.roll.specs.Calls.{numbers}
use Rattle.manager.proofs.manager.makes.free_line.Given as goal

abbrev pub invariant-loop-seat : goal.invariant-loop-seat
invariant-loop-seat l = contents_of l.line ≡ numbers 0 l.seat
