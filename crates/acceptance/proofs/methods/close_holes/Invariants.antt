use Rattle.std.proofs.Common.{take}
use Rattle.acceptance.specs.Placed.{Placed}
use Rattle.acceptance.proofs.methods.close_holes.Given as goal

abbrev pub invariant-loop-place : goal.invariant-loop-place
invariant-loop-place l = Placed (take l.place l.slot-items) l.places
