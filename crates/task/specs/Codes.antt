-- The byte that stands for a direction. Assumes nothing.
use Rattle.std.specs.Prelude.{ℕ, cond, Ok, Err, Result, ◌==◌}
use Rattle.task.specs.declared.Direction.{Direction}
use Rattle.task.specs.declared.Direction.TheVariants.{In, Out, InOut}
use Rattle.task.specs.declared.UnknownDirection.{UnknownDirection}

-- the direction of a code: 1 is in, 2 out and 3 inout, and no other code has one
abbrev pub direction_of : ℕ → Result Direction UnknownDirection
direction_of code = cond (code == 1) (Ok In) (cond (code == 2) (Ok Out) (cond (code == 3) (Ok InOut) (Err (record { found = code }))))
