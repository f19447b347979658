-- Why the tables do not take a task, and the seat that it gets if they do. Assumes nothing.
use Rattle.std.specs.Prelude.{ℕ, cond, List, [], ◌∷◌, Some, None, Ok, Err, Option, Result}
use Rattle.fault.specs.declared.TableFault.{TableFault}
use Rattle.fault.specs.declared.TableFault.TheVariants.{NeverFits, NoFreeSeat}
use Rattle.task.specs.declared.Access.{Access}
use Rattle.roll.specs.Roll.{Roll}
use Rattle.roll.specs.Tables.{Tables, never_fits, stall}

-- what the tables refuse: a task that never fits, or one that stalls
abbrev pub table_fault : Tables → Roll → List ℕ → List Access → Option TableFault
table_fault z roll free xs = cond (never_fits z xs) (Some NeverFits) (stall z roll free xs)

-- the first free seat, unless there is a fault
abbrev pub seat_unless : Option TableFault → List ℕ → Result ℕ TableFault
seat_unless (Some fault) free = Err fault
seat_unless None [] = Err NoFreeSeat
seat_unless None (s ∷ free) = Ok s
