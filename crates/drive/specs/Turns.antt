-- What a turn answers, as the code's own types have it. Assumes nothing.
use Rattle.std.specs.Prelude.{ℕ, Ok, Err, Result}
use Rattle.fault.specs.declared.ManagerFault.{ManagerFault}
use Rattle.drive.specs.declared.turns.Ran.{Ran}

-- the seat and the count by their names
abbrev pub turn_result : Result (ℕ × ℕ) ManagerFault → Result Ran ManagerFault
turn_result (Ok p) = Ok (record { seat = p.0; woken = p.1 })
turn_result (Err fault) = Err fault
