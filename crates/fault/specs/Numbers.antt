-- The number and the place of each refusal, case by case. Assumes nothing.
--
--   stream_number, stream_place      of what the message reader refuses (1 to 6)
--   table_number, table_place        of what the tables refuse (9 to 12)
--   manager_number, manager_place    of what the manager refuses (5, 7 to 17); a table's fault keeps its own
--   cause_number, cause_place        of either of the two causes for which a message is refused
use Rattle.std.specs.Prelude.{ℕ}
use Rattle.fault.specs.declared.StreamFault.{StreamFault}
use Rattle.fault.specs.declared.StreamFault.TheVariants.{NoByteLeft, UnknownVersion, UnknownKind, BeyondEnd, TooMany, UnknownDirection}
use Rattle.fault.specs.declared.TableFault.{TableFault}
use Rattle.fault.specs.declared.TableFault.TheVariants.{NeverFits, NoFreeSeat, TooFewVersions, SetFull}
use Rattle.fault.specs.declared.ManagerFault.{ManagerFault}
use Rattle.fault.specs.declared.ManagerFault.TheVariants.{TooManyAccesses, RepeatedAddress, NotHeld, Table, NotRunning, NoStepLeft, StepsLeft, LineEmpty, LineFull}
use Rattle.fault.specs.declared.Cause.{Cause}
use Rattle.fault.specs.declared.Cause.TheVariants.{Stream, Manager}

-- the number of a stream's refusal
abbrev pub stream_number : StreamFault → ℕ
stream_number (NoByteLeft place) = 1
stream_number (UnknownVersion found) = 2
stream_number (UnknownKind found) = 3
stream_number (BeyondEnd byte) = 4
stream_number (TooMany count) = 5
stream_number (UnknownDirection byte found) = 6

-- where it is: the reader's place for 1, and for the others the byte number of the field, counted from the message's first byte
abbrev pub stream_place : StreamFault → ℕ
stream_place (NoByteLeft place) = place
stream_place (UnknownVersion found) = 0
stream_place (UnknownKind found) = 1
stream_place (BeyondEnd byte) = byte
stream_place (TooMany count) = 2
stream_place (UnknownDirection byte found) = byte

-- the number of a table's refusal
abbrev pub table_number : TableFault → ℕ
table_number NeverFits = 9
table_number NoFreeSeat = 10
table_number (TooFewVersions missing) = 11
table_number (SetFull set) = 12

-- where it is: how many versions are missing for 11, the lowest set without room for 12, and 0 for the others
abbrev pub table_place : TableFault → ℕ
table_place NeverFits = 0
table_place NoFreeSeat = 0
table_place (TooFewVersions missing) = missing
table_place (SetFull set) = set

-- the number of a manager's refusal
abbrev pub manager_number : ManagerFault → ℕ
manager_number TooManyAccesses = 5
manager_number (RepeatedAddress access) = 7
manager_number (NotHeld access) = 8
manager_number (Table fault) = table_number fault
manager_number (NotRunning seat) = 13
manager_number (NoStepLeft seat) = 14
manager_number (StepsLeft seat) = 15
manager_number LineEmpty = 16
manager_number LineFull = 17

-- where it is: the access number for 7 and 8, the seat for 13 to 15, and 0 for 5, 16 and 17
abbrev pub manager_place : ManagerFault → ℕ
manager_place TooManyAccesses = 0
manager_place (RepeatedAddress access) = access
manager_place (NotHeld access) = access
manager_place (Table fault) = table_place fault
manager_place (NotRunning seat) = seat
manager_place (NoStepLeft seat) = seat
manager_place (StepsLeft seat) = seat
manager_place LineEmpty = 0
manager_place LineFull = 0

-- the number of what a message is refused for
abbrev pub cause_number : Cause → ℕ
cause_number (Stream fault) = stream_number fault
cause_number (Manager fault) = manager_number fault

-- the place that it names
abbrev pub cause_place : Cause → ℕ
cause_place (Stream fault) = stream_place fault
cause_place (Manager fault) = manager_place fault
