-- What dispatch and settle do to the lines, in the words of the calls built of calls. Assumes nothing.
use Rattle.std.specs.Prelude.{ℕ, List, map, Ok, Err, Result, slice_set}
use Rattle.fault.specs.declared.ManagerFault.{ManagerFault}
use Rattle.queue.specs.declared.Line.{Line}
use Rattle.queue.specs.declared.Notice.{Notice}
use Rattle.queue.specs.Model.{contents_of}
use Rattle.roll.specs.Built as built
use Rattle.drive.specs.declared.lines.SentOut.{SentOut}
use Rattle.drive.specs.declared.lines.Settled.{Settled}

-- what dispatch answers: the seat, the kind and the name by their names
abbrev pub dispatch_result : Result (ℕ × ℕ × ℕ) ManagerFault → Result SentOut ManagerFault
dispatch_result (Ok t) = Ok (record { seat = t.0; kind = t.1; name = t.2 })
dispatch_result (Err fault) = Err fault

-- the slots of the work line after dispatch: a seat that was taken is written into the slot behind the contents
abbrev pub slots_dispatched : List ℕ → ℕ → Result (ℕ × ℕ × ℕ) ManagerFault → List ℕ
slots_dispatched slots at (Ok t) = slice_set slots at t.0
slots_dispatched slots at (Err fault) = slots

-- a notice of the code, and of the definitions: the same seat and worker
abbrev pub notice_of : Notice → built.Notice
notice_of n = record { seat = n.seat; worker = n.worker }

abbrev pub as_notice : built.Notice → Notice
as_notice n = record { seat = n.seat; worker = n.worker }

-- the notices in a line
abbrev pub notices_of : Line Notice → List built.Notice
notices_of l = map notice_of (contents_of l)

-- what settle answers: the notice and what finish answered by their names
abbrev pub settle_result : Result (built.Notice × Result ℕ ManagerFault) ManagerFault → Result Settled ManagerFault
settle_result (Ok p) = Ok (record { notice = as_notice p.0; finished = p.1 })
settle_result (Err fault) = Err fault
