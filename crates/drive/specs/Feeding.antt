-- What feed answers, as the code's own types have it. Assumes nothing.
use Rattle.std.specs.Prelude.{Ok, Err, Result}
use Rattle.fault.specs.declared.ManagerFault.{ManagerFault}
use Rattle.fault.specs.declared.Cause.{Cause}
use Rattle.layout.specs.Layout.{Contents}
use Rattle.roll.specs.Calls.{Outcome, refused, succeeded}
use Rattle.roll.specs.Built as built
use Rattle.drive.specs.declared.fed.Fed.{Fed}
use Rattle.drive.specs.declared.fed.Fed.TheVariants.{Submitted, Finished}
use Rattle.drive.specs.declared.fed.FeedFault.{FeedFault}

-- which of the two it was
abbrev pub as_fed : built.Fed → Fed
as_fed (built.submitted_to seat) = Submitted seat
as_fed (built.finished_with woken) = Finished woken

-- why not, beside the place
abbrev pub as_fault : built.FeedFailure → FeedFault
as_fault f = record { place = f.place; cause = f.cause }

-- what feed answers
abbrev pub feed_result : Result built.Fed built.FeedFailure → Result Fed FeedFault
feed_result (Ok fed) = Ok (as_fed fed)
feed_result (Err fault) = Err (as_fault fault)

-- the same without the place
abbrev pub cause_result : Result built.Fed built.FeedFailure → Result Fed Cause
cause_result (Ok fed) = Ok (as_fed fed)
cause_result (Err fault) = Err fault.cause

-- and what the call of a message answers, by its outcome
abbrev pub asked_result : {V : Type 0} → Contents → Outcome V → Result Fed ManagerFault
asked_result c (refused fault) = Err fault
asked_result c (succeeded r) = Ok (as_fed (built.fed_by c r.seat r.answer))
