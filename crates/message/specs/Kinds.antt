-- The byte that stands for a kind of message. Assumes nothing.
use Rattle.std.specs.Prelude.{ℕ, cond, Ok, Err, Result, ◌==◌}
use Rattle.fault.specs.declared.StreamFault.{StreamFault}
use Rattle.fault.specs.declared.StreamFault.TheVariants.{UnknownKind}
use Rattle.layout.specs.Layout.{submission_kind, notice_kind}
use Rattle.message.specs.declared.kind.Kind.{Kind}
use Rattle.message.specs.declared.kind.Kind.TheVariants.{Submission, Finish}

-- the byte of a kind
abbrev pub kind_code : Kind → ℕ
kind_code Submission = submission_kind
kind_code Finish = notice_kind

-- the kind of a byte, or the fault of a message of an unknown kind
abbrev pub kind_of : ℕ → Result Kind StreamFault
kind_of code = cond (code == submission_kind) (Ok Submission) (cond (code == notice_kind) (Ok Finish) (Err (UnknownKind code)))
