-- What the code answers, in the words of the one-at-a-time run. Assumes nothing.
use Rattle.std.specs.Prelude.{◌≡◌, ℕ, ◌+◌, List, [], ◌∷◌, ◌++◌, map, length, drop, Some, None, Ok, Err, vec_items}
use Rattle.fault.specs.declared.ManagerFault.{ManagerFault}
use Rattle.fault.specs.declared.Cause.{Cause}
use Rattle.fault.specs.declared.Cause.TheVariants.{Stream, Manager}
use Rattle.task.specs.declared.tasks.Task.{Task}
use Rattle.task.specs.Task.{accesses_of}
use Rattle.host.specs.Meaning.{Fixed, Values}
use Rattle.layout.specs.Layout.{Contents, submits, finishes, layout}
use Rattle.layout.specs.Reading.{read}
use Rattle.admission.specs.Admission.{task_fault}
use Rattle.one_at_a_time.specs.declared.journal.End.{End}
use Rattle.one_at_a_time.specs.declared.journal.End.TheVariants.{Refused, OutOfMemory}
use Rattle.one_at_a_time.specs.declared.journal.TaskRun.{TaskRun}
use Rattle.one_at_a_time.specs.declared.journal.Entry.{Entry}
use Rattle.one_at_a_time.specs.declared.journal.Entry.TheVariants.{Ran, PassedOver}
use Rattle.one_at_a_time.specs.declared.journal.Journal.{Journal}
use Rattle.one_at_a_time.specs.Alone.{values_read, values_written, done_alone}
use Rattle.one_at_a_time.specs.Journal.{Line, did, passed, said, line, journal, run, after_all, run_all, stream}

-- a task was run alone: it was not at fault, it read and wrote what it should, and left the values that it should
pub record RanAlone {V : Type 0} (h : Fixed V) (task : Task) (t : TaskRun V) (before after : Values V) : Type 0 where
  pub same : t.task ≡ task
  pub sound : task_fault h.held (accesses_of task) ≡ None
  pub read : vec_items t.read ≡ values_read before.at (accesses_of task)
  pub wrote : vec_items t.wrote ≡ values_written h task.kind (values_read before.at (accesses_of task)) (accesses_of task)
  pub values : after ≡ done_alone h 0 task.kind (accesses_of task) before

-- a task was not run: for its first fault, or, where it has none, for want of memory
abbrev pub NotRunFor : {V : Type 0} → Fixed V → Task → Cause → Type 0
NotRunFor h task (Stream fault) = ⊥
NotRunFor h task (Manager fault) = task_fault h.held (accesses_of task) ≡ Some fault

abbrev pub NotRun : {V : Type 0} → Fixed V → Task → End → Type 0
NotRun h task (Refused cause) = NotRunFor h task cause
NotRun h task OutOfMemory = task_fault h.held (accesses_of task) ≡ None

-- the line of an entry, and the lines of a list of entries
abbrev pub line_of : {V : Type 0} → Entry V → Line V
line_of (Ran t) = did t.task.name t.task.kind (accesses_of t.task) (vec_items t.read) (vec_items t.wrote)
line_of (PassedOver seat) = passed seat

abbrev pub lines_of : {V : Type 0} → List (Entry V) → List (Line V)
lines_of es = map line_of es

-- the messages of lines
abbrev pub messages : {V : Type 0} → List (Line V) → List Contents
messages ls = map said ls

-- a message is refused for what it asks: only a submission is, for its task's first fault
abbrev pub RefusedFor : {V : Type 0} → Fixed V → Contents → ManagerFault → Type 0
RefusedFor h (submits name kind xs) fault = task_fault h.held xs ≡ Some fault
RefusedFor h (finishes seat) fault = ⊥

abbrev pub NotTakenFor : {V : Type 0} → Fixed V → Contents → Cause → Type 0
NotTakenFor h m (Stream fault) = ⊥
NotTakenFor h m (Manager fault) = RefusedFor h m fault

-- a message could be done: a submission whose task has no fault; a finish notice needs no memory
abbrev pub CouldBeDone : {V : Type 0} → Fixed V → Contents → Type 0
CouldBeDone h (submits name kind xs) = task_fault h.held xs ≡ None
CouldBeDone h (finishes seat) = ⊥

-- a message is not taken: it is refused for what it asks, or, where it is not, there is no memory
abbrev pub NotTaken : {V : Type 0} → Fixed V → Contents → End → Type 0
NotTaken h m (Refused cause) = NotTakenFor h m cause
NotTaken h m OutOfMemory = CouldBeDone h m

-- the bytes at a place are refused: they are no message, or one that is refused for what it asks
abbrev pub EndedFor : {V : Type 0} → Fixed V → List ℕ → ℕ → Cause → Type 0
EndedFor h bytes place (Stream fault) = read place (drop place bytes) ≡ Err fault
EndedFor h bytes place (Manager fault) = (m : Contents) × (rest : List ℕ) × (read place (drop place bytes) ≡ Ok (m, rest)) × RefusedFor h m fault

-- a message stands at a place
abbrev pub MessageAt : List ℕ → ℕ → Type 0
MessageAt bytes place = (m : Contents) × (rest : List ℕ) × (read place (drop place bytes) ≡ Ok (m, rest))

-- a run ends at a place for this reason; for want of memory only where a message stands
abbrev pub Ended : {V : Type 0} → Fixed V → List ℕ → ℕ → End → Type 0
Ended h bytes place (Refused cause) = EndedFor h bytes place cause
Ended h bytes place OutOfMemory = MessageAt bytes place

-- one message more: it stands at the place, which moves behind it, and it is done
pub record Next {V : Type 0} (h : Fixed V) (bytes : List ℕ) (place place' : ℕ) (ls ls' : List (Line V)) (w w' : Values V) : Type 0 where
  pub message : Contents
  pub laid : drop place bytes ≡ layout message ++ drop place' bytes
  pub moved : place' ≡ place + length (layout message)
  pub lines : ls' ≡ ls ++ (line h message w.at ∷ [])
  pub values : w' ≡ after_all h message w

-- the bytes up to a place were run one message at a time
pub record Progress {V : Type 0} (h : Fixed V) (bytes : List ℕ) (place : ℕ) (ls : List (Line V)) (before after : Values V) : Type 0 where
  -- the bytes begin with the messages of the lines, and the place is right behind them
  pub laid : bytes ≡ stream (messages ls) ++ drop place bytes
  pub moved : place ≡ length (stream (messages ls))
  -- each line is what the one-at-a-time run does at its message
  pub lines : ls ≡ journal h (messages ls) before.at
  -- every address has the value that the run leaves there
  pub values : after.at ≡ run h (messages ls) before.at
  -- and so with what is held aside
  pub all_values : after ≡ run_all h (messages ls) before

-- a stream was run one message at a time, up to where the next message is refused, or there is none, or no memory
pub record RanStream {V : Type 0} (h : Fixed V) (bytes : List ℕ) (j : Journal V) (before after : Values V) : Type 0 where
  pub progress : Progress h bytes j.place (lines_of (vec_items j.entries)) before after
  pub ended : Ended h bytes j.place j.end
