-- The phases of a running task and the standing of a seat: how they move at an event, and which steps are left. Assumes nothing.
--
--   steps_in         the steps that are left to a task in a phase
--   sound_phase      a phase that a task can be in
--   after            the phase after one step
--   moved            the standing after an event, or none where the event is refused
--   next_of          what the next step brings or puts
--   standing_of      the standing on the roll
use Rattle.std.specs.Prelude.{ℕ, suc, Bool, true, false, cond, ◌&&◌, List, [], ◌∷◌, ◌++◌, length, take, drop, Some, None, Option, ◌==◌, slice_index_or}
use Rattle.task.specs.declared.Access.{Access}
use Rattle.task.specs.declared.Direction.TheVariants.{In}
use Rattle.task.specs.Access.{reads, writes, numbered, readers, writers}
use Rattle.order.specs.Steps.{Step, brings, puts}
use Rattle.roll.specs.Roll.{Standing as OnRoll, waiting, ready, running}
use Rattle.seat.specs.declared.Phase.{Phase}
use Rattle.seat.specs.declared.Phase.TheVariants.{Bring, Put, Done}
use Rattle.seat.specs.declared.Standing.{Standing}
use Rattle.seat.specs.declared.Standing.TheVariants.{Free, Waiting, Ready, Running}
use Rattle.seat.specs.declared.Event.{Event}
use Rattle.seat.specs.declared.Event.TheVariants.{Entered, Unblocked, Taken, Stepped, Finished}
use Rattle.seat.specs.declared.NextStep.{NextStep}
use Rattle.seat.specs.declared.NextStep.TheVariants.{Bring as BringNext, Put as PutNext}

-- what stands past the end of a list of accesses
abbrev pub blank : Access
blank = record { address = 0; direction = In }

-- does the list begin with an access that passes the test?
abbrev pub first_passes : (Access → Bool) → List Access → Bool
first_passes p [] = false
first_passes p (x ∷ xs) = p x

-- is there an access with the number i, and does it read? does it write?
abbrev pub reads_at : List Access → ℕ → Bool
reads_at xs i = first_passes reads (drop i xs)

abbrev pub writes_at : List Access → ℕ → Bool
writes_at xs i = first_passes writes (drop i xs)

-- the address of the access with the number i
abbrev pub address_at : List Access → ℕ → ℕ
address_at xs i = (slice_index_or xs i blank).address

-- the steps that are left: from a bring on, the brings of the accesses from there on and all puts; from a put on, the puts from there on
abbrev pub steps_in : List Access → Phase → List Step
steps_in xs (Bring i n) = brings n (numbered reads i (drop i xs)) ++ puts (writers xs)
steps_in xs (Put i n) = puts (numbered writes i (drop i xs))
steps_in xs Done = []

-- a phase that the task can be in: its access reads, or writes, and as many values have been brought as accesses before it read, or as read at all
abbrev pub sound_phase : List Access → Phase → Bool
sound_phase xs (Bring i n) = reads_at xs i && n == length (numbered reads 0 (take i xs))
sound_phase xs (Put i n) = writes_at xs i && n == length (readers xs)
sound_phase xs Done = true

-- a standing that the seat can be in
abbrev pub sound_standing : List Access → Standing → Bool
sound_standing xs Free = true
sound_standing xs Waiting = true
sound_standing xs Ready = true
sound_standing xs (Running p) = sound_phase xs p

-- the number of the first access that passes the test, where the first of the list has the number i
abbrev pub next_from : (Access → Bool) → ℕ → List Access → Option ℕ
next_from p i [] = None
next_from p i (x ∷ xs) = cond (p x) (Some i) (next_from p (suc i) xs)

-- the phase of a put at this access, with n values brought; where no access is left to put, the task is done
abbrev pub put_phase : ℕ → Option ℕ → Phase
put_phase n None = Done
put_phase n (Some i) = Put i n

-- the phase of a bring at this access, with n values brought; where no access is left to bring, the first put comes
abbrev pub bring_phase : List Access → ℕ → Option ℕ → Phase
bring_phase xs n None = put_phase n (next_from writes 0 xs)
bring_phase xs n (Some i) = Bring i n

-- the phase in which a task starts
abbrev pub first_phase : List Access → Phase
first_phase xs = bring_phase xs 0 (next_from reads 0 xs)

-- the phase after the bring at access i with n values brought before it
abbrev pub after_bring : List Access → ℕ → ℕ → Phase
after_bring xs i n = bring_phase xs (suc n) (next_from reads (suc i) (drop (suc i) xs))

-- the phase after the put at access i with n values brought
abbrev pub after_put : List Access → ℕ → ℕ → Phase
after_put xs i n = put_phase n (next_from writes (suc i) (drop (suc i) xs))

-- the phase after one step; none where no step is left
abbrev pub after : List Access → Phase → Option Phase
after xs (Bring i n) = Some (after_bring xs i n)
after xs (Put i n) = Some (after_put xs i n)
after xs Done = None

-- a seat in which a task is put: the task waits where an earlier one blocks it
abbrev pub entered : Bool → Standing
entered true = Waiting
entered false = Ready

-- the standing of a running task in this phase, if there is one
abbrev pub ran : Option Phase → Option Standing
ran None = None
ran (Some p) = Some (Running p)

-- a task with no step left leaves its seat
abbrev pub left : Phase → Option Standing
left (Bring i n) = None
left (Put i n) = None
left Done = Some Free

-- the standing after the event, or none where the event is refused
abbrev pub moved : List Access → Standing → Event → Option Standing
moved xs Free (Entered b) = Some (entered b)
moved xs Free Unblocked = None
moved xs Free Taken = None
moved xs Free Stepped = None
moved xs Free Finished = None
moved xs Waiting (Entered b) = None
moved xs Waiting Unblocked = Some Ready
moved xs Waiting Taken = None
moved xs Waiting Stepped = None
moved xs Waiting Finished = None
moved xs Ready (Entered b) = None
moved xs Ready Unblocked = None
moved xs Ready Taken = Some (Running (first_phase xs))
moved xs Ready Stepped = None
moved xs Ready Finished = None
moved xs (Running p) (Entered b) = None
moved xs (Running p) Unblocked = None
moved xs (Running p) Taken = None
moved xs (Running p) Stepped = ran (after xs p)
moved xs (Running p) Finished = left p

-- what is there, or else this
abbrev pub or_else : {X : Type 0} → Option X → X → X
or_else None y = y
or_else (Some x) y = x

-- is the seat free?
abbrev pub is_free_in : Standing → Bool
is_free_in Free = true
is_free_in Waiting = false
is_free_in Ready = false
is_free_in (Running p) = false

-- what the next step of a running task in this phase does
abbrev pub step_in : List Access → Phase → Option NextStep
step_in xs (Bring i n) = Some (BringNext i (address_at xs i) n)
step_in xs (Put i n) = Some (PutNext i (address_at xs i) n)
step_in xs Done = None

-- the next step of a seat: none unless its task runs and has a step left
abbrev pub next_of : List Access → Standing → Option NextStep
next_of xs Free = None
next_of xs Waiting = None
next_of xs Ready = None
next_of xs (Running p) = step_in xs p

-- the standing on the roll; a free seat is on no roll, and waiting stands for it only so that there is an answer
abbrev pub standing_of : List Access → Standing → OnRoll
standing_of xs Free = waiting
standing_of xs Waiting = waiting
standing_of xs Ready = ready
standing_of xs (Running p) = running (steps_in xs p)
