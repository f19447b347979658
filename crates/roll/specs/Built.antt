-- Calls built of calls: turn, dispatch, settle and feed. Each is the list of calls that it makes, which depends on what they answer, its
-- own answer, and what it does to a line or to a reader's place. Assumes nothing.
--
--   state_after                                   the state after a list of calls
--   turn_calls, turn_answer                       one ready task from take to finish
--   dispatch_calls, dispatch_answer, dispatched   a ready task's seat goes into the work line
--   settle_calls, settle_answer, settled          the first notice of the notice line is removed, and its seat finished
--   feed_calls, feed_answer, fed_place            one message is read, and makes its submit or its finish
use Rattle.std.specs.Prelude.{ℕ, zero, suc, ◌+◌, Bool, cond, List, [], ◌∷◌, ◌++◌, length, drop, Some, None, Ok, Err, Option, Result}
use Rattle.fault.specs.declared.ManagerFault.{ManagerFault}
use Rattle.fault.specs.declared.ManagerFault.TheVariants.{LineEmpty, LineFull}
use Rattle.fault.specs.declared.Cause.{Cause}
use Rattle.fault.specs.declared.Cause.TheVariants.{Stream, Manager}
use Rattle.layout.specs.Layout.{Contents, submits, finishes, layout}
use Rattle.layout.specs.Reading.{Read, read}
use Rattle.roll.specs.Roll.{Standing, waiting, ready, running, Entry, find}
use Rattle.roll.specs.Calls.{Setting, State, Call, submit, take, step, finish, Answer, seated, taken, brought_access, put_access, woke, Outcome, refused, succeeded, perform}

-- the state after a call, which a refusal leaves as it was, and after a list of calls
abbrev pub left_by : {V : Type 0} → State V → Outcome V → State V
left_by b (refused fault) = b
left_by b (succeeded r) = r.state

abbrev pub state_after : {V : Type 0} → Setting V → State V → List Call → State V
state_after m b [] = b
state_after m b (c ∷ cs) = state_after m (left_by b (perform m b c)) cs

-- a call n times
abbrev pub times : ℕ → Call → List Call
times zero c = []
times (suc n) c = c ∷ times n c

-- how many steps are left to a seat
abbrev pub steps_of : Standing → ℕ
steps_of waiting = 0
steps_of ready = 0
steps_of (running ss) = length ss

abbrev pub steps_at : Option Entry → ℕ
steps_at None = 0
steps_at (Some e) = steps_of e.standing

-- turn: a take; if it is not refused, all steps of the task and its finish
abbrev pub turn_after : {V : Type 0} → Outcome V → List Call
turn_after (refused fault) = []
turn_after (succeeded r) = times (steps_at (find r.seat r.state.roll)) (step r.seat) ++ (finish r.seat ∷ [])

abbrev pub turn_calls : {V : Type 0} → Setting V → State V → List Call
turn_calls m b = take ∷ turn_after (perform m b take)

-- what a finish says: how many tasks became ready, or its refusal
abbrev pub count_of : Answer → ℕ
count_of (seated s) = 0
count_of (taken s kind name) = 0
count_of (brought_access n) = 0
count_of (put_access n) = 0
count_of (woke n) = n

abbrev pub finish_answer : {V : Type 0} → Outcome V → Result ℕ ManagerFault
finish_answer (refused fault) = Err fault
finish_answer (succeeded r) = Ok (count_of r.answer)

-- turn answers the seat and the finish's count, or the first refusal
abbrev pub with_seat : ℕ → Result ℕ ManagerFault → Result (ℕ × ℕ) ManagerFault
with_seat s (Ok n) = Ok (s, n)
with_seat s (Err fault) = Err fault

abbrev pub turn_from : {V : Type 0} → Setting V → Outcome V → Result (ℕ × ℕ) ManagerFault
turn_from m (refused fault) = Err fault
turn_from m (succeeded r) =
    with_seat r.seat (finish_answer (perform m (state_after m r.state (times (steps_at (find r.seat r.state.roll)) (step r.seat))) (finish r.seat)))

abbrev pub turn_answer : {V : Type 0} → Setting V → State V → Result (ℕ × ℕ) ManagerFault
turn_answer m b = turn_from m (perform m b take)

-- what a take answers: the seat, the kind and the name
abbrev pub triple_of : ℕ → Answer → ℕ × ℕ × ℕ
triple_of s (seated n) = (s, 0, 0)
triple_of s (taken seat kind name) = (seat, kind, name)
triple_of s (brought_access n) = (s, 0, 0)
triple_of s (put_access n) = (s, 0, 0)
triple_of s (woke n) = (s, 0, 0)

abbrev pub take_answer : {V : Type 0} → Outcome V → Result (ℕ × ℕ × ℕ) ManagerFault
take_answer (refused fault) = Err fault
take_answer (succeeded r) = Ok (triple_of r.seat r.answer)

-- dispatch: where the work line is full nothing is taken
abbrev pub dispatch_calls : Bool → List Call
dispatch_calls full = cond full [] (take ∷ [])

abbrev pub dispatch_answer : {V : Type 0} → Bool → Setting V → State V → Result (ℕ × ℕ × ℕ) ManagerFault
dispatch_answer full m b = cond full (Err LineFull) (take_answer (perform m b take))

-- the work line after it
abbrev pub dispatched : List ℕ → Result (ℕ × ℕ × ℕ) ManagerFault → List ℕ
dispatched line (Ok t) = line ++ (t.0 ∷ [])
dispatched line (Err fault) = line

-- a notice: a seat and a worker
pub record Notice : Type 0 where
  pub seat : ℕ
  pub worker : ℕ

-- settle: the first notice is removed, and its seat is finished; where there is none nothing is called
abbrev pub settle_calls : List Notice → List Call
settle_calls [] = []
settle_calls (n ∷ rest) = finish n.seat ∷ []

abbrev pub settle_answer : {V : Type 0} → List Notice → Setting V → State V → Result (Notice × Result ℕ ManagerFault) ManagerFault
settle_answer [] m b = Err LineEmpty
settle_answer (n ∷ rest) m b = Ok (n, finish_answer (perform m b (finish n.seat)))

-- the notice line after it: the notice is gone also where its finish is refused
abbrev pub settled : List Notice → List Notice
settled [] = []
settled (n ∷ rest) = rest

-- what a message asks for
abbrev pub asked : Contents → Call
asked (submits name kind xs) = submit name kind xs
asked (finishes seat) = finish seat

-- feed: one message is read, and makes its call
abbrev pub feed_calls : Read Contents → List Call
feed_calls (Ok p) = asked p.0 ∷ []
feed_calls (Err fault) = []

-- feed answers which of the two it was, with that call's answer
pub data Fed : Type 0 where
  submitted_to : ℕ → Fed
  finished_with : ℕ → Fed

-- or why not, beside the place of the message's first byte
pub record FeedFailure : Type 0 where
  pub place : ℕ
  pub cause : Cause

abbrev pub fed_by : Contents → ℕ → Answer → Fed
fed_by (submits name kind xs) seat answer = submitted_to seat
fed_by (finishes s) seat answer = finished_with (count_of answer)

abbrev pub fed_from : {V : Type 0} → ℕ → Contents → Outcome V → Result Fed FeedFailure
fed_from place c (refused fault) = Err (record { place = place; cause = Manager fault })
fed_from place c (succeeded r) = Ok (fed_by c r.seat r.answer)

abbrev pub feed_from : {V : Type 0} → Setting V → State V → ℕ → Read Contents → Result Fed FeedFailure
feed_from m b place (Ok p) = fed_from place p.0 (perform m b (asked p.0))
feed_from m b place (Err fault) = Err (record { place = place; cause = Stream fault })

abbrev pub feed_answer : {V : Type 0} → Setting V → State V → List ℕ → ℕ → Result Fed FeedFailure
feed_answer m b bytes place = feed_from m b place (read place (drop place bytes))

-- the reader's place after it: right behind the message that was accepted, and else where it was
abbrev pub moved_past : {V : Type 0} → ℕ → Contents → Outcome V → ℕ
moved_past place c (refused fault) = place
moved_past place c (succeeded r) = place + length (layout c)

abbrev pub place_from : {V : Type 0} → Setting V → State V → ℕ → Read Contents → ℕ
place_from m b place (Ok p) = moved_past place p.0 (perform m b (asked p.0))
place_from m b place (Err fault) = place

abbrev pub fed_place : {V : Type 0} → Setting V → State V → List ℕ → ℕ → ℕ
fed_place m b bytes place = place_from m b place (read place (drop place bytes))
