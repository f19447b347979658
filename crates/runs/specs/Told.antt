-- What the calls and the answers of the code are on the roll, and what each call of a list answers. Assumes nothing.
--
--   call_of, calls_of    the calls of the roll that calls of the code make
--   answer_of, told      what an answer of the code says, in the words of the roll
--   answer_to            what the outcome of a call answers
--   answers_to           what each call of a list answers, in turn
use Rattle.std.specs.Prelude.{List, [], ◌∷◌, map, Ok, Err, Result}
use Rattle.fault.specs.declared.ManagerFault.{ManagerFault}
use Rattle.roll.specs.Calls as roll
use Rattle.roll.specs.Calls.{Setting, State, submit, take, step, finish, seated, taken, brought_access, put_access, woke, Outcome, refused, succeeded, perform}
use Rattle.roll.specs.Built.{left_by}
use Rattle.runs.specs.declared.calls.Call.{Call}
use Rattle.runs.specs.declared.calls.Call.TheVariants.{Submit, Take, Step, Finish}
use Rattle.runs.specs.declared.calls.Answer.{Answer}
use Rattle.runs.specs.declared.calls.Answer.TheVariants.{Seated, Taken, Brought, Put, Woke}

-- the call of the roll that a call of the code makes, and the calls of a list
abbrev pub call_of : Call → roll.Call
call_of (Submit name kind accesses) = submit name kind accesses.now
call_of Take = take
call_of (Step seat) = step seat
call_of (Finish seat) = finish seat

abbrev pub calls_of : List Call → List roll.Call
calls_of cs = map call_of cs

-- what an answer says
abbrev pub answer_of : Answer → roll.Answer
answer_of (Seated seat) = seated seat
answer_of (Taken seat kind name) = taken seat kind name
answer_of (Brought access) = brought_access access
answer_of (Put access) = put_access access
answer_of (Woke count) = woke count

-- what the code tells of a call: the answer, or the refusal as it is; and of a list of calls
abbrev pub told : Result Answer ManagerFault → Result roll.Answer ManagerFault
told (Ok a) = Ok (answer_of a)
told (Err fault) = Err fault

abbrev pub all_told : List (Result Answer ManagerFault) → List (Result roll.Answer ManagerFault)
all_told rs = map told rs

-- what the outcome of a call answers
abbrev pub answer_to : {V : Type 0} → Outcome V → Result roll.Answer ManagerFault
answer_to (refused fault) = Err fault
answer_to (succeeded r) = Ok r.answer

-- what each call of a list answers, in turn
abbrev pub answers_to : {V : Type 0} → Setting V → State V → List roll.Call → List (Result roll.Answer ManagerFault)
answers_to m b [] = []
answers_to m b (c ∷ cs) = answer_to (perform m b c) ∷ answers_to m (left_by b (perform m b c)) cs
