-- Small runs of the calls, settled by computing the definitions. Assumes nothing.
use Rattle.std.specs.Prelude.{◌≡◌, ℕ, ◌*◌, List, [], ◌∷◌, map, Ok, Err, Result, slice_index}
use Rattle.fault.specs.declared.TableFault.TheVariants.{NeverFits, TooFewVersions, SetFull}
use Rattle.fault.specs.declared.ManagerFault.{ManagerFault}
use Rattle.fault.specs.declared.ManagerFault.TheVariants.{TooManyAccesses, RepeatedAddress, NotHeld, Table, NoStepLeft, StepsLeft, LineEmpty}
use Rattle.fault.specs.Numbers.{manager_number, manager_place}
use Rattle.task.specs.declared.Access.{Access}
use Rattle.task.specs.declared.Direction.TheVariants.{In, Out, InOut}
use Rattle.stamp_host.specs.Stamps.{fixed_for, all_zero}
use Rattle.layout.specs.Layout.{Contents, submits}
use Rattle.one_at_a_time.specs.Journal.{stream}
use Rattle.roll.specs.Calls.{Setting, setting, State, Call, submit, take, step, finish, Answer, seated, taken, brought_access, put_access, woke, Outcome, refused, succeeded, perform, made, numbers}
use Rattle.roll.specs.Built.{left_by, state_after}
use Rattle.roll.specs.Rehearsal.{sub, ran, end, rehearsed}

-- an access that reads an address, that writes it, that does both
abbrev pub input : ℕ → Access
input a = record { address = a; direction = In }

abbrev pub output : ℕ → Access
output a = record { address = a; direction = Out }

abbrev pub both : ℕ → Access
both a = record { address = a; direction = InOut }

-- a submission of kind 0 without a name
abbrev pub task : List Access → Call
task xs = submit 0 0 xs

-- what a call answers, and what each of a list of calls answers in turn
abbrev pub answered : {V : Type 0} → Outcome V → Result Answer ManagerFault
answered (refused fault) = Err fault
answered (succeeded r) = Ok r.answer

abbrev pub answers : {V : Type 0} → Setting V → State V → List Call → List (Result Answer ManagerFault)
answers m b [] = []
answers m b (c ∷ cs) = answered (perform m b c) ∷ answers m (left_by b (perform m b c)) cs

-- over so many zero stamps, with so many seats and versions
abbrev pub over : ℕ → ℕ → ℕ → Setting ℕ
over stamps seats versions = setting (fixed_for stamps) seats versions

abbrev pub run : Setting ℕ → List Call → List (Result Answer ManagerFault)
run m cs = answers m (made m all_zero) cs

-- the setting of most cases: 64 stamps, 256 seats, 512 versions
abbrev pub usual : Setting ℕ
usual = over 64 256 512

-- reading accesses to the first n addresses
abbrev pub first_addresses : ℕ → List Access
first_addresses n = map input (numbers 0 n)

-- 15 accesses are accepted on this seat, and 16 are refused by this number, at place 0
abbrev pub FifteenAndSixteen : ℕ → ℕ → Type 0
FifteenAndSixteen seat number =
    (run usual (task (first_addresses 15) ∷ task (first_addresses 16) ∷ []) ≡ Ok (seated seat) ∷ Err TooManyAccesses ∷ [])
    × (manager_number TooManyAccesses ≡ number) × (manager_place TooManyAccesses ≡ 0)

-- out 5, in 5, in 5, inout 5: finishing the first wakes so many, and the fourth waits for both readers
abbrev pub ReadersWake : ℕ → Type 0
ReadersWake count =
    run usual
    (task (output 5 ∷ []) ∷ task (input 5 ∷ []) ∷ task (input 5 ∷ []) ∷ task (both 5 ∷ []) ∷ take ∷ step 0 ∷ finish 0 ∷ take ∷ take ∷ take ∷ step 1 ∷ finish 1
    ∷ take ∷ step 2 ∷ finish 2 ∷ take ∷ [])
    ≡ Ok (seated 0) ∷ Ok (seated 1) ∷ Ok (seated 2) ∷ Ok (seated 3) ∷ Ok (taken 0 0 0) ∷ Ok (put_access 0) ∷ Ok (woke count) ∷ Ok (taken 1 0 0) ∷ Ok (taken 2 0 0)
    ∷ Err LineEmpty ∷ Ok (brought_access 0) ∷ Ok (woke 0) ∷ Err LineEmpty ∷ Ok (brought_access 0) ∷ Ok (woke 1) ∷ Ok (taken 3 0 0) ∷ []

-- in, out, in: the third waits for the second
abbrev pub ThirdWaits : ℕ → Type 0
ThirdWaits seat =
    run usual (task (input 5 ∷ []) ∷ task (output 5 ∷ []) ∷ task (input 5 ∷ []) ∷ take ∷ take ∷ step 0 ∷ finish 0 ∷ take ∷ take ∷ [])
    ≡ Ok (seated 0) ∷ Ok (seated 1) ∷ Ok (seated 2) ∷ Ok (taken 0 0 0) ∷ Err LineEmpty ∷ Ok (brought_access 0) ∷ Ok (woke 1) ∷ Ok (taken seat 0 0) ∷ Err LineEmpty ∷ []

-- with 64 stamps this address is held, and the next is not
abbrev pub LastHeld : ℕ → Type 0
LastHeld a = run usual (task (output a ∷ []) ∷ task (input 0 ∷ output 64 ∷ []) ∷ []) ≡ Ok (seated 0) ∷ Err (NotHeld 1) ∷ []

-- an address twice in one task is refused at the later access
abbrev pub TwiceRefused : ℕ → Type 0
TwiceRefused access = run usual (task (input 5 ∷ output 5 ∷ []) ∷ []) ≡ Err (RepeatedAddress access) ∷ []

-- the multiples of 64, n of them from 0 on, which all belong to set 0
abbrev pub of_set_0 : ℕ → List Access
of_set_0 n = map (λ i. output (64 * i)) (numbers 0 n)

-- with 1,024 stamps eight addresses of a set pass in one task, and nine never fit
abbrev pub NineNeverFit : ℕ → Type 0
NineNeverFit number =
    (run (over 1024 256 512) (task (of_set_0 8) ∷ task (of_set_0 9) ∷ []) ≡ Ok (seated 0) ∷ Err (Table NeverFits) ∷ [])
    × (manager_number (Table NeverFits) ≡ number)

-- with those eight live, a task on 512 stalls at this set, and a task on 0 passes
abbrev pub NinthStalls : ℕ → Type 0
NinthStalls set =
    run (over 1024 256 512) (task (of_set_0 8) ∷ task (input 512 ∷ []) ∷ task (input 0 ∷ []) ∷ []) ≡ Ok (seated 0) ∷ Err (Table (SetFull set)) ∷ Ok (seated 1) ∷ []

-- three seats and two versions: the third writer misses so many, and passes after a finish
abbrev pub ThirdWriterStalls : ℕ → Type 0
ThirdWriterStalls missing =
    run (over 64 3 2) (task (output 1 ∷ []) ∷ task (output 2 ∷ []) ∷ task (output 3 ∷ []) ∷ take ∷ step 0 ∷ finish 0 ∷ task (output 3 ∷ []) ∷ [])
    ≡ Ok (seated 0) ∷ Ok (seated 1) ∷ Err (Table (TooFewVersions missing)) ∷ Ok (taken 0 0 0) ∷ Ok (put_access 0) ∷ Ok (woke 0) ∷ Ok (seated 2) ∷ []

-- one version: it is in use while a reader of what was written remains, also when the writer has ended; a writer of another address then
-- misses so many
abbrev pub VersionStays : ℕ → Type 0
VersionStays missing =
    run (over 64 3 1)
    (task (output 5 ∷ []) ∷ task (input 5 ∷ []) ∷ take ∷ step 0 ∷ finish 0 ∷ task (output 6 ∷ []) ∷ take ∷ step 1 ∷ finish 1 ∷ task (output 6 ∷ []) ∷ [])
    ≡ Ok (seated 0) ∷ Ok (seated 1) ∷ Ok (taken 0 0 0) ∷ Ok (put_access 0) ∷ Ok (woke 1) ∷ Err (Table (TooFewVersions missing)) ∷ Ok (taken 1 0 0)
    ∷ Ok (brought_access 0) ∷ Ok (woke 0) ∷ Ok (seated 2) ∷ []

-- without a seat no task fits; without a version only a task without accesses does, on this seat
abbrev pub EmptyTables : ℕ → Type 0
EmptyTables seat =
    (run (over 64 0 512) (task [] ∷ []) ≡ Err (Table NeverFits) ∷ [])
    × (run (over 64 3 0) (task (input 5 ∷ []) ∷ task [] ∷ []) ≡ Err (Table NeverFits) ∷ Ok (seated seat) ∷ [])

-- one version place: inout 5 passes
abbrev pub OneVersion : ℕ → Type 0
OneVersion seat = run (over 64 3 1) (task (both 5 ∷ []) ∷ []) ≡ Ok (seated seat) ∷ []

-- inout 5: a bring, a put, then no step is left; and a finish after the bring is refused
abbrev pub BringThenPut : ℕ → Type 0
BringThenPut number =
    (run usual (task (both 5 ∷ []) ∷ take ∷ step 0 ∷ finish 0 ∷ step 0 ∷ step 0 ∷ finish 0 ∷ [])
    ≡ Ok (seated 0) ∷ Ok (taken 0 0 0) ∷ Ok (brought_access 0) ∷ Err (StepsLeft 0) ∷ Ok (put_access 0) ∷ Err (NoStepLeft 0) ∷ Ok (woke 0) ∷ [])
    × (manager_number (NoStepLeft 0) ≡ number)

-- kind 3, out 5; then kind 1 with in 5, out 6: the stamps that are left at 5 and 6
abbrev pub two_tasks : List Call
two_tasks = submit 0 3 (output 5 ∷ []) ∷ submit 0 1 (input 5 ∷ output 6 ∷ []) ∷ take ∷ step 0 ∷ finish 0 ∷ take ∷ step 1 ∷ step 1 ∷ finish 1 ∷ []

abbrev pub StampsLeft : ℕ → ℕ → Type 0
StampsLeft five six =
    ((state_after usual (made usual all_zero) two_tasks).values.at 5 ≡ five) × ((state_after usual (made usual all_zero) two_tasks).values.at 6 ≡ six)
    × ((state_after usual (made usual all_zero) two_tasks).roll ≡ [])

-- kind 1, inout 3, inout 4: each put works on the values held aside, also where the task itself has put the address before; the stamps that are
-- left at 3 and 4
abbrev pub both_of_two : List Call
both_of_two = submit 0 1 (both 3 ∷ both 4 ∷ []) ∷ take ∷ step 0 ∷ step 0 ∷ step 0 ∷ step 0 ∷ finish 0 ∷ []

abbrev pub HeldAside : ℕ → ℕ → Type 0
HeldAside three four =
    ((state_after usual (made usual all_zero) both_of_two).values.at 3 ≡ three) × ((state_after usual (made usual all_zero) both_of_two).values.at 4 ≡ four)
    × ((state_after usual (made usual all_zero) both_of_two).roll ≡ [])

-- two seats: a seat that was given up is given again, behind the one that was free before
abbrev pub SeatAgain : ℕ → ℕ → Type 0
SeatAgain second third =
    run (over 64 2 4) (task [] ∷ take ∷ finish 0 ∷ task [] ∷ task [] ∷ []) ≡ Ok (seated 0) ∷ Ok (taken 0 0 0) ∷ Ok (woke 0) ∷ Ok (seated second) ∷ Ok (seated third) ∷ []

-- three submissions: out 5, in 5, and one without access; the seats in the order in which they run
abbrev pub three_submissions : List Contents
three_submissions = submits 7 0 (output 5 ∷ []) ∷ submits 8 1 (input 5 ∷ []) ∷ submits 9 0 [] ∷ []

abbrev pub Rehearsed : List ℕ → Type 0
Rehearsed seats =
    rehearsed usual (stream three_submissions) 8 0 (made usual all_zero)
    ≡ sub 0 ∷ sub 1 ∷ sub 2 ∷ ran (slice_index seats 0) ∷ ran (slice_index seats 1) ∷ ran (slice_index seats 2) ∷ end ∷ []
