-- What the manager's calls answer, by the outcome of the call; and the state of a manager without regard to a host. Assumes nothing.
use Rattle.std.specs.Prelude.{ℕ, true, Ok, Err, Result}
use Rattle.fault.specs.declared.ManagerFault.{ManagerFault}
use Rattle.host.specs.Meaning.{Fixed, Values}
use Rattle.roll.specs.Calls.{Setting, State, Answer, seated, taken, brought_access, put_access, woke, Outcome, refused, succeeded}
use Rattle.manager.specs.declared.manager.Manager.{Manager}
use Rattle.manager.specs.Model.{state_of, setting_of}

-- submit answers the seat
abbrev pub submit_answer : {V : Type 0} → Outcome V → Result ℕ ManagerFault
submit_answer (refused fault) = Err fault
submit_answer (succeeded r) = Ok r.seat

-- step answers the access number and which of the two it was: 0 for a bring, 1 for a put
abbrev pub step_pair : ℕ → Answer → ℕ × ℕ
step_pair s (seated n) = (s, 0)
step_pair s (taken seat kind name) = (s, 0)
step_pair s (brought_access n) = (n, 0)
step_pair s (put_access n) = (n, 1)
step_pair s (woke n) = (s, 0)

abbrev pub step_answer : {V : Type 0} → Outcome V → Result (ℕ × ℕ) ManagerFault
step_answer (refused fault) = Err fault
step_answer (succeeded r) = Ok (step_pair r.seat r.answer)

-- a host without values, for the calls that no host is handed to: what they do does not depend on one
abbrev pub no_host : Fixed (Unit {0})
no_host = record { held = λ a. true; rule = λ kind access values. tt }

abbrev pub no_values : Values (Unit {0})
no_values = record { at = λ a. tt; aside = λ s p. tt }

-- the state of a manager and what never changes of it, beside a host
abbrev pub state_with : {V : Type 0} → Manager → Values V → State V
state_with m w = state_of m.inner w

abbrev pub setting_with : {V : Type 0} → Manager → Fixed V → Setting V
setting_with m h = setting_of m.inner h

-- and without regard to a host
abbrev pub state_alone : Manager → State (Unit {0})
state_alone m = state_with m no_values

abbrev pub setting_alone : Manager → Setting (Unit {0})
setting_alone m = setting_with m no_host
