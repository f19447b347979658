-- What has happened since a manager was made: the state, and beside it the one-at-a-time run and what each task has read and done.
-- Assumes nothing.
--
--   fed          the one-at-a-time run, fed with a call and whether it was accepted
--   History      the calls so far, as far as the law speaks of them
--   after        the history after a list of calls
--   owed         how many calls the unfinished tasks owe
use Rattle.std.specs.Prelude.{ℕ, suc, ◌+◌, ◌-◌, Bool, true, false, List, [], ◌∷◌, ◌++◌, length}
use Rattle.task.specs.declared.Access.{Access}
use Rattle.task.specs.Access.{readers, writers}
use Rattle.host.specs.Meaning.{Fixed, Values, update}
use Rattle.one_at_a_time.specs.Alone.{values_read, alone}
use Rattle.order.specs.Steps.{Job}
use Rattle.roll.specs.Roll.{Roll}
use Rattle.roll.specs.Calls.{Setting, State, Call, submit, take, step, finish, Answer, seated, taken, brought_access, put_access, woke, Outcome, refused, succeeded, perform, made}

-- the one-at-a-time run: at an accepted submission the task runs alone, and every other call changes nothing
abbrev pub fed : {V : Type 0} → Fixed V → Call → Bool → (ℕ → V) → ℕ → V
fed h (submit name kind xs) true at = alone h kind xs at
fed h (submit name kind xs) false at = at
fed h take ok at = at
fed h (step s) ok at = at
fed h (finish s) ok at = at

-- was the call accepted?
abbrev pub succeeds : {V : Type 0} → Outcome V → Bool
succeeds (refused fault) = false
succeeds (succeeded r) = true

-- the state; the values of the one-at-a-time run; and for each seat, of the task that a submission last gave it to: the list that it
-- reads in that run, the values that it has read so far, and how many takes and steps of its own have succeeded
pub record History (V : Type 0) : Type 0 where
  pub state : State V
  pub serial : ℕ → V
  pub reads : ℕ → List V
  pub got : ℕ → List V
  pub spent : ℕ → ℕ

-- after a bring, what now stands in the next of the seat's positions has been read
abbrev pub read_more : {V : Type 0} → Answer → List V → (ℕ → V) → List V
read_more (seated s) vs aside = vs
read_more (taken s kind name) vs aside = vs
read_more (brought_access number) vs aside = vs ++ (aside (length vs) ∷ [])
read_more (put_access number) vs aside = vs
read_more (woke n) vs aside = vs

-- a call and its outcome are noted
abbrev pub noted : {V : Type 0} → Setting V → History V → Call → Outcome V → History V
noted m h c (refused fault) = h
noted m h (submit name kind xs) (succeeded r) = record {
  state = r.state;
  serial = fed m.host (submit name kind xs) true h.serial;
  reads = update h.reads r.seat (values_read h.serial xs);
  got = update h.got r.seat [];
  spent = update h.spent r.seat 0;
}
noted m h take (succeeded r) =
    record { state = r.state; serial = h.serial; reads = h.reads; got = h.got; spent = update h.spent r.seat (suc (h.spent r.seat)) }
noted m h (step s) (succeeded r) = record {
  state = r.state;
  serial = h.serial;
  reads = h.reads;
  got = update h.got s (read_more r.answer (h.got s) (r.state.values.aside s));
  spent = update h.spent s (suc (h.spent s));
}
noted m h (finish s) (succeeded r) = record { state = r.state; serial = h.serial; reads = h.reads; got = h.got; spent = h.spent }

-- the history after one more call, and after a list of calls
abbrev pub next : {V : Type 0} → Setting V → History V → Call → History V
next m h c = noted m h c (perform m h.state c)

abbrev pub after : {V : Type 0} → Setting V → History V → List Call → History V
after m h [] = h
after m h (c ∷ cs) = after m (next m h c) cs

-- the history of a manager that was just made
abbrev pub beginning : {V : Type 0} → Setting V → Values V → History V
beginning m w = record { state = made m w; serial = w.at; reads = λ s. []; got = λ s. []; spent = λ s. 0 }

-- 1 for a take, a step or a finish that succeeds; 1 for a submission that is accepted
abbrev pub works : {V : Type 0} → Call → Outcome V → ℕ
works c (refused fault) = 0
works (submit name kind xs) (succeeded r) = 0
works take (succeeded r) = 1
works (step s) (succeeded r) = 1
works (finish s) (succeeded r) = 1

abbrev pub enters : {V : Type 0} → Call → Outcome V → ℕ
enters c (refused fault) = 0
enters (submit name kind xs) (succeeded r) = 1
enters take (succeeded r) = 0
enters (step s) (succeeded r) = 0
enters (finish s) (succeeded r) = 0

-- how many there are of each in a list of calls
abbrev pub worked : {V : Type 0} → Setting V → History V → List Call → ℕ
worked m h [] = 0
worked m h (c ∷ cs) = works c (perform m h.state c) + worked m (next m h c) cs

abbrev pub entered : {V : Type 0} → Setting V → History V → List Call → ℕ
entered m h [] = 0
entered m h (c ∷ cs) = enters c (perform m h.state c) + entered m (next m h c) cs

-- what a task owes from its acceptance on: a call for each reading and each writing access, a take and a finish
abbrev pub whole : List Access → ℕ
whole xs = length (readers xs) + length (writers xs) + 2

-- what the unfinished tasks owe: the whole, less their own takes and steps that have succeeded
abbrev pub owes : (ℕ → ℕ) → Job → ℕ
owes spent j = whole j.accesses - spent j.seat

abbrev pub owed : (ℕ → ℕ) → Roll → ℕ
owed spent [] = 0
owed spent (e ∷ es) = owes spent e.job + owed spent es
