-- The law over runs: on every host, after every list of calls, accepted or refused, in any turn. Assumes nothing.
use Rattle.std.specs.Prelude.{◌≡◌, ℕ, ◌<◌, ◌≤◌, true, ◌↔◌, List, [], ◌∷◌, length}
use Rattle.fault.specs.Numbers.{manager_number}
use Rattle.task.specs.declared.Access.{Access}
use Rattle.host.specs.Meaning.{Fixed, Values}
use Rattle.roll.specs.Roll.{Roll}
use Rattle.order.specs.Order.{nth}
use Rattle.roll.specs.Calls.{Setting, setting, Call, submit, Outcome, refused, succeeded, perform}
use Rattle.roll.specs.History.{History, after, beginning, works, enters, worked, entered, whole, owed}

-- no task is unfinished
abbrev pub Idle : {V : Type 0} → History V → Type 0
Idle h = h.state.roll ≡ []

-- a submission stalls: it is refused by 10, 11 or 12
abbrev pub Stalls : {V : Type 0} → Outcome V → Type 0
Stalls (refused fault) = (10 ≤ manager_number fault) × (manager_number fault ≤ 12)
Stalls (succeeded r) = ⊥

-- each unfinished task owes at least its finish
abbrev pub OwesItsFinish : (ℕ → ℕ) → Roll → Type 0
OwesItsFinish spent [] = Unit {0}
OwesItsFinish spent (e ∷ es) = (spent e.job.seat < whole e.job.accesses) × OwesItsFinish spent es

-- what holds after any list of calls
pub record Holds {V : Type 0} (m : Setting V) (h : History V) : Type 0 where
  -- each value that a task has read is, position for position, the one that it reads in the one-at-a-time run
  pub reads_agree : (s p : ℕ) → p < length (h.got s) → nth (h.got s) p ≡ nth (h.reads s) p
  -- whenever no task is unfinished, every held address has the value that the one-at-a-time run leaves there
  pub values_agree : Idle h → (a : ℕ) → m.host.held a ≡ true → h.state.values.at a ≡ h.serial a
  -- while a task is unfinished, some take, step or finish would succeed next
  pub goes_on : (Idle h → ⊥) → (c : Call) × (works c (perform m h.state c) ≡ 1)
  -- until the next accepted submission, no task is unfinished exactly when as many takes, steps and finishes have succeeded since as
  -- were owed
  pub owed_exactly : (cs : List Call) → entered m h cs ≡ 0 → Idle (after m h cs) ↔ (worked m h cs ≡ owed h.spent h.state.roll)
  -- what is owed never goes below what is left: each unfinished task owes at least its finish
  pub owes_its_finish : OwesItsFinish h.spent h.state.roll
  -- whenever no task is unfinished, a submission that stalled earlier is accepted if it is offered next
  pub stalled_is_accepted : (name kind : ℕ) (xs : List Access) → Stalls (perform m h.state (submit name kind xs)) →
      (cs : List Call) → Idle (after m h cs) → enters (submit name kind xs) (perform m (after m h cs).state (submit name kind xs)) ≡ 1

-- the law for a host with these values when the manager is made: with every number of seats and of versions, and every list of calls
abbrev pub LawOf : {V : Type 0} → Fixed V → Values V → Type 0
LawOf host w =
    (seats versions : ℕ) (cs : List Call) → Holds (setting host seats versions) (after (setting host seats versions) (beginning (setting host seats versions) w) cs)

-- the law for every host meaning with values of this kind
abbrev pub Law : Type 0 → Type 0
Law V = (host : Fixed V) (w : Values V) → LawOf host w
