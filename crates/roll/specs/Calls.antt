-- The state of a manager with its host, and what each call does to it. Assumes nothing.
--
--   Setting    what never changes: the tables and what is fixed of the host
--   State      what changes: the roll, the ready line, the free line, and the host's values
--   Call       submit, take, step, finish
--   perform    the outcome of a call: a refusal, which leaves the state, or a new state with an answer
use Rattle.std.specs.Prelude.{ℕ, zero, suc, Bool, cond, List, [], ◌∷◌, ◌++◌, length, Some, None, Option}
use Rattle.fault.specs.declared.TableFault.TheVariants.{NoFreeSeat}
use Rattle.fault.specs.declared.ManagerFault.{ManagerFault}
use Rattle.fault.specs.declared.ManagerFault.TheVariants.{Table, NotRunning, NoStepLeft, StepsLeft, LineEmpty}
use Rattle.task.specs.declared.Access.{Access}
use Rattle.host.specs.Meaning.{Fixed, Values}
use Rattle.order.specs.Steps.{Step, bring, put, steps, Job, done}
use Rattle.roll.specs.Roll.{Standing, waiting, ready, running, Entry, Roll, blocked, find, change, without, wake, woken}
use Rattle.roll.specs.Tables.{Tables, tables, submit_fault}

pub record Setting (V : Type 0) : Type 0 where
  pub tables : Tables
  pub host : Fixed V

-- seats in both lines stand first in, first out
pub record State (V : Type 0) : Type 0 where
  pub roll : Roll
  pub ready_line : List ℕ
  pub free_line : List ℕ
  pub values : Values V

-- a submission by its name, kind and accesses; a take; a step and a finish of a seat
pub data Call : Type 0 where
  submit : ℕ → ℕ → List Access → Call
  take : Call
  step : ℕ → Call
  finish : ℕ → Call

-- what a call answers: a seat; a seat with its kind and name; the access that was brought or put; how many tasks became ready
pub data Answer : Type 0 where
  seated : ℕ → Answer
  taken : ℕ → ℕ → ℕ → Answer
  brought_access : ℕ → Answer
  put_access : ℕ → Answer
  woke : ℕ → Answer

-- a call that succeeds: the state that it leaves, its answer, and the seat that it is about
pub record Success (V : Type 0) : Type 0 where
  pub state : State V
  pub answer : Answer
  pub seat : ℕ

pub data Outcome (V : Type 0) : Type 0 where
  refused : ManagerFault → Outcome V
  succeeded : Success V → Outcome V

-- which free seat a submission gets, and the others; the free seats after one is given back
abbrev pub give_seat : List ℕ → Option (ℕ × List ℕ)
give_seat [] = None
give_seat (s ∷ free) = Some (s, free)

abbrev pub give_back : List ℕ → ℕ → List ℕ
give_back free s = free ++ (s ∷ [])

-- submit: the task gets a seat and joins the end of the roll; it is ready if no earlier task conflicts
abbrev pub accepted : {V : Type 0} → State V → ℕ → ℕ → List Access → ℕ → List ℕ → Success V
accepted b name kind xs s free =
    let stop : Bool = blocked b.roll xs in
    record {
      state = record {
        roll = b.roll ++ (record { name = name; job = record { seat = s; kind = kind; accesses = xs }; standing = cond stop waiting ready } ∷ []);
        ready_line = cond stop b.ready_line (b.ready_line ++ (s ∷ []));
        free_line = free;
        values = b.values;
      };
      answer = seated s;
      seat = s;
    }

abbrev pub submitted : {V : Type 0} → State V → ℕ → ℕ → List Access → Option ManagerFault → Option (ℕ × List ℕ) → Outcome V
submitted b name kind xs (Some fault) given = refused fault
submitted b name kind xs None None = refused (Table NoFreeSeat)
submitted b name kind xs None (Some p) = succeeded (accepted b name kind xs p.0 p.1)

-- take: the first of the ready line begins to run
abbrev pub begun : {V : Type 0} → State V → ℕ → List ℕ → Entry → Standing → Outcome V
begun b s line e waiting = refused LineEmpty
begun b s line e ready = succeeded (record {
  state = record { roll = change s (running (steps e.job.accesses)) b.roll; ready_line = line; free_line = b.free_line; values = b.values };
  answer = taken s e.job.kind e.name;
  seat = s;
})
begun b s line e (running ss) = refused LineEmpty

abbrev pub begun_at : {V : Type 0} → State V → ℕ → List ℕ → Option Entry → Outcome V
begun_at b s line None = refused LineEmpty
begun_at b s line (Some e) = begun b s line e e.standing

abbrev pub took : {V : Type 0} → State V → List ℕ → Outcome V
took b [] = refused LineEmpty
took b (s ∷ line) = begun_at b s line (find s b.roll)

-- step: the next step of a running seat
abbrev pub said : Step → Answer
said (bring x p) = brought_access x.number
said (put x) = put_access x.number

abbrev pub stepped : {V : Type 0} → Fixed V → State V → ℕ → Job → Standing → Outcome V
stepped h b s j waiting = refused (NotRunning s)
stepped h b s j ready = refused (NotRunning s)
stepped h b s j (running []) = refused (NoStepLeft s)
stepped h b s j (running (σ ∷ ss)) = succeeded (record {
  state = record { roll = change s (running ss) b.roll; ready_line = b.ready_line; free_line = b.free_line; values = done h j σ b.values };
  answer = said σ;
  seat = s;
})

abbrev pub stepped_at : {V : Type 0} → Fixed V → State V → ℕ → Option Entry → Outcome V
stepped_at h b s None = refused (NotRunning s)
stepped_at h b s (Some e) = stepped h b s e.job e.standing

-- finish, first part: the task leaves the roll and its seat is free
abbrev pub left : {V : Type 0} → State V → ℕ → State V
left b s = record { roll = without s b.roll; ready_line = b.ready_line; free_line = give_back b.free_line s; values = b.values }

-- finish, second part: the waiting tasks that conflict with no earlier one any more become ready
abbrev pub awake : {V : Type 0} → State V → State V
awake b = record { roll = wake [] b.roll; ready_line = b.ready_line ++ woken [] b.roll; free_line = b.free_line; values = b.values }

abbrev pub finished : {V : Type 0} → State V → ℕ → Standing → Outcome V
finished b s waiting = refused (NotRunning s)
finished b s ready = refused (NotRunning s)
finished b s (running (σ ∷ ss)) = refused (StepsLeft s)
finished b s (running []) = succeeded (record { state = awake (left b s); answer = woke (length (woken [] (left b s).roll)); seat = s })

abbrev pub finished_at : {V : Type 0} → State V → ℕ → Option Entry → Outcome V
finished_at b s None = refused (NotRunning s)
finished_at b s (Some e) = finished b s e.standing

-- the outcome of a call
abbrev pub perform : {V : Type 0} → Setting V → State V → Call → Outcome V
perform m b (submit name kind xs) = submitted b name kind xs (submit_fault m.tables m.host.held b.roll b.free_line xs) (give_seat b.free_line)
perform m b take = took b b.ready_line
perform m b (step s) = stepped_at m.host b s (find s b.roll)
perform m b (finish s) = finished_at b s (find s b.roll)

-- the numbers from i on, n of them
abbrev pub numbers : ℕ → ℕ → List ℕ
numbers i zero = []
numbers i (suc n) = i ∷ numbers (suc i) n

-- a manager as it is made, over a host with these values: no task, every seat free in order
abbrev pub made : {V : Type 0} → Setting V → Values V → State V
made m w = record { roll = []; ready_line = []; free_line = numbers 0 m.tables.seats; values = w }

-- the setting for a host, with these numbers of seats and versions
abbrev pub setting : {V : Type 0} → Fixed V → ℕ → ℕ → Setting V
setting h seats versions = record { tables = tables seats versions; host = h }
