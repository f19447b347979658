-- The roll: the accepted unfinished tasks in order of acceptance, each with its seat and standing. Assumes nothing.
--
--   Standing, Entry, Roll    what stands on the roll
--   blocked                  an earlier task conflicts
--   find, change, without    one seat's entry
--   wake, woken              the waiting tasks that become ready
use Rattle.std.specs.Prelude.{ℕ, Bool, false, cond, ◌||◌, List, [], ◌∷◌, ◌++◌, Some, None, Option, ◌==◌}
use Rattle.task.specs.declared.Access.{Access}
use Rattle.task.specs.Access.{conflict}
use Rattle.order.specs.Steps.{Step, Job}

-- a task waits for an earlier one, or may start, or runs; a running task has the steps that are left to it, the next one first
pub data Standing : Type 0 where
  waiting : Standing
  ready : Standing
  running : List Step → Standing

-- an accepted unfinished task: its name, its seat, kind and accesses, and its standing
pub record Entry : Type 0 where
  pub name : ℕ
  pub job : Job
  pub standing : Standing

abbrev pub Roll : Type 0
Roll = List Entry

-- does an earlier task conflict with these accesses?
abbrev pub blocked : Roll → List Access → Bool
blocked [] xs = false
blocked (e ∷ es) xs = conflict e.job.accesses xs || blocked es xs

-- is it the entry of this seat?
abbrev pub sits : ℕ → Entry → Bool
sits s e = e.job.seat == s

-- the entry in another standing
abbrev pub stand : Standing → Entry → Entry
stand st e = record { name = e.name; job = e.job; standing = st }

-- the entry of a seat; the roll with that entry in another standing; the roll without it
abbrev pub find : ℕ → Roll → Option Entry
find s [] = None
find s (e ∷ es) = cond (sits s e) (Some e) (find s es)

abbrev pub change : ℕ → Standing → Roll → Roll
change s st [] = []
change s st (e ∷ es) = cond (sits s e) (stand st e ∷ es) (e ∷ change s st es)

abbrev pub without : ℕ → Roll → Roll
without s [] = []
without s (e ∷ es) = cond (sits s e) es (e ∷ without s es)

-- a waiting task becomes ready unless it is blocked
abbrev pub rouse : Bool → Standing → Standing
rouse b waiting = cond b waiting ready
rouse b ready = ready
rouse b (running ss) = running ss

-- every waiting task that conflicts with no earlier one becomes ready; the earlier ones are handed over the latest first
abbrev pub wake : Roll → Roll → Roll
wake earlier [] = []
wake earlier (e ∷ es) = stand (rouse (blocked earlier e.job.accesses) e.standing) e ∷ wake (e ∷ earlier) es

-- the seats that become ready so, in roll order
abbrev pub roused : Bool → Standing → ℕ → List ℕ
roused b waiting s = cond b [] (s ∷ [])
roused b ready s = []
roused b (running ss) s = []

abbrev pub woken : Roll → Roll → List ℕ
woken earlier [] = []
woken earlier (e ∷ es) = roused (blocked earlier e.job.accesses) e.standing e.job.seat ++ woken (e ∷ earlier) es
