-- Steps of several tasks done in any order in which a task's steps come after those of each earlier task that it conflicts with, and
-- what such an order leaves. It does not matter who chooses the order, nor which seats the tasks have. Assumes nothing.
--
--   Open                   a task that has begun, with the steps that are left to it
--   Reached                what can be reached by such orders
--   AnyOrderIsSerial       whatever is reached agrees with the one-at-a-time run
use Rattle.std.specs.Prelude.{◌≡◌, ℕ, zero, suc, ◌<◌, ◌≤◌, false, List, [], ◌∷◌, ◌++◌, length, Some, None, Option, ◌≢◌}
use Rattle.task.specs.Access.{Numbered, conflict}
use Rattle.task.specs.Limits.{max_accesses}
use Rattle.host.specs.Meaning.{Fixed, Values, seats}
use Rattle.one_at_a_time.specs.Alone.{values_read, alone, AllHeld}
use Rattle.order.specs.Steps.{Step, bring, Job, steps, done}

-- a task with the steps that are left to it, the next one first, and the list that it reads in the one-at-a-time run
pub record Open (V : Type 0) : Type 0 where
  pub job : Job
  pub left : List Step
  pub reads : List V

-- each of the tasks has this property
abbrev pub Each : {V : Type 0} → (Open V → Type 0) → List (Open V) → Type 0
Each P [] = Unit {0}
Each P (o ∷ os) = P o × Each P os

-- a task that a host can do: at most 15 accesses, every address held, and a seat within the table of values held aside
pub record Sound {V : Type 0} (h : Fixed V) (j : Job) : Type 0 where
  pub few : length j.accesses ≤ max_accesses
  pub held : AllHeld h j.accesses
  pub low : j.seat < seats

-- an earlier task is out of the way of this one: if it has steps left, it does not conflict with it
abbrev pub OutOfTheWay : {V : Type 0} → Job → Open V → Type 0
OutOfTheWay j o = (o.left ≢ []) → conflict o.job.accesses j.accesses ≡ false

-- from the values w0: the tasks that are open, in order of entering, a host's values, and the values of the one-at-a-time run over the
-- tasks that have entered
pub data Reached {V : Type 0} (h : Fixed V) (w0 : Values V) : List (Open V) → Values V → (ℕ → V) → Type 0 where
  -- at the beginning no task is open
  begins : Reached h w0 [] w0 w0.at
  -- a task enters at the end, on a seat that no open task has
  enters : (os : List (Open V)) (w : Values V) (at : ℕ → V) (j : Job) → Sound h j → Each (λ o. o.job.seat ≢ j.seat) os → Reached h w0 os w at →
      Reached h w0 (os ++ (record { job = j; left = steps j.accesses; reads = values_read at j.accesses } ∷ [])) w (alone h j.kind j.accesses at)
  -- the next step of an open task is done, where no earlier task with steps left conflicts with it
  goes : (pre post : List (Open V)) (w : Values V) (at : ℕ → V) (j : Job) (σ : Step) (ss : List Step) (vs : List V) → Each (OutOfTheWay j) pre →
      Reached h w0 (pre ++ (record { job = j; left = σ ∷ ss; reads = vs } ∷ post)) w at →
      Reached h w0 (pre ++ (record { job = j; left = ss; reads = vs } ∷ post)) (done h j σ w) at
  -- a task with no step left leaves
  leaves : (pre post : List (Open V)) (w : Values V) (at : ℕ → V) (j : Job) (vs : List V) → Reached h w0 (pre ++ (record { job = j; left = []; reads = vs } ∷ post)) w at →
      Reached h w0 (pre ++ post) w at

-- the element at a position of a list, if there is one
abbrev pub nth : {V : Type 0} → List V → ℕ → Option V
nth [] p = None
nth (v ∷ vs) zero = Some v
nth (v ∷ vs) (suc p) = nth vs p

-- whatever is reached agrees with the one-at-a-time run
pub record AnyOrderIsSerial (V : Type 0) : Type 0 where
  -- where no task has a step left, every address has the value that the one-at-a-time run leaves there
  pub values_agree : (h : Fixed V) (w0 : Values V) (os : List (Open V)) (w : Values V) (at : ℕ → V) → Reached h w0 os w at →
      Each (λ o. o.left ≡ []) os → w.at ≡ at
  -- a bring that may be done next fills its position with the value that the task reads there in the one-at-a-time run
  pub reads_agree : (h : Fixed V) (w0 : Values V) (pre post : List (Open V)) (w : Values V) (at : ℕ → V) (j : Job) (x : Numbered) (p : ℕ) (ss : List Step) (vs : List V) →
      Each (OutOfTheWay j) pre → Reached h w0 (pre ++ (record { job = j; left = bring x p ∷ ss; reads = vs } ∷ post)) w at →
      ((done h j (bring x p) w).aside j.seat p ≡ w.at x.address) × (nth vs p ≡ Some (w.at x.address))
