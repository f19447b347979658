-- Accesses: which of them read and which write, when two of them conflict, and when two tasks do. Assumes nothing.
--
--   reads, writes        what an access does with its address
--   conflicting          two accesses conflict
--   conflict             two tasks conflict, by their lists of accesses
--   readers, writers     the accesses of a task that read, and those that write, each with its number
use Rattle.std.specs.Prelude.{ℕ, suc, Bool, true, false, ◌&&◌, ◌||◌, List, [], ◌∷◌, ◌==◌}
use Rattle.std.specs.List.{list_any}
use Rattle.task.specs.declared.Access.{Access}
use Rattle.task.specs.declared.Direction.{Direction}
use Rattle.task.specs.declared.Direction.TheVariants.{In, Out, InOut}

-- in and inout read
abbrev pub reading : Direction → Bool
reading In = true
reading Out = false
reading InOut = true

-- out and inout write
abbrev pub writing : Direction → Bool
writing In = false
writing Out = true
writing InOut = true

-- does the access read its address? does it write it?
abbrev pub reads : Access → Bool
reads x = reading x.direction

abbrev pub writes : Access → Bool
writes x = writing x.direction

-- two accesses conflict when their addresses are equal and at least one of them writes
abbrev pub conflicting : Access → Access → Bool
conflicting x y = x.address == y.address && (writes x || writes y)

-- does the test hold of some access of the list?
abbrev pub some_access : (Access → Bool) → List Access → Bool
some_access p xs = list_any p xs

-- two tasks conflict when an access of one conflicts with an access of the other
abbrev pub conflict : List Access → List Access → Bool
conflict xs ys = some_access (λ x. some_access (conflicting x) ys) xs

-- an access by its number in the task, counted from 0, and its address
pub record Numbered : Type 0 where
  pub number : ℕ
  pub address : ℕ

-- an element before a list, if the test holds
abbrev pub keep : {A : Type 0} → Bool → A → List A → List A
keep true x rest = x ∷ rest
keep false x rest = rest

-- the accesses that pass the test, in order, where the first of the list has the number i
abbrev pub numbered : (Access → Bool) → ℕ → List Access → List Numbered
numbered p i [] = []
numbered p i (x ∷ xs) = keep (p x) (record { number = i; address = x.address }) (numbered p (suc i) xs)

-- the accesses that read, and those that write, in order of access number
abbrev pub readers : List Access → List Numbered
readers xs = numbered reads 0 xs

abbrev pub writers : List Access → List Numbered
writers xs = numbered writes 0 xs
