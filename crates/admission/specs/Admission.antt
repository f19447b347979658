-- Why a task is refused whatever the manager's tables hold: too many accesses, a repeated address, or an address that the host
-- does not hold, in that order. Assumes nothing.
--
--   first_from          the first of some numbers at which a test holds
--   repeated            the first access whose address occurs earlier in the task
--   not_held            the first access whose address the host does not hold
--   task_fault          the first of the three faults
use Rattle.std.specs.Prelude.{ℕ, zero, suc, Bool, cond, not, List, length, take, Some, None, Ok, Err, Option, Result, nat_eq, nat_lt, slice_index_or}
use Rattle.fault.specs.declared.ManagerFault.{ManagerFault}
use Rattle.fault.specs.declared.ManagerFault.TheVariants.{TooManyAccesses, RepeatedAddress, NotHeld}
use Rattle.task.specs.declared.Access.{Access}
use Rattle.task.specs.declared.Direction.TheVariants.{In}
use Rattle.task.specs.Access.{some_access}
use Rattle.task.specs.Limits.{max_accesses}

-- the first of the n numbers from i on at which the test holds
abbrev pub first_from : (ℕ → Bool) → ℕ → ℕ → Option ℕ
first_from p i zero = None
first_from p i (suc n) = cond (p i) (Some i) (first_from p (suc i) n)

-- the address of access i of a task that has it
abbrev pub address_at : List Access → ℕ → ℕ
address_at xs i = (slice_index_or xs i (record { address = 0; direction = In })).address

-- is the address that of one of the accesses?
abbrev pub occurs : ℕ → List Access → Bool
occurs a xs = some_access (λ x. nat_eq x.address a) xs

-- the first access whose address occurs earlier in the task
abbrev pub repeated : List Access → Option ℕ
repeated xs = first_from (λ i. occurs (address_at xs i) (take i xs)) 0 (length xs)

-- the first access whose address is not held
abbrev pub not_held : (ℕ → Bool) → List Access → Option ℕ
not_held held xs = first_from (λ i. not (held (address_at xs i))) 0 (length xs)

-- a fault at an access, if there is one, and else the next fault
abbrev pub fault_at : Option ℕ → (ℕ → ManagerFault) → Option ManagerFault → Option ManagerFault
fault_at (Some i) fault next = Some (fault i)
fault_at None fault next = next

-- the first fault of a task, for a host that holds these addresses
abbrev pub task_fault : (ℕ → Bool) → List Access → Option ManagerFault
task_fault held xs = cond (nat_lt max_accesses (length xs)) (Some TooManyAccesses) (fault_at (repeated xs) RepeatedAddress (fault_at (not_held held xs) NotHeld None))

-- a check that answers the fault, if there is one
abbrev pub unless : Option ManagerFault → Result (Unit {0}) ManagerFault
unless (Some fault) = Err fault
unless None = Ok tt
