use Rattle.std.proofs.Common.{◌≡◌, ◌≤◌, take}
use Rattle.task.specs.Task.{accesses_of}
use Rattle.task.proofs.tasks.Task.from_slice.Given as goal

-- the accesses so far are the task's
abbrev pub invariant-loop-access : goal.invariant-loop-access
invariant-loop-access l =
    (l.access-index ≤ 15) × (l.task.name ≡ l.name) × (l.task.kind ≡ l.kind) × (accesses_of l.task ≡ take l.access-index l.accesses)
