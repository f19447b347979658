-- What a task holds: its accesses as a list. Its name and kind are fields. Assumes nothing.
use Rattle.std.specs.Prelude.{List, take}
use Rattle.task.specs.declared.Access.{Access}
use Rattle.task.specs.declared.tasks.Task.{Task}

-- the accesses of a task, in the order given
abbrev pub accesses_of : Task → List Access
accesses_of t = take t.count t.slots
