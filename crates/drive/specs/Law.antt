-- What a turn can be refused for. Assumes nothing.
use Rattle.std.specs.Prelude.{◌≡◌, Err}
use Rattle.fault.specs.declared.ManagerFault.{ManagerFault}
use Rattle.fault.specs.declared.ManagerFault.TheVariants.{LineEmpty}
use Rattle.roll.specs.Calls.{Setting, State}
use Rattle.roll.specs.Built.{turn_answer}

-- in every state a turn is refused by 16 only: once a task is taken its steps and its finish succeed
abbrev pub RefusesOnlyEmpty : Type 0 → Type 0
RefusesOnlyEmpty V = (m : Setting V) (b : State V) (fault : ManagerFault) → turn_answer m b ≡ Err fault → fault ≡ LineEmpty
