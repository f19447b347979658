-- What a step makes of one seat's entry: its answer, the standing after it, and the host's values after it. Assumes nothing.
use Rattle.std.specs.Prelude.{ℕ, [], ◌∷◌, Ok, Err, Result}
use Rattle.fault.specs.declared.ManagerFault.{ManagerFault}
use Rattle.fault.specs.declared.ManagerFault.TheVariants.{NotRunning, NoStepLeft}
use Rattle.host.specs.Meaning.{Fixed, Values}
use Rattle.order.specs.Steps.{Step, bring, put, Job, done}
use Rattle.roll.specs.Roll.{Standing, waiting, ready, running}
use Rattle.manager.specs.declared.manager.steps.StepDone.{StepDone}
use Rattle.manager.specs.declared.manager.steps.StepDone.TheVariants.{Brought, Put}

-- what a step did, as two plain numbers: that of the access, and 0 for a bring or 1 for a put
abbrev pub numbers_of : StepDone → ℕ × ℕ
numbers_of (Brought n) = (n, 0)
numbers_of (Put n) = (n, 1)

-- what each step does
abbrev pub done_by : Step → StepDone
done_by (bring x p) = Brought x.number
done_by (put x) = Put x.number

-- the answer for a seat in this standing
abbrev pub stepped_answer : ℕ → Standing → Result StepDone ManagerFault
stepped_answer s waiting = Err (NotRunning s)
stepped_answer s ready = Err (NotRunning s)
stepped_answer s (running []) = Err (NoStepLeft s)
stepped_answer s (running (σ ∷ ss)) = Ok (done_by σ)

-- the standing after it: one step less is left, and where there is none to do it stays
abbrev pub stepped_standing : Standing → Standing
stepped_standing waiting = waiting
stepped_standing ready = ready
stepped_standing (running []) = running []
stepped_standing (running (σ ∷ ss)) = running ss

-- the host's values after it
abbrev pub stepped_values : {V : Type 0} → Fixed V → Job → Standing → Values V → Values V
stepped_values h j waiting w = w
stepped_values h j ready w = w
stepped_values h j (running []) w = w
stepped_values h j (running (σ ∷ ss)) w = done h j σ w
