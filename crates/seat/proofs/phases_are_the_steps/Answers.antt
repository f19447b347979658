use Rattle.seat.proofs.Laws.{phases_are_the_steps}
use Rattle.seat.proofs.phases_are_the_steps.Goals as goal

pub returns-clause-law : goal.returns-clause-law
returns-clause-law c = phases_are_the_steps
