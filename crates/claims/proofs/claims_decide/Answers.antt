use Rattle.claims.proofs.Counts.{claims_decide}
use Rattle.claims.proofs.claims_decide.Goals as goal

pub returns-clause-law : goal.returns-clause-law
returns-clause-law c = claims_decide
