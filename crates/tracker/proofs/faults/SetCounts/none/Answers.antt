use Rattle.std.proofs.lemmas.List.{get_or-replicate}
use Rattle.tracker.proofs.faults.SetCounts.none.Goals as goal

pub returns : goal.returns
returns c z lt = get_or-replicate 64 z 0 0 lt
