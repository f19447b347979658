use Rattle.std.proofs.Common.{refl}
use Rattle.drive.proofs.Turning.{refuses_only_empty}
use Rattle.drive.proofs.laws.turn_refuses_only_empty.Goals as goal

pub returns : goal.returns
returns g c = record { law = refuses_only_empty g.row.H-Value.Denot; value = refl }
