use Rattle.std.proofs.Common.{rules}
use Rattle.tracker.proofs.Searches.{place_way}
use Rattle.tracker.proofs.ways.AddressTable.place.Goals as goal

pub returns : goal.returns
returns c = place_way c.args.self.now c.args.address c.find.result c.or_else.result _ c.find.ensures c.or_else.ensures (λ p. search rules)
