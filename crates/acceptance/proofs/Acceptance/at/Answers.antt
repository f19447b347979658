use Rattle.std.proofs.Common.{◌≡◌, None, get_or, vec_items, arith, rules}
use Rattle.acceptance.specs.Listed.{end_of}
use Rattle.acceptance.proofs.Places.{there}
use Rattle.acceptance.proofs.Acceptance.at.Goals as goal

pub returns-clause-cases : goal.returns-clause-cases
returns-clause-cases c =
    let a = c.args.self.now in
    let here : c.in_ok-get.field-0.now ≡ get_or (vec_items a.slots) c.args.place None = search rules in
    there (vec_items a.slots) (vec_items a.places) a.placed c.args.place (end_of a) c.in_ok-get.field-0.now (omega arith) here
