use Rattle.std.proofs.Common.{◌≡◌, ◌∙◌, arith}
use Rattle.std.specs.Vec.{with_items}
use Rattle.std.proofs.lemmas.List.{with_items_is}
use Rattle.acceptance.proofs.Acceptance.close_up.Goals as goal

pub close_holes-requires-clause-placed : goal.close_holes-requires-clause-placed
close_holes-requires-clause-placed c = rw c.deref_mut.ensures.value c.args.self.now.placed

pub invariant_of-self : goal.invariant_of-self
invariant_of-self c =
    let a = c.args.self.now in
    let places : (with_items a.places c.close_holes.new.places).items ≡ c.close_holes.new.places = with_items_is a.places c.close_holes.new.places (omega arith) in
    record { room = c.close_holes.ensures.room ∙ a.room; within = omega (arith, c.close_holes.ensures.few); noted = a.noted; placed = rw places c.close_holes.ensures.placed }
