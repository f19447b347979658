use Rattle.std.proofs.Common.{ℕ, None, vec_items, set, sym, ap, ◌∙◌, arith}
use Rattle.acceptance.specs.Listed.{seats_in, place_of}
use Rattle.acceptance.proofs.Places.{stands_low, at_place, hole, hole_placed}
use Rattle.acceptance.proofs.Acceptance.remove.Goals as goal

pub index_mut-requires : goal.index_mut-requires
index_mut-requires c =
    let a = c.args.self.now in
    let there = (at_place (vec_items a.slots) (vec_items a.places) a.placed c.args.seat (sym c.if-not-lists.ensures)).1 in
    omega (arith, stands_low (vec_items a.slots) (place_of a c.args.seat) c.args.seat there)

pub invariant_of-self-clause-placed : goal.invariant_of-self-clause-placed
invariant_of-self-clause-placed c = hole_placed (vec_items c.args.self.now.slots) (vec_items c.args.self.now.places) c.args.self.now.placed c.place-place.result

pub returns-clause-listed : goal.returns-clause-listed
returns-clause-listed c =
    let a = c.args.self.now in
    ap (λ (p : ℕ). seats_in (set (vec_items a.slots) p None)) c.place-place.ensures.value ∙ hole (vec_items a.slots) (vec_items a.places) a.placed c.args.seat (sym c.if-not-lists.ensures)
