use Rattle.std.proofs.Common.{◌≡◌, ◌∷◌, [], Some, vec_items, length, ap, ◌∙◌, arith}
use Rattle.acceptance.specs.Listed.{seats_in}
use Rattle.acceptance.proofs.Places.{seats_append, joined_placed}
use Rattle.acceptance.proofs.Acceptance.append.Goals as goal

pub invariant_of-self : goal.invariant_of-self
invariant_of-self c =
    let a = c.args.self.now in
    let slots = vec_items a.slots in
    let behind : c.len.result ≡ length slots = omega arith in
    record {
      room = c.push_reserved.ensures.capacity ∙ a.room;
      within = omega arith;
      noted = a.noted;
      placed = rw (c.push_reserved.ensures.items, c.from.ensures, behind) (joined_placed slots (vec_items a.places) a.placed c.args.seat (omega arith) (omega arith) c.requires.apart);
    }

pub returns : goal.returns
returns c = ap seats_in c.push_reserved.ensures.items ∙ seats_append (vec_items c.args.self.now.slots) (Some c.args.seat ∷ [])
