use Rattle.std.proofs.Common.{◌≡◌, filter, take, ◌∙◌, take_all, arith, rules}
use Rattle.std.specs.Option.{is_some}
use Rattle.std.proofs.lemmas.Fn.{filter_same}
use Rattle.acceptance.proofs.Closing.{closed_up, closing_hole, closing_seat}
use Rattle.acceptance.proofs.methods.close_holes.Goals as goal
use Rattle.acceptance.proofs.methods.close_holes.Goals.{in-Some, in_default}

pub overflow_cast-places : goal.overflow_cast-places
overflow_cast-places c =
    let kept : c.retain.new.self.items ≡ filter is_some c.args.slots.now.items = filter_same _ _ _ (λ x b f' k. search rules) _ _ c.retain.ensures.filtered in
    let few = (closed_up c.args.slots.now.items c.deref-slot-items.result.now c.args.places.now c.requires.placed (c.deref-slot-items.ensures.value ∙ kept)).few in
    omega arith

pub loop-place-preserved : goal.loop-place-preserved
loop-place-preserved c =
    let kept : c.retain.new.self.items ≡ filter is_some c.args.slots.now.items = filter_same _ _ _ (λ x b f' k. search rules) _ _ c.retain.ensures.filtered in
    let ys = c.deref-slot-items.result.now in
    let closed = closed_up c.args.slots.now.items ys c.args.places.now c.requires.placed (c.deref-slot-items.ensures.value ∙ kept) in
    elim c.match-slot.branch [
      | in-Some w ↦
          let same : w.from.result ≡ w.in-Some.seat = omega arith in
          rw (w.places-is, same) (closing_seat ys c.loop-place.places c.loop-place.place w.in-Some.seat closed.once (omega arith) w.in-Some.is (omega arith) (omega arith) c.loop-place.invariant)
      | in_default w ↦ rw w.places-is (closing_hole ys c.loop-place.places c.loop-place.place (omega arith) w.in_default.is c.loop-place.invariant)
    ]

pub returns : goal.returns
returns c =
    let kept : c.retain.new.self.items ≡ filter is_some c.args.slots.now.items = filter_same _ _ _ (λ x b f' k. search rules) _ _ c.retain.ensures.filtered in
    let closed = closed_up c.args.slots.now.items c.retain.new.self.items c.args.places.now c.requires.placed kept in
    let all : take c.loop-place.place c.deref-slot-items.result.now ≡ c.retain.new.self.items = take_all c.loop-place.place c.deref-slot-items.result.now (omega arith) ∙ c.deref-slot-items.ensures.value in
    record {
      few = omega (arith, closed.few);
      room = c.retain.ensures.capacity;
      seats = closed.same;
      placed = rw all at c.loop-place.invariant;
    }
