use Rattle.std.proofs.Common.{◌≡◌, ℕ, ◌<◌, Bool, true, false, ◌&&◌, eqb, length, get_or, vec_items, sym, refl, ap, ◌∙◌, arith}
use Rattle.std.proofs.lemmas.Bool.{lt-ltb, not-false}
use Rattle.seat.specs.declared.seats.Seat.{Seat}
use Rattle.tracker.specs.Tracked.{blocked_at}
use Rattle.manager.specs.declared.inner.Inner.{Inner}
use Rattle.manager.specs.Model.{ready_of}
use Rattle.manager.specs.Sound.{waiting_at}
use Rattle.manager.proofs.Roused.{waited_if, ready_if, joined_if, ready_room, became}
use Rattle.manager.proofs.Seats.{lent_is}
use Rattle.manager.proofs.inner.Inner.rouse.Goals as goal

-- the task does not wait
pub returns-else-on-clause-after : goal.returns-else-on-clause-after
returns-else-on-clause-after c =
    let i : Inner = c.args.self.now in
    let s : ℕ = c.args.seat in
    let x : Seat = c.lend-occupant.result.now in
    let w : Seat = c.on.new.self in
    let low : s < 256 = omega arith in
    let lent : x ≡ get_or (vec_items i.table.records) s x = c.lend-occupant.ensures.value in
    let same = lent_is i s x c.requires.full low lent in
    let answer = c.on.ensures.answer in
    let r : Bool = c.on.result in
    became i _ s w r c.requires low (waited_if i s x w r same answer) refl refl
    (c.on.ensures.task ∙ ap (λ (y : Seat). y.task) same) (ready_if i s x w r same answer c.on.ensures.standing)
    (rw c.if-on.false (joined_if false (ready_of i) s)) refl refl refl refl refl

-- it does, and becomes ready
pub returns-then-on : goal.returns-then-on
returns-then-on c =
    let i : Inner = c.args.self.now in
    let s : ℕ = c.args.seat in
    let x : Seat = c.lend-occupant.result.now in
    let w : Seat = c.on.new.self in
    let r : Bool = c.push.result in
    let low : s < 256 = omega arith in
    let lent : x ≡ get_or (vec_items i.table.records) s x = c.lend-occupant.ensures.value in
    let same = lent_is i s x c.requires.full low lent in
    let waits : waiting_at i s ≡ true = waited_if i s x w true same c.if-on.ensures.answer in
    let room : r ≡ true = c.push.ensures.answer ∙ lt-ltb (length (ready_of i)) 256 (ready_room i c.requires s low waits) in
    let idle : eqb (blocked_at i.tracker s) 0 ≡ true = not-false (eqb (blocked_at i.tracker s) 0) (sym c.if-is_blocked.ensures) in
    record {
      answer = room ∙ sym (ap (λ (b : Bool). b && eqb (blocked_at i.tracker s) 0) waits ∙ idle);
      after = became i _ s w r c.requires low (waits ∙ sym room) refl refl
          (c.on.ensures.task ∙ ap (λ (y : Seat). y.task) same) (ready_if i s x w r same (room ∙ c.if-on.ensures.answer) c.on.ensures.standing)
          (c.push.ensures.contents ∙ joined_if r (ready_of i) s) refl refl refl refl refl;
    }
