use Rattle.std.proofs.Common.{refl}
use Rattle.tracker.proofs.Draining.{draining_more, draining_end, woken_more, woken_same, woken_end}
use Rattle.tracker.proofs.tracker.Tracker.drain.Goals as goal

pub loop-seat-preserved : goal.loop-seat-preserved
loop-seat-preserved c =
    let t = c.args.self.now in
    let t' = c.loop-seat.self in
    let t'' = c.unblock.new.self in
    let o = c.args.order.now in
    let e = c.promote_at.ensures in
    let u = c.unblock.ensures in (
      (λ r. draining_more t t' _ t'' c.args.way.number c.promote_at.result c.in-Some.seat (c.loop-seat.invariant.0 r) u.lowered e.answer c.in-Some.is e.tag e.here e.rest refl refl),
      woken_more t t' t'' o c.args.span.now c.loop-seat.span c.unblock.new.span c.loop-seat.invariant.1 (woken_same t' _ t'' o c.loop-seat.span c.unblock.new.span refl u.woken),
    )

pub returns : goal.returns
returns c =
    let t = c.args.self.now in
    let t' = c.loop-seat.self in
    let e = c.promote_at.ensures in
    record {
      drained = λ r. draining_end t t' _ c.args.way.number c.promote_at.result (c.loop-seat.invariant.0 r) e.answer c.in_default.is e.tag e.here e.rest refl refl;
      woken = woken_end t t' _ c.args.order.now c.args.span.now c.loop-seat.span refl c.loop-seat.invariant.1;
    }
