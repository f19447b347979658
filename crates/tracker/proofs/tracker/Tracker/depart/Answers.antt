use Rattle.std.proofs.Common.{refl, arith}
use Rattle.tracker.proofs.Tables.{absent_none}
use Rattle.tracker.proofs.Draining.{departs, woken_none, woken_same, woken_end}
use Rattle.tracker.proofs.tracker.Tracker.depart.Goals as goal

pub returns-in_default : goal.returns-in_default
returns-in_default c =
    record {
      departed = λ M t l. absurd (let n = absent_none c.args.self.now.table M c.args.address t c.in_default.ensures in let s = l.some in omega (arith, n, s));
      woken = woken_none c.args.self.now c.args.order.now c.args.span.now;
    }

pub returns : goal.returns
returns c =
    let t = c.args.self.now in
    let t₁ = c.release.new.self in
    let t₂ = c.drain.new.self in
    let f = c.in-Some.ensures in
    let r = c.release.ensures in
    let k = c.close.ensures in
    let o = c.args.order.now in
    let sp = c.args.span.now in
    let sp' = c.drain.new.span in
    record {
      departed = λ M table l. departs t t₁ t₂ _ M c.args.address c.in-Some.way.number c.in-Some.way.low f.0 f.1 table l
          r.tag r.here r.rest r.counts r.versions c.drain.ensures.drained k.ways k.live refl refl;
      woken = woken_end t t₂ _ o sp sp' refl (woken_same t t₁ t₂ o sp sp' r.counts c.drain.ensures.woken);
    }
