use Rattle.std.proofs.Common.{sym, refl, ap}
use Rattle.queue.proofs.Steps.{window_popped}
use Rattle.ring.specs.Capacity.{capacity}
use Rattle.ring.specs.Model.{first_of}
use Rattle.ring.proofs.Ring.first.Goals as goal

pub returns : goal.returns
returns g c =
    let r = c.args.self.now in
    let there = c.in_ok-place.ensures.cases in
    ap first_of (sym (window_popped r.slots capacity r.window _ c.in_ok-place.place c.index-self-place.result r.whole r.within there.0 there.1 refl))
