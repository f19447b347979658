use Rattle.queue.proofs.Steps.{window_popped}
use Rattle.ring.specs.Capacity.{capacity}
use Rattle.ring.proofs.Ring.pop.Goals as goal

pub returns : goal.returns
returns g c =
    let r = c.args.self.now in
    let taken = c.in_ok-at.ensures.cases r.within in
    record { cases = window_popped r.slots capacity r.window c.pop.new.self c.in_ok-at.at c.index-self-at.result r.whole r.within taken.0 taken.1 taken.3 }
