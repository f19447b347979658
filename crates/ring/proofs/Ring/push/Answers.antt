use Rattle.queue.proofs.Steps.{window_pushed}
use Rattle.ring.specs.Capacity.{capacity}
use Rattle.ring.proofs.Ring.push.Goals as goal

pub returns-clause-contents : goal.returns-clause-contents
returns-clause-contents g c =
    let r = c.args.self.now in
    let put = c.in-Some.ensures.cases r.within in
    window_pushed r.slots capacity r.window c.push.new.self c.in-Some.at c.args.x r.whole r.within put.0 put.1 put.3
