use Rattle.std.proofs.Common.{length, sym, refl}
use Rattle.queue.proofs.Same.{same_line}
use Rattle.queue.proofs.Steps.{window_empty, window_popped}
use Rattle.queue.proofs.Line.pop.Goals as goal

pub returns-in_default-clause-cases : goal.returns-in_default-clause-cases
returns-in_default-clause-cases g c =
    let l = c.args.self.now in
    let why = c.in_default.ensures.cases l.within in
    (refl, window_empty l.slots.now l.window why.0, same_line l c.pop.new.self _ (sym why.1))

pub returns-clause-cases : goal.returns-clause-cases
returns-clause-cases g c =
    let l = c.args.self.now in
    let taken = c.in-Some.ensures.cases l.within in
    window_popped l.slots.now (length l.slots.now) l.window c.pop.new.self c.in-Some.at c.index-self-at.result refl l.within taken.0 taken.1 taken.3
