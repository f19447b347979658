use Rattle.std.proofs.Common.{◌≡◌, false, eqb, length, sym, refl, arith}
use Rattle.queue.specs.Window.{window_of}
use Rattle.queue.proofs.Same.{same_line}
use Rattle.queue.proofs.Steps.{length_window, window_pushed}
use Rattle.queue.proofs.Line.push.Goals as goal

pub returns-in_default-clause-refused : goal.returns-in_default-clause-refused
returns-in_default-clause-refused g c = λ _. same_line c.args.self.now c.push.new.self _ (sym (c.in_default.ensures.cases c.args.self.now.within).1)

pub returns-clause-contents : goal.returns-clause-contents
returns-clause-contents g c =
    let l = c.args.self.now in
    let xs = l.slots.now in
    let put = c.in-Some.ensures.cases l.within in
    let e : length (window_of l.window xs) ≡ l.window.len = length_window xs (length xs) l.window refl l.within in
    let room : eqb l.window.len (length xs) ≡ false = grind (arith, put.0) in
    rw (e, room) (window_pushed xs (length xs) l.window c.push.new.self c.in-Some.at c.args.x refl l.within put.0 put.1 put.3)
