use Rattle.std.proofs.Common.{Bool, cond, [], ◌∷◌, ◌++◌, sym, refl, ap, ◌∙◌}
use Rattle.manager.specs.Model.{ready_of}
use Rattle.manager.proofs.Entering.{state_entered, sound_entered}
use Rattle.manager.proofs.EnteringSteps.{readied, entering}
use Rattle.manager.proofs.inner.Inner.enter.Goals as goal

-- the task may run: the ready line has it too
pub returns-then-not-blocked : goal.returns-then-not-blocked
returns-then-not-blocked c =
    let i = c.args.self.now in
    let s = c.args.seat in
    let task = c.args.task in
    let b = c.enter-blocked.result in
    let sound = c.requires.sound in
    let rest = c.requires.first.0 in
    let first = c.requires.first.1 in
    let line =
    readied i sound s task rest first c.push-then-not-blocked.new.self c.push-then-not-blocked.result c.push-then-not-blocked.ensures.answer c.push-then-not-blocked.ensures.contents
    ∙ ap (λ (v : Bool). cond v (ready_of i) (ready_of i ++ (s ∷ []))) (sym c.if-not-blocked.true) in
    let e = entering i sound s task rest first s refl c.lend-occupant.result.now c.occupy.new.self b c.lend-occupant.ensures.value
    c.occupy.ensures.task c.occupy.ensures.standing c.pop.result c.pop.new.self c.pop.ensures.cases c.push.new.self c.push.result c.push.ensures.answer
    c.push.ensures.listed c.enter-blocked.new.self c.accesses.result.now c.accesses.ensures c.enter-blocked.ensures c.requires.apart c.requires.fits _ line in
    record { after = state_entered i _ s task b sound e; tables = refl; sound = sound_entered i _ s task b sound e }

-- the task waits: the ready line stays
pub returns-else-not-blocked : goal.returns-else-not-blocked
returns-else-not-blocked c =
    let i = c.args.self.now in
    let s = c.args.seat in
    let task = c.args.task in
    let b = c.enter-blocked.result in
    let sound = c.requires.sound in
    let rest = c.requires.first.0 in
    let first = c.requires.first.1 in
    let line = ap (λ (v : Bool). cond v (ready_of i) (ready_of i ++ (s ∷ []))) (sym c.if-not-blocked.false) in
    let e = entering i sound s task rest first s refl c.lend-occupant.result.now c.occupy.new.self b c.lend-occupant.ensures.value
    c.occupy.ensures.task c.occupy.ensures.standing c.pop.result c.pop.new.self c.pop.ensures.cases c.push.new.self c.push.result c.push.ensures.answer
    c.push.ensures.listed c.enter-blocked.new.self c.accesses.result.now c.accesses.ensures c.enter-blocked.ensures c.requires.apart c.requires.fits _ line in
    record { after = state_entered i _ s task b sound e; tables = refl; sound = sound_entered i _ s task b sound e }
