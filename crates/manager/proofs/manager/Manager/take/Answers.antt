use Rattle.std.proofs.Common.{ℕ, Ok, ap, ◌∙◌}
use Rattle.manager.proofs.Taking.{taken_first}
use Rattle.manager.proofs.manager.Manager.take.Goals as goal

-- the first of the ready line runs
pub invariant_of-self-2 : goal.invariant_of-self-2
invariant_of-self-2 c =
    let m = c.args.self.now in
    let begun = taken_first m.inner m.sound c.pop.new.self c.in-Some.first c.lend-occupant.result.now c.on.new.self c.in-Some.ensures.cases
    c.lend-occupant.ensures.value c.on.ensures.task c.on.ensures.standing in
    record { sound = begun.sound }

pub returns-clause-answer : goal.returns-clause-answer
returns-clause-answer c =
    let m = c.args.self.now in
    let begun = taken_first m.inner m.sound c.pop.new.self c.in-Some.first c.lend-occupant.result.now c.on.new.self c.in-Some.ensures.cases
    c.lend-occupant.ensures.value c.on.ensures.task c.on.ensures.standing in
    let task = c.task-task.result.now in
    ap (λ (s : ℕ). Ok (s, task.kind, task.name)) c.from.ensures ∙ begun.answer task c.task-task.ensures

pub returns-clause-after : goal.returns-clause-after
returns-clause-after c =
    let m = c.args.self.now in
    let begun = taken_first m.inner m.sound c.pop.new.self c.in-Some.first c.lend-occupant.result.now c.on.new.self c.in-Some.ensures.cases
    c.lend-occupant.ensures.value c.on.ensures.task c.on.ensures.standing in
    begun.after
