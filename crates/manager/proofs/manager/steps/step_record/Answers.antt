use Rattle.std.proofs.Common.{◌≡◌, ℕ, Some, sym, ap, ◌∙◌, ap₂}
use Rattle.task.specs.Task.{accesses_of}
use Rattle.task.specs.declared.tasks.Task.{Task}
use Rattle.host.specs.Meaning.{stored}
use Rattle.roll.specs.Roll as roll
use Rattle.seat.specs.declared.Standing.{Standing}
use Rattle.seat.specs.declared.NextStep.TheVariants.{Bring, Put}
use Rattle.seat.specs.Phases.{standing_of, next_of}
use Rattle.manager.specs.Model.{entry_of}
use Rattle.manager.specs.Stepped.{stepped_answer, stepped_standing, stepped_values}
use Rattle.manager.proofs.Stepping.{bring_next, put_next}
use Rattle.manager.proofs.manager.steps.step_record.Goals as goal

-- the next step is a bring
pub returns-in-Some-Bring-clause-answer : goal.returns-in-Some-Bring-clause-answer
returns-in-Some-Bring-clause-answer g c =
    let old = c.args.occupant.now in
    let k = c.in-Some-Bring in
    let is : Some (Bring k.access k.address k.position) ≡ next_of (accesses_of old.task) old.standing = cc in
    let next = bring_next (accesses_of old.task) old.standing k.access k.address k.position old.phased is in
    ap (stepped_answer c.args.seat) (sym next.before)

pub returns-in-Some-Bring-clause-standing : goal.returns-in-Some-Bring-clause-standing
returns-in-Some-Bring-clause-standing g c =
    let old = c.args.occupant.now in
    let k = c.in-Some-Bring in
    let is : Some (Bring k.access k.address k.position) ≡ next_of (accesses_of old.task) old.standing = cc in
    let next = bring_next (accesses_of old.task) old.standing k.access k.address k.position old.phased is in
    ap₂ (λ (t : Task) (st : Standing). standing_of (accesses_of t) st) c.on.ensures.task c.on.ensures.standing ∙ next.after ∙ ap stepped_standing (sym next.before)

pub returns-in-Some-Bring-clause-values : goal.returns-in-Some-Bring-clause-values
returns-in-Some-Bring-clause-values g c =
    let old = c.args.occupant.now in
    let k = c.in-Some-Bring in
    let is : Some (Bring k.access k.address k.position) ≡ next_of (accesses_of old.task) old.standing = cc in
    let next = bring_next (accesses_of old.task) old.standing k.access k.address k.position old.phased is in
    let values = g.H.Host.values c.args.host.now in
    c.bring.ensures.values
    ∙ ap (λ (st : roll.Standing). stepped_values (g.H.Host.fixed c.args.host.now) (entry_of old c.args.seat).job st values) (sym next.before)

-- the next step is a put
pub returns-in-Some-Put-clause-standing : goal.returns-in-Some-Put-clause-standing
returns-in-Some-Put-clause-standing g c =
    let old = c.args.occupant.now in
    let k = c.in-Some-Put in
    let is : Some (Put k.access k.address k.brought) ≡ next_of (accesses_of old.task) old.standing = cc in
    let next = put_next (accesses_of old.task) old.standing k.access k.address k.brought old.phased is in
    ap₂ (λ (t : Task) (st : Standing). standing_of (accesses_of t) st) c.on-in-Some-Put.ensures.task c.on-in-Some-Put.ensures.standing
    ∙ next.0.after
    ∙ ap stepped_standing (sym next.0.before)

pub returns-in-Some-Put-clause-values : goal.returns-in-Some-Put-clause-values
returns-in-Some-Put-clause-values g c =
    let old = c.args.occupant.now in
    let k = c.in-Some-Put in
    let is : Some (Put k.access k.address k.brought) ≡ next_of (accesses_of old.task) old.standing = cc in
    let next = put_next (accesses_of old.task) old.standing k.access k.address k.brought old.phased is in
    let fixed = g.H.Host.fixed c.args.host.now in
    let values = g.H.Host.values c.args.host.now in
    c.put.ensures.values
    ∙ ap₂ (λ (kind n : ℕ). stored fixed kind k.access n c.args.seat k.address values) (ap (λ (t : Task). t.kind) c.task.ensures) next.1
    ∙ ap (λ (st : roll.Standing). stepped_values fixed (entry_of old c.args.seat).job st values) (sym next.0.before)
