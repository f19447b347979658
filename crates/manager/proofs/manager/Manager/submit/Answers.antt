use Rattle.std.proofs.Common.{◌≡◌, ℕ, Ok, Err, sym, ap, ◌∙◌, subst}
use Rattle.std.proofs.lemmas.Result.{err_from_is_err_and}
use Rattle.fault.specs.declared.ManagerFault.{ManagerFault}
use Rattle.fault.specs.declared.ManagerFault.TheVariants.{Table}
use Rattle.task.specs.Task.{accesses_of}
use Rattle.claims.specs.Queues.{Apart}
use Rattle.roll.specs.Calls.{refused}
use Rattle.roll.specs.Built.{left_by}
use Rattle.manager.specs.Model.{state_of, tables_of, roll_of, free_of}
use Rattle.manager.specs.Answers.{submit_answer}
use Rattle.manager.specs.Entered.{table_fault}
use Rattle.manager.proofs.Submits.{apart_from, unless_ok, submission, seat_refuses, seat_gives, entered_beside}
use Rattle.manager.proofs.manager.Manager.submit.Goals as goal

-- the tables do not take the task
pub returns-in_err-seat-clause-answer : goal.returns-in_err-seat-clause-answer
returns-in_err-seat-clause-answer g c =
    let i = c.args.self.now.inner in
    let w = g.H.Host.values c.args.host.now in
    let held = (g.H.Host.fixed c.args.host.now).held in
    let xs = c.args.accesses.now in
    let p = err_from_is_err_and c.from_residual-in_err-seat.result c.from_residual-in_err-seat.ensures.1 in
    let no : submission (state_of i w) c.args.name c.args.kind xs (tables_of i) held ≡ refused (Table c.in_err-seat.field-0.0) =
    seat_refuses (state_of i w) c.args.name c.args.kind xs (tables_of i) held (unless_ok _ tt c.in_ok-check.ensures) c.in_err-seat.field-0.0 c.in_err-seat.ensures in
    p.1 ∙ ap (λ (f : ManagerFault). Err f) p.2 ∙ sym (ap submit_answer no)

pub returns-in_err-seat-clause-after : goal.returns-in_err-seat-clause-after
returns-in_err-seat-clause-after g c =
    let i = c.args.self.now.inner in
    let w = g.H.Host.values c.args.host.now in
    let held = (g.H.Host.fixed c.args.host.now).held in
    let xs = c.args.accesses.now in
    let no : submission (state_of i w) c.args.name c.args.kind xs (tables_of i) held ≡ refused (Table c.in_err-seat.field-0.0) =
    seat_refuses (state_of i w) c.args.name c.args.kind xs (tables_of i) held (unless_ok _ tt c.in_ok-check.ensures) c.in_err-seat.field-0.0 c.in_err-seat.ensures in
    sym (ap (left_by (state_of i w)) no)

-- they do, and it enters the first free seat
pub enter-requires : goal.enter-requires
enter-requires g c =
    let m = c.args.self.now in
    let i = m.inner in
    let w = g.H.Host.values c.args.host.now in
    let held = (g.H.Host.fixed c.args.host.now).held in
    let xs = c.args.accesses.now in
    let fine = unless_ok _ tt c.in_ok-check.ensures in
    let same : accesses_of c.in_ok-task.task ≡ xs = c.in_ok-task.ensures.cases.3 in
    let given = seat_gives (state_of i w) c.args.name c.args.kind xs (tables_of i) held fine c.in_ok-seat.seat c.in_ok-seat.ensures in
    record {
      sound = m.sound;
      first = (given.1.0, given.1.1);
      apart = subst Apart (sym same) (apart_from held xs fine).1;
      fits = ap (table_fault (tables_of i) (roll_of i) (free_of i)) same ∙ given.0;
    }

pub returns-clause-answer : goal.returns-clause-answer
returns-clause-answer g c =
    let i = c.args.self.now.inner in
    let w = g.H.Host.values c.args.host.now in
    let held = (g.H.Host.fixed c.args.host.now).held in
    let s = c.in_ok-seat.seat in
    let given = seat_gives (state_of i w) c.args.name c.args.kind c.args.accesses.now (tables_of i) held (unless_ok _ tt c.in_ok-check.ensures) s c.in_ok-seat.ensures in
    ap (λ (n : ℕ). Ok n) c.from.ensures ∙ sym (ap submit_answer given.1.2)

pub returns-clause-after : goal.returns-clause-after
returns-clause-after g c =
    let i = c.args.self.now.inner in
    let w = g.H.Host.values c.args.host.now in
    let held = (g.H.Host.fixed c.args.host.now).held in
    let xs = c.args.accesses.now in
    let s = c.in_ok-seat.seat in
    let task = c.in_ok-task.task in
    let given = seat_gives (state_of i w) c.args.name c.args.kind xs (tables_of i) held (unless_ok _ tt c.in_ok-check.ensures) s c.in_ok-seat.ensures in
    let told = c.in_ok-task.ensures.cases in
    entered_beside i c.enter.new.self w task.name task.kind c.args.name c.args.kind (accesses_of task) xs s given.1.0 told.1 told.2 told.3
    (c.enter.ensures.after given.1.0 given.1.1)
    ∙ sym (ap (left_by (state_of i w)) given.1.2)
