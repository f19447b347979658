use Rattle.std.proofs.Common.{◌≡◌, ℕ, Ok, Err, refl, ap, ◌∙◌, arith}
use Rattle.std.proofs.lemmas.Result.{err_from_is_err_and}
use Rattle.drive.specs.Turns.{turn_result}
use Rattle.drive.proofs.Turning.{turn_of_parts, turn_of_none}
use Rattle.drive.proofs.turns.turn.Goals as goal

-- the take is refused
pub returns-in_err-seat : goal.returns-in_err-seat
returns-in_err-seat g c =
    let p = err_from_is_err_and c.from_residual.result c.from_residual.ensures.1 in
    let none = turn_of_none c.args.manager.now c.take.new.self (g.H.Host.fixed c.args.host.now) (g.H.Host.values c.args.host.now) c.in_err-seat.field-0.0
    c.in_err-seat.ensures.answer c.take.ensures.after in
    rw (p.1, p.2) (record {
      answer = ap turn_result none.0;
      after = none.1;
      fixed = refl;
      tables = c.take.ensures.tables;
      refused = λ _. (c.in_err-seat.ensures.refused refl, refl);
      empty = none.2;
    })

-- the finish is refused: this does not happen
pub returns-in_err-woken : goal.returns-in_err-woken
returns-in_err-woken g c =
    absurd ((turn_of_parts c.args.manager.now c.take.new.self c.run_steps.new.manager c.finish.new.self (g.H.Host.fixed c.args.host.now)
    (g.H.Host.values c.args.host.now) (g.H.Host.values c.run_steps.new.host) (c.in_ok-seat.seat, c.in_ok-seat.field-0-1, c.in_ok-seat.field-0-2)
    (Err c.in_err-woken.field-0.0) c.in_ok-seat.ensures.answer c.take.ensures.after c.take.ensures.tables c.run_steps.ensures.after
    c.in_err-woken.ensures.answer c.finish.ensures.after).2 c.in_err-woken.field-0.0 refl)

pub returns : goal.returns
returns g c =
    let all = turn_of_parts c.args.manager.now c.take.new.self c.run_steps.new.manager c.finish.new.self (g.H.Host.fixed c.args.host.now)
    (g.H.Host.values c.args.host.now) (g.H.Host.values c.run_steps.new.host) (c.in_ok-seat.seat, c.in_ok-seat.field-0-1, c.in_ok-seat.field-0-2)
    (Ok c.in_ok-woken.woken) c.in_ok-seat.ensures.answer c.take.ensures.after c.take.ensures.tables c.run_steps.ensures.after
    c.in_ok-woken.ensures.answer c.finish.ensures.after in
    record {
      answer = ap turn_result all.0;
      after = all.1;
      fixed = c.run_steps.ensures.fixed;
      tables = c.finish.ensures.tables ∙ c.run_steps.ensures.tables ∙ c.take.ensures.tables;
      refused = λ e. let z : ◌≡◌ {A = ℕ} 0 1 = cc in absurd (omega arith);
      empty = tt;
    }
