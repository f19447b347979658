use Rattle.std.proofs.Common.{◌∙◌, subst}
use Rattle.roll.specs.Built.{turn_answer}
use Rattle.rehearse_run.specs.declared.rounds.Next.{Next}
use Rattle.rehearse_run.specs.declared.rounds.Next.TheVariants.{On}
use Rattle.rehearse_run.specs.Rounds.{Turned}
use Rattle.rehearse_run.specs.Session.{setting_at, state_at, lines_at}
use Rattle.rehearse_run.proofs.Looping.{drain_lines, drain_state, drain_ends, drain_left}
use Rattle.rehearse_run.proofs.rounds.Session.drain.Goals as goal

pub returns-in_default : goal.returns-in_default
returns-in_default c =
    let s = c.loop.self in
    let t = c.take_turn.new.self in
    let m = setting_at s in
    let next = c.in_ok-take_turn.field-0 in
    let turned = c.in_ok-take_turn.ensures.turned in
    record {
      drained = record {
        lines = drain_ends m c.args.most c.loop.counter c.loop-test.true (state_at s) (state_at t) (lines_at s) (lines_at t) c.take_turn.ensures.after next c.in_default.not-On turned _
            c.loop.invariant.1;
        state = drain_left m c.args.most c.loop.counter c.loop-test.true (state_at s) (state_at t) (lines_at s) (lines_at t) c.take_turn.ensures.after next c.in_default.not-On turned _
            c.loop.invariant.2;
      };
      setting = c.take_turn.ensures.setting ∙ c.loop.invariant.0;
    }

pub loop-preserved : goal.loop-preserved
loop-preserved c =
    let s = c.loop.self in
    let t = c.take_turn.new.self in
    let m = setting_at s in
    let k = setting_at t in
    let same = c.take_turn.ensures.setting in
    let turned : Turned (turn_answer m (state_at s)) (lines_at s) On (lines_at t) =
    subst (λ (x : Next). Turned (turn_answer m (state_at s)) (lines_at s) x (lines_at t)) c.in-On.is c.in_ok-take_turn.ensures.turned in (
      same ∙ c.loop.invariant.0,
      drain_lines m c.args.most c.loop.counter c.loop-test.true (state_at s) (state_at t) (lines_at s) (lines_at t) c.take_turn.ensures.after k same turned ∙ c.loop.invariant.1,
      drain_state m c.args.most c.loop.counter c.loop-test.true (state_at s) (state_at t) (lines_at s) (lines_at t) c.take_turn.ensures.after k same turned ∙ c.loop.invariant.2,
    )
