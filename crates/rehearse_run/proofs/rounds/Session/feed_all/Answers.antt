use Rattle.std.proofs.Common.{◌≡◌, ◌-◌, ◌<◌, ◌∙◌, subst, arith}
use Rattle.rehearse_run.specs.declared.rounds.Next.{Next}
use Rattle.rehearse_run.specs.declared.rounds.Next.TheVariants.{On, Drain, Stop}
use Rattle.rehearse_run.specs.Rounds.{rounds, Goes}
use Rattle.rehearse_run.specs.Session.{setting_at, state_at, lines_at}
use Rattle.rehearse_run.proofs.Going.{made_more}
use Rattle.rehearse_run.proofs.Looping.{rounds_are, round_lines, round_state, stop_lines, stop_state, last_lines, last_state, none_left, state_left}
use Rattle.rehearse_run.proofs.rounds.Session.feed_all.Goals as goal

pub loop-round-preserved : goal.loop-round-preserved
loop-round-preserved c =
    let s = c.loop-round.self in
    let t = c.advance.new.self in
    let m = setting_at s in
    let k = setting_at t in
    let bytes = c.loop-round.reader.bytes.now in
    let place = c.loop-round.reader.place.at in
    let i = c.loop-round.round in
    let at = c.advance.new.reader.place.at in
    let lt : i < rounds = omega (arith, rounds_are, c.loop-round-test.true) in
    let same = c.advance.ensures.setting in
    let goes : Goes m bytes place (state_at s) (lines_at s) On at (state_at t) (lines_at t) =
    subst (λ (x : Next). Goes m bytes place (state_at s) (lines_at s) x at (state_at t) (lines_at t)) c.in-On.is c.in_ok-advance.ensures.goes in (
      same ∙ c.loop-round.invariant.0,
      round_lines m bytes i lt place at (state_at s) (state_at t) (lines_at s) (lines_at t) goes k same c.advance.new.reader.bytes.now c.advance.ensures.bytes ∙ c.loop-round.invariant.1,
      round_state m bytes i lt place at (state_at s) (state_at t) (lines_at s) (lines_at t) goes k same c.advance.new.reader.bytes.now c.advance.ensures.bytes ∙ c.loop-round.invariant.2,
    )

pub returns-in-Stop : goal.returns-in-Stop
returns-in-Stop c =
    let s = c.loop-round.self in
    let t = c.advance.new.self in
    let m = setting_at s in
    let bytes = c.loop-round.reader.bytes.now in
    let place = c.loop-round.reader.place.at in
    let i = c.loop-round.round in
    let at = c.advance.new.reader.place.at in
    let lt : i < rounds = omega (arith, rounds_are, c.loop-round-test.true) in
    let goes : Goes m bytes place (state_at s) (lines_at s) Stop at (state_at t) (lines_at t) =
    subst (λ (x : Next). Goes m bytes place (state_at s) (lines_at s) x at (state_at t) (lines_at t)) c.in-Stop.is c.in_ok-advance.ensures.goes in
    record {
      went = record {
        lines = stop_lines m bytes i lt place at (state_at s) (state_at t) (lines_at s) (lines_at t) goes _ c.loop-round.invariant.1;
        state = stop_state m bytes i lt place at (state_at s) (state_at t) (lines_at s) (lines_at t) goes _ c.loop-round.invariant.2;
      };
      setting = c.advance.ensures.setting ∙ c.loop-round.invariant.0;
    }

pub returns-in-Drain : goal.returns-in-Drain
returns-in-Drain c =
    let s = c.loop-round.self in
    let t = c.advance.new.self in
    let u = c.drain.new.self in
    let m = setting_at s in
    let k = setting_at t in
    let bytes = c.loop-round.reader.bytes.now in
    let place = c.loop-round.reader.place.at in
    let i = c.loop-round.round in
    let at = c.advance.new.reader.place.at in
    let lt : i < rounds = omega (arith, rounds_are, c.loop-round-test.true) in
    let same = c.advance.ensures.setting in
    let goes : Goes m bytes place (state_at s) (lines_at s) Drain at (state_at t) (lines_at t) =
    subst (λ (x : Next). Goes m bytes place (state_at s) (lines_at s) x at (state_at t) (lines_at t)) c.in-Drain.is c.in_ok-advance.ensures.goes in
    let most = 131584 - i in
    let fuel : most ≡ rounds - i = omega (arith, rounds_are) in
    record {
      went = made_more c.drain.result c.drain.ensures.drained (λ _ r. record {
        lines = last_lines m bytes i lt place at (state_at s) (state_at t) (lines_at s) (lines_at t) goes k same most fuel (state_at u) (lines_at u) r _ c.loop-round.invariant.1;
        state = last_state m bytes i lt place at (state_at s) (state_at t) (lines_at s) (lines_at t) goes k same most fuel (state_at u) (lines_at u) r _ c.loop-round.invariant.2;
      });
      setting = c.drain.ensures.setting ∙ same ∙ c.loop-round.invariant.0;
    }

pub returns : goal.returns
returns c =
    let s = c.loop-round.self in
    let bytes = c.loop-round.reader.bytes.now in
    let place = c.loop-round.reader.place.at in
    let left = rounds - c.loop-round.round in
    let none : left ≡ 0 = omega (arith, rounds_are, c.loop-round-test.false) in
    record {
      went = record {
        lines = none_left (setting_at s) bytes left place (state_at s) (lines_at s) _ none c.loop-round.invariant.1;
        state = state_left (setting_at s) bytes left place (state_at s) _ none c.loop-round.invariant.2;
      };
      setting = c.loop-round.invariant.0;
    }
