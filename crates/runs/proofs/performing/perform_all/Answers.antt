use Rattle.std.proofs.Common.{◌≡◌, [], ◌++◌, vec_items, ◌∙◌, arith}
use Rattle.roll.specs.Built.{state_after}
use Rattle.manager.specs.Answers.{state_with, setting_with}
use Rattle.runs.specs.declared.calls.Call.{Call}
use Rattle.runs.specs.declared.calls.Call.TheVariants.{Submit}
use Rattle.runs.specs.Told.{calls_of, all_told, answers_to}
use Rattle.roll.proofs.Parts.{same_setting}
use Rattle.runs.proofs.Rest.{answers_more, state_more, answers_end, state_end}
use Rattle.runs.proofs.performing.perform_all.Goals as goal

-- what stands beyond the end of the calls
blank : Call
blank = Submit 0 0 (record { ref_ptr = (0, 0); now = [] })

pub loop-call-preserved : goal.loop-call-preserved
unfolding blank
loop-call-preserved g c =
    let m = setting_with c.loop-call.manager (g.H.Host.fixed c.loop-call.host) in
    let n = setting_with c.perform-answer.new.manager (g.H.Host.fixed c.perform-answer.new.host) in
    let b = state_with c.loop-call.manager (g.H.Host.values c.loop-call.host) in
    let a = state_with c.perform-answer.new.manager (g.H.Host.values c.perform-answer.new.host) in
    let cs = c.args.calls.now in
    let i = c.loop-call.call-index in
    let lt = c.loop-call-test.true in
    let same : n ≡ m = same_setting c.perform-answer.ensures.tables c.perform-answer.ensures.fixed in (
      omega (arith, c.loop-call.invariant.0, c.push_reserved.ensures.len, c.push_reserved.ensures.capacity),
      c.perform-answer.ensures.fixed ∙ c.loop-call.invariant.1,
      c.perform-answer.ensures.tables ∙ c.loop-call.invariant.2,
      answers_more cs i blank lt m n b a (vec_items c.loop-call.answers) (vec_items c.push_reserved.new.self) c.perform-answer.result same
          c.perform-answer.ensures.answer c.perform-answer.ensures.after c.push_reserved.ensures.items ∙ c.loop-call.invariant.3,
      state_more cs i blank lt m n b a same c.perform-answer.ensures.after ∙ c.loop-call.invariant.4,
    )

pub returns : goal.returns
returns g c =
    let m = setting_with c.loop-call.manager (g.H.Host.fixed c.loop-call.host) in
    let b = state_with c.loop-call.manager (g.H.Host.values c.loop-call.host) in
    let m₀ = setting_with c.args.manager.now (g.H.Host.fixed c.args.host.now) in
    let b₀ = state_with c.args.manager.now (g.H.Host.values c.args.host.now) in
    let cs = c.args.calls.now in
    let i = c.loop-call.call-index in
    let le = c.loop-call-test.false in
    record {
      answers = answers_end cs i le m b (vec_items c.loop-call.answers) (all_told (vec_items c.args.answers.now) ++ answers_to m₀ b₀ (calls_of cs)) c.loop-call.invariant.3;
      after = state_end cs i le m b (state_after m₀ b₀ (calls_of cs)) c.loop-call.invariant.4;
      fixed = c.loop-call.invariant.1;
      tables = c.loop-call.invariant.2;
    }
