use Rattle.std.proofs.Common.{◌≡◌, true, is_ok, Ok, Err, Result, sym, ◌∙◌, subst, arith}
use Rattle.roll.specs.Calls.{Setting}
use Rattle.manager.specs.Answers.{state_with, setting_with}
use Rattle.roll.proofs.Parts.{same_setting}
use Rattle.drive.proofs.Running.{all_done, one_fewer, same_done}
use Rattle.drive.proofs.turns.run_steps.Goals as goal

-- a step that succeeded
went : {A E : Type 0} (r s : Result A E) → is_ok r ≡ true → r ≡ s → (p : A) × (Ok p ≡ s)
went (Ok p) s t q = (p, q)
went (Err e) s t q = cc t

pub loop-smaller : goal.loop-smaller
loop-smaller g c =
    let b = state_with c.loop.manager (g.H.Host.values c.loop.host) in
    let d = state_with c.step.new.self (g.H.Host.values c.step.new.host) in
    let m = setting_with c.loop.manager (g.H.Host.fixed c.loop.host) in
    let p = went c.step.result _ (sym c.is_ok.ensures.value ∙ c.loop-test.true) c.step.ensures.answer in
    omega (arith, one_fewer c.args.seat m b p.0 p.1 d c.step.ensures.after)

pub loop-preserved : goal.loop-preserved
loop-preserved g c =
    let s = c.args.seat in
    let b = state_with c.loop.manager (g.H.Host.values c.loop.host) in
    let d = state_with c.step.new.self (g.H.Host.values c.step.new.host) in
    let m = setting_with c.loop.manager (g.H.Host.fixed c.loop.host) in
    let still : m ≡ setting_with c.args.manager.now (g.H.Host.fixed c.args.host.now) = same_setting c.loop.invariant.1 c.loop.invariant.0 in
    let p = went c.step.result _ (sym c.is_ok.ensures.value ∙ c.loop-test.true) c.step.ensures.answer in (
      c.step.ensures.fixed ∙ c.loop.invariant.0,
      c.step.ensures.tables ∙ c.loop.invariant.1,
      subst (λ (x : Setting g.row.H-Value.Denot). all_done s x d ≡ all_done s x b) still (same_done s m b p.0 p.1 d c.step.ensures.after)
          ∙ c.loop.invariant.2,
    )
