use Rattle.std.proofs.Common.{◌≡◌, ℕ, [], length, Ok, Err, sym, ap, ◌∙◌}
use Rattle.std.proofs.lemmas.Result.{err_from_is_err_and}
use Rattle.fault.specs.declared.ManagerFault.{ManagerFault}
use Rattle.roll.specs.Roll.{woken}
use Rattle.roll.specs.Calls.{State, refused, left, awake}
use Rattle.roll.specs.Built.{left_by, finish_answer}
use Rattle.manager.specs.Model.{seat_at, state_of}
use Rattle.manager.specs.Answers.{no_values}
use Rattle.manager.proofs.Finishes.{outcome, finish_agrees, finish_done}
use Rattle.manager.proofs.manager.Manager.finish.Goals as goal

-- the seat may not finish
pub returns-in_err-at-clause-answer : goal.returns-in_err-at-clause-answer
returns-in_err-at-clause-answer c =
    let m = c.args.self.now in
    let s = c.args.seat in
    let p = err_from_is_err_and c.from_residual.result c.from_residual.ensures.1 in
    let no : outcome m.inner m.sound.seated s ≡ refused c.in_err-at.field-0.0 = finish_agrees m.inner m.sound.seated s (Err c.in_err-at.field-0.0) c.in_err-at.ensures in
    p.1 ∙ ap (λ (f : ManagerFault). Err f) p.2 ∙ sym (ap finish_answer no)

pub returns-in_err-at-clause-after : goal.returns-in_err-at-clause-after
returns-in_err-at-clause-after c =
    let m = c.args.self.now in
    let s = c.args.seat in
    let no : outcome m.inner m.sound.seated s ≡ refused c.in_err-at.field-0.0 = finish_agrees m.inner m.sound.seated s (Err c.in_err-at.field-0.0) c.in_err-at.ensures in
    sym (ap (left_by (state_of m.inner no_values)) no)

-- it may, and its task is done
pub leave-span-requires-clause-done : goal.leave-span-requires-clause-done
leave-span-requires-clause-done c =
    let m = c.args.self.now in
    let s = c.args.seat in
    let ok = finish_agrees m.inner m.sound.seated s (Ok c.in_ok-at.at) c.in_ok-at.ensures in
    ap (λ (x : ℕ). (seat_at m.inner x).standing) ok.0 ∙ finish_done s c.in_ok-at.at (seat_at m.inner s).standing c.in_ok-at.ensures

-- its task leaves, and those that nothing blocks any more wake
pub returns-clause-answer : goal.returns-clause-answer
returns-clause-answer c =
    let m = c.args.self.now in
    let s = c.args.seat in
    let ok = finish_agrees m.inner m.sound.seated s (Ok c.in_ok-at.at) c.in_ok-at.ensures in
    let gone : state_of c.leave-span.new.self no_values ≡ left (state_of m.inner no_values) s = c.leave-span.ensures.after ∙ ap (left (state_of m.inner no_values)) ok.0 in
    ap (λ (n : ℕ). Ok n) (c.wake.ensures.answer ∙ ap (λ (b : State (Unit {0})). length (woken [] b.roll)) gone) ∙ sym (ap finish_answer ok.1)

pub returns-clause-after : goal.returns-clause-after
returns-clause-after c =
    let m = c.args.self.now in
    let s = c.args.seat in
    let ok = finish_agrees m.inner m.sound.seated s (Ok c.in_ok-at.at) c.in_ok-at.ensures in
    let gone : state_of c.leave-span.new.self no_values ≡ left (state_of m.inner no_values) s = c.leave-span.ensures.after ∙ ap (left (state_of m.inner no_values)) ok.0 in
    c.wake.ensures.after ∙ ap awake gone ∙ sym (ap (left_by (state_of m.inner no_values)) ok.1)
