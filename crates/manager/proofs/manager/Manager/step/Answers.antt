use Rattle.std.proofs.Common.{◌≡◌, ℕ, Ok, Err, false, ltb, vec_len, sym, ap, ◌∙◌}
use Rattle.std.proofs.lemmas.Result.{err_from_is_err_and}
use Rattle.fault.specs.declared.ManagerFault.{ManagerFault}
use Rattle.roll.specs.Built.{left_by}
use Rattle.manager.specs.Answers.{step_answer}
use Rattle.manager.specs.Model.{state_of}
use Rattle.manager.proofs.Running.{as_numbers, step_told, step_none}
use Rattle.manager.proofs.manager.Manager.step.Goals as goal

-- there is no such seat
pub returns-in_default-clause-answer : goal.returns-in_default-clause-answer
returns-in_default-clause-answer g c =
    let m = c.args.self.now in
    let state = state_of m.inner (g.H.Host.values c.args.host.now) in
    let outside : false ≡ ltb c.args.seat (vec_len m.inner.table.records) = rw c.from.ensures at c.in_default.ensures.follows_facts.0 in
    let none = step_none m.inner m.sound c.args.seat (g.H.Host.fixed c.args.host.now) state outside in
    sym (ap step_answer none)

pub returns-in_default-clause-after : goal.returns-in_default-clause-after
returns-in_default-clause-after g c =
    let m = c.args.self.now in
    let state = state_of m.inner (g.H.Host.values c.args.host.now) in
    let outside : false ≡ ltb c.args.seat (vec_len m.inner.table.records) = rw c.from.ensures at c.in_default.ensures.follows_facts.0 in
    let none = step_none m.inner m.sound c.args.seat (g.H.Host.fixed c.args.host.now) state outside in
    sym (ap (left_by state) none)

-- the seat has a record, which does the step or refuses it
pub invariant_of-self-2 : goal.invariant_of-self-2
invariant_of-self-2 g c =
    let m = c.args.self.now in
    let told = c.step_record.ensures in
    let runs = step_told m.inner m.sound c.args.seat c.from.result c.in-Some.occupant.now c.step_record.new.occupant (g.H.Host.fixed c.args.host.now)
    (g.H.Host.values c.args.host.now) (g.H.Host.values c.step_record.new.host) c.step_record.result c.from.ensures
    c.in-Some.ensures.follows_facts.0 c.in-Some.ensures.follows_facts.1 told.answer told.standing told.task told.values told.refused
    (λ err. ap g.H.Host.values (told.host err)) in
    record { sound = runs.sound }

pub returns-in_err-done-clause-answer : goal.returns-in_err-done-clause-answer
returns-in_err-done-clause-answer g c =
    let m = c.args.self.now in
    let told = c.step_record.ensures in
    let runs = step_told m.inner m.sound c.args.seat c.from.result c.in-Some.occupant.now c.step_record.new.occupant (g.H.Host.fixed c.args.host.now)
    (g.H.Host.values c.args.host.now) (g.H.Host.values c.step_record.new.host) c.step_record.result c.from.ensures
    c.in-Some.ensures.follows_facts.0 c.in-Some.ensures.follows_facts.1 told.answer told.standing told.task told.values told.refused
    (λ err. ap g.H.Host.values (told.host err)) in
    let p = err_from_is_err_and c.from_residual.result c.from_residual.ensures.1 in
    p.1 ∙ ap (λ (f : ManagerFault). Err f) p.2 ∙ ap as_numbers (sym c.in_err-done.was) ∙ runs.answer

pub returns-in_err-done-clause-after : goal.returns-in_err-done-clause-after
returns-in_err-done-clause-after g c =
    let m = c.args.self.now in
    let told = c.step_record.ensures in
    let runs = step_told m.inner m.sound c.args.seat c.from.result c.in-Some.occupant.now c.step_record.new.occupant (g.H.Host.fixed c.args.host.now)
    (g.H.Host.values c.args.host.now) (g.H.Host.values c.step_record.new.host) c.step_record.result c.from.ensures
    c.in-Some.ensures.follows_facts.0 c.in-Some.ensures.follows_facts.1 told.answer told.standing told.task told.values told.refused
    (λ err. ap g.H.Host.values (told.host err)) in
    runs.after

pub returns-clause-answer : goal.returns-clause-answer
returns-clause-answer g c =
    let m = c.args.self.now in
    let told = c.step_record.ensures in
    let runs = step_told m.inner m.sound c.args.seat c.from.result c.in-Some.occupant.now c.step_record.new.occupant (g.H.Host.fixed c.args.host.now)
    (g.H.Host.values c.args.host.now) (g.H.Host.values c.step_record.new.host) c.step_record.result c.from.ensures
    c.in-Some.ensures.follows_facts.0 c.in-Some.ensures.follows_facts.1 told.answer told.standing told.task told.values told.refused
    (λ err. ap g.H.Host.values (told.host err)) in
    ap (λ (n : ℕ × ℕ). Ok n) c.into.ensures ∙ ap as_numbers (sym c.in_ok-done.was) ∙ runs.answer

pub returns-clause-after : goal.returns-clause-after
returns-clause-after g c =
    let m = c.args.self.now in
    let told = c.step_record.ensures in
    let runs = step_told m.inner m.sound c.args.seat c.from.result c.in-Some.occupant.now c.step_record.new.occupant (g.H.Host.fixed c.args.host.now)
    (g.H.Host.values c.args.host.now) (g.H.Host.values c.step_record.new.host) c.step_record.result c.from.ensures
    c.in-Some.ensures.follows_facts.0 c.in-Some.ensures.follows_facts.1 told.answer told.standing told.task told.values told.refused
    (λ err. ap g.H.Host.values (told.host err)) in
    runs.after
