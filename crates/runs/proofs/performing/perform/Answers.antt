use Rattle.std.proofs.Common.{rules, ◌≡◌, ℕ, Ok, Err, Result, sym, ap, ◌∙◌}
use Rattle.std.specs.Result.{MatchResult, IsOkAnd}
use Rattle.fault.specs.declared.ManagerFault.{ManagerFault}
use Rattle.manager.specs.Answers.{state_with, setting_with}
use Rattle.runs.specs.declared.calls.Answer.{Answer}
use Rattle.runs.specs.declared.calls.Answer.TheVariants.{Seated}
use Rattle.runs.specs.Told.{told}
use Rattle.runs.proofs.Performed.{seated_by, submit_told, submit_leaves}
use Rattle.runs.proofs.performing.perform.Goals as goal

-- a seat that becomes an answer is told as one
seat_told : (P : ℕ → Answer → Type 0) → ((s : ℕ) (a : Answer) → P s a → a ≡ Seated s) → (r : Result ℕ ManagerFault) (t : Result Answer ManagerFault) →
    MatchResult r (λ s. IsOkAnd t (P s)) (λ e. t ≡ Err e) → told t ≡ seated_by r
seat_told P says (Ok s) (Ok a) h = ap (λ (x : Answer). told (Ok x)) (says s a h)
seat_told P says (Ok s) (Err e) h = absurd h
seat_told P says (Err e) t h = ap told h

pub returns-in-Submit-clause-answer : goal.returns-in-Submit-clause-answer
returns-in-Submit-clause-answer g c =
    let s = c.in-Submit in
    let m = setting_with c.args.manager.now (g.H.Host.fixed c.args.host.now) in
    let b = state_with c.args.manager.now (g.H.Host.values c.args.host.now) in
    submit_told m b c.args.call.now s.name s.kind s.accesses s.is (told c.map.result) c.submit.result
    (seat_told _ (λ s a p. search rules) c.submit.result c.map.result c.map.ensures.cases) c.submit.ensures.answer

pub returns-in-Submit-clause-after : goal.returns-in-Submit-clause-after
returns-in-Submit-clause-after g c =
    let s = c.in-Submit in
    let w = g.H.Host.values c.args.host.now in
    let m = setting_with c.args.manager.now (g.H.Host.fixed c.args.host.now) in
    submit_leaves m (state_with c.args.manager.now w) c.args.call.now s.name s.kind s.accesses s.is (state_with c.submit.new.self w) c.submit.ensures.after

pub returns-in-Submit-clause-refused : goal.returns-in-Submit-clause-refused
returns-in-Submit-clause-refused g c e = c.submit.ensures.refused (sym c.map.ensures.variant ∙ e)
