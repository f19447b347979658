use Rattle.std.proofs.Common.{◌≡◌, ℕ, List, [], ◌++◌, vec_items, Result, sym, ap, ◌∙◌, arith}
use Rattle.fault.specs.declared.ManagerFault.{ManagerFault}
use Rattle.host.specs.Meaning.{Values}
use Rattle.roll.specs.Calls.{Setting, setting, State, Call, made}
use Rattle.roll.specs.Built.{state_after}
use Rattle.manager.specs.Answers.{state_with, setting_with}
use Rattle.runs.specs.declared.calls.Answer.{Answer}
use Rattle.runs.specs.Told.{calls_of, all_told, answers_to}
use Rattle.runs.specs.Obeys.{history, Lawful}
use Rattle.roll.proofs.Parts.{same_setting}
use Rattle.runs.proofs.whole.run_calls.Goals as goal

module _ {V : Type 0} (m n : Setting V) (w : Values V) (b : State V) (cs : List Call) (same : n ≡ m) (new : b ≡ made m w) where
  -- the answers of calls on a new manager, noted from nothing on
  new-answers : (rs ts : List (Result Answer ManagerFault)) → rs ≡ [] → all_told ts ≡ all_told rs ++ answers_to n b cs → all_told ts ≡ answers_to m (made m w) cs
  new-answers rs ts none all =
      all ∙ ap (λ (x : List (Result Answer ManagerFault)). all_told x ++ answers_to n b cs) none ∙ ap (λ (x : Setting V). answers_to x b cs) same
      ∙ ap (λ (x : State V). answers_to m x cs) new

  -- the state that they leave is that of the history
  new-state : (a : State V) → Lawful m w cs → a ≡ state_after n b cs → a ≡ (history m w cs).state
  new-state a lawful left =
      left ∙ ap (λ (x : Setting V). state_after x b cs) same ∙ ap (λ (x : State V). state_after m x cs) new ∙ sym lawful.state

pub returns : goal.returns
returns g c =
    let f = g.H.Host.fixed c.args.host.now in
    let w = g.H.Host.values c.args.host.now in
    let m = setting f c.args.seats c.args.versions in
    let n = setting_with c.in_ok-manager.manager f in
    let b = state_with c.in_ok-manager.manager w in
    let a = state_with c.perform_all.new.manager (g.H.Host.values c.perform_all.new.host) in
    let cs = calls_of c.args.calls.now in
    let same = c.in_ok-manager.ensures.setting in
    let new = c.in_ok-manager.ensures.state in
    let lawful = c.in_ok-manager.ensures.law cs in
    record {
      answers = new-answers m n w b cs same new (vec_items c.in_ok-answers.answers) (vec_items c.perform_all.new.answers)
          c.in_ok-answers.ensures.items c.perform_all.ensures.answers;
      state = new-state m n w b cs same new a lawful c.perform_all.ensures.after;
      setting = same_setting c.perform_all.ensures.tables c.perform_all.ensures.fixed ∙ same;
      law = lawful.law;
      fixed = c.perform_all.ensures.fixed;
      unmade = λ e. let z : ◌≡◌ {A = ℕ} 0 1 = cc in absurd (omega arith);
    }
