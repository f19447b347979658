use Rattle.std.proofs.Common.{◌≡◌, ℕ, List, None, Ok, Result, length, sym, refl, ap, ◌∙◌, subst}
use Rattle.fault.specs.declared.ManagerFault.{ManagerFault}
use Rattle.task.specs.declared.Access.{Access}
use Rattle.task.specs.Task.{accesses_of}
use Rattle.host.specs.Meaning.{Fixed, Values, row}
use Rattle.admission.specs.Admission.{task_fault, unless}
use Rattle.admission.proofs.Sound.{passes_sound, all_held}
use Rattle.one_at_a_time.specs.Alone.{values_read, values_written, filled, put_alone, AllHeld}
use Rattle.one_at_a_time.proofs.Whole.{row_filled, held_all}
use Rattle.one_at_a_time.proofs.alone.perform.Goals as goal

-- a task that passes the check has only accesses whose addresses are held
held_of : {V : Type 0} (h : Fixed V) (xs own : List Access) → ◌≡◌ {A = Result (Unit {0}) ManagerFault} (Ok tt) (unless (task_fault h.held xs)) → xs ≡ own → AllHeld h own
held_of h xs own passes is = subst (AllHeld h) is (held_all h xs (all_held h.held xs (passes_sound (task_fault h.held xs) passes)))

pub bring_all-requires-clause-held : goal.bring_all-requires-clause-held
bring_all-requires-clause-held g c = held_of (g.H.Host.fixed c.args.host.now) c.accesses.result.now (accesses_of c.args.task) c.in_ok-check.ensures c.accesses.ensures

pub put_all-requires-clause-held : goal.put_all-requires-clause-held
put_all-requires-clause-held g c =
    let own = accesses_of c.args.task in
    subst (λ (f : Fixed g.row.H-Value.Denot). AllHeld f own) (sym c.bring_all.ensures.fixed)
    (held_of (g.H.Host.fixed c.args.host.now) c.accesses.result.now own c.in_ok-check.ensures c.accesses.ensures)

pub returns-clause-cases : goal.returns-clause-cases
returns-clause-cases g c =
    let V = g.row.H-Value.Denot in
    let h = g.H.Host.fixed c.args.host.now in
    let w = g.H.Host.values c.args.host.now in
    let xs = c.accesses.result.now in
    let own = accesses_of c.args.task in
    let kind = c.args.task.kind in
    let n = c.len.result in
    let w' = g.H.Host.values c.bring_all.new.host in
    let vs : List V = values_read w.at own in
    let sound : task_fault h.held xs ≡ None = passes_sound (task_fault h.held xs) c.in_ok-check.ensures in
    let kept : g.H.Host.fixed c.bring_all.new.host ≡ h = c.bring_all.ensures.fixed in
    let count : n ≡ length vs = c.len.ensures ∙ c.bring_all.new.read.ok.0 ∙ ap length c.bring_all.ensures.read in
    let seen : row 0 n (w'.aside 0) ≡ vs =
    ap (λ (v : Values V). row 0 n (v.aside 0)) c.bring_all.ensures.values ∙ ap (λ (m : ℕ). row 0 m (filled 0 vs (w.aside 0))) count ∙ row_filled vs 0 (w.aside 0) in
    record {
      same = refl;
      sound = subst (λ (l : List Access). task_fault h.held l ≡ None) c.accesses.ensures sound;
      read = c.bring_all.ensures.read;
      wrote =
          c.put_all.ensures.wrote ∙ ap (λ (f : Fixed V). values_written f kind (row 0 n (w'.aside 0)) own) kept ∙ ap (λ (l : List V). values_written h kind l own) seen;
      values =
          c.put_all.ensures.values ∙ ap (λ (f : Fixed V). put_alone f kind (row 0 n (w'.aside 0)) own w') kept ∙ ap (λ (l : List V). put_alone h kind l own w') seen
          ∙ ap (put_alone h kind vs own) c.bring_all.ensures.values;
    }
