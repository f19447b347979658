use Rattle.std.proofs.Common.{◌≡◌, ℕ, ◌+◌, ◌≤◌, true, false, List, ◌++◌, length, option_to_list, Option, get_or, drop, vec_items, vec_len, vec_capacity, sym, ap, ◌∙◌, subst, arith, rules}
use Rattle.task.specs.declared.Access.{Access}
use Rattle.task.specs.Access.{Numbered, reads, numbered, readers}
use Rattle.task.specs.Task.{accesses_of}
use Rattle.task.proofs.Some.{blank}
use Rattle.host.specs.Meaning.{Fixed, copied}
use Rattle.one_at_a_time.specs.Alone.{values_read, brought_alone}
use Rattle.one_at_a_time.proofs.Numbering.{numbered_more, numbered_none, held_more}
use Rattle.one_at_a_time.proofs.Bringing.{Bringing, brought_there, bring_more, bring_all, same_bringing}
use Rattle.one_at_a_time.proofs.alone.bring_all.Goals as goal
use Rattle.one_at_a_time.proofs.alone.bring_all.Goals.{then-reads, else-reads}

pub loop-access-preserved : goal.loop-access-preserved
loop-access-preserved g c =
    let xs = c.accesses-accesses.result.now in
    let i = c.loop-access.access-index in
    let lt = c.loop-access-test.true in
    let inv = c.loop-access.invariant in
    let n = vec_len c.loop-access.read in
    let h = g.H.Host.fixed c.args.host.now in
    let w0 = g.H.Host.values c.args.host.now in
    let values = g.H.Host.values c.loop-access.host in
    let items = vec_items c.loop-access.read in
    let V = g.row.H-Value.Denot in
    let few : length (accesses_of c.args.task.now) ≤ 15 = search rules in
    let long = ap length c.accesses-accesses.ensures in
    let here = held_more xs i lt h inv.held in
    let left : List Numbered = numbered reads (i + 1) (drop (i + 1) xs) in
    let x : Numbered = record { number = i; address = (get_or xs i blank).address } in
    let P : List Numbered → Type 0 = λ l. Bringing w0 (readers xs) l n items values in
    elim c.if-reads.branch [
      | then-reads w ↦
          let cut = numbered_more xs i lt reads true (sym w.if-reads.ensures) in
          let there : (g.H.Host.fixed c.loop-access.host).held x.address ≡ true = ap (λ (f : Fixed V). f.held x.address) inv.fixed ∙ here.0 in
          let at = w.len-position.result in
          let same : at ≡ n = w.len-position.ensures in
          let done =
          brought_there (g.H.Host.fixed c.loop-access.host) x.address at values (g.H.Host.values w.bring.new.self) w.aside_at.result there (omega (arith, same, few, long, lt, inv.few))
          w.bring.ensures.values w.aside_at.ensures in
          let len : vec_len c.if-reads.read ≡ n + 1 = ap vec_len w.read-is ∙ w.note.ensures.len ∙ ap (λ (o : Option V). n + length (option_to_list o)) done.1 in
          let cap : vec_capacity c.if-reads.read ≡ vec_capacity c.loop-access.read = ap vec_capacity w.read-is ∙ w.note.ensures.room in
          record {
            few = omega (arith, len, inv.few);
            room = omega (arith, cap, inv.room);
            fixed = ap g.H.Host.fixed w.host-is ∙ w.bring.ensures.fixed ∙ inv.fixed;
            held = here.1;
            brought =
                bring_more w0 (readers xs) left x n (vec_len c.if-reads.read) items (vec_items c.if-reads.read) values (g.H.Host.values c.if-reads.host) len
                (ap vec_items w.read-is ∙ w.note.ensures.items ∙ ap (λ (o : Option V). items ++ option_to_list o) done.1)
                (ap g.H.Host.values w.host-is ∙ done.0 ∙ ap (λ (p : ℕ). copied x.address 0 p values) same) (subst P cut inv.brought);
          }
      | else-reads w ↦
          let cut = numbered_more xs i lt reads false (sym w.if-reads.ensures) in
          record {
            few = omega (arith, ap vec_len w.read-is);
            room = omega (arith, ap vec_capacity w.read-is);
            fixed = ap g.H.Host.fixed w.host-is ∙ inv.fixed;
            held = here.1;
            brought =
                same_bringing w0 (readers xs) left n (vec_len c.if-reads.read) items (vec_items c.if-reads.read) values (g.H.Host.values c.if-reads.host)
                (ap vec_len w.read-is) (ap vec_items w.read-is) (ap g.H.Host.values w.host-is) (subst P cut inv.brought);
          }
    ]

pub returns-clause-values : goal.returns-clause-values
returns-clause-values g c =
    let xs = c.accesses-accesses.result.now in
    let w0 = g.H.Host.values c.args.host.now in
    let n = vec_len c.loop-access.read in
    let items = vec_items c.loop-access.read in
    let values = g.H.Host.values c.loop-access.host in
    let none = numbered_none reads xs c.loop-access.access-index c.loop-access-test.false in
    let P : List Numbered → Type 0 = λ l. Bringing w0 (readers xs) l n items values in
    let end = bring_all w0 (readers xs) n items values (subst P none c.loop-access.invariant.brought) in
    end.2 ∙ ap (λ (l : List Access). brought_alone 0 (values_read w0.at l) w0) c.accesses-accesses.ensures
