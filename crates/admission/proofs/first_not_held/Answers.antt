use Rattle.std.proofs.Common.{◌≡◌, ℕ, ◌+◌, Bool, not, sym, ap, ◌∙◌, rules, arith}
use borrow.Author.Tests.{tests}
use Rattle.std.proofs.lemmas.Iterator.{YieldsList-from_slice}
use Rattle.std.proofs.lemmas.Iterator.Adapters.{position_from-zero}
use Rattle.std.proofs.lemmas.Iterator.Search.{position_from_yields_List}
use Rattle.task.specs.declared.Access.{Access}
use Rattle.task.specs.declared.Direction.TheVariants.{In}
use Rattle.admission.specs.Admission.{address_at}
use Rattle.admission.proofs.Found.{position_from_is_first}
use Rattle.admission.proofs.first_not_held.Goals as goal

pub returns-clause-first : goal.returns-clause-first
returns-clause-first g c =
    let xs = c.args.accesses.now in
    let held = (g.H.Host.fixed c.args.host.now).held in
    let t : Access → Bool = λ x. not (held x.address) in
    let p : ℕ → Bool = λ i. not (held (address_at xs i)) in
    position_from_yields_List t _ _ _ c.position.ensures.ran (YieldsList-from_slice xs cc) (λ x b q k. search (rules, tests)) ∙ position_from-zero t xs
    ∙ position_from_is_first t p (record { address = 0; direction = In }) xs 0 (λ k _. let z : 0 + k ≡ k = omega arith in ap p (sym z))
