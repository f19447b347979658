use Rattle.std.proofs.Common.{Bool, ◌||◌, eqb, refl, ◌∙◌, rules}
use borrow.Author.Tests.{tests}
use Rattle.std.proofs.lemmas.Iterator.{YieldsList-from_slice}
use Rattle.std.proofs.lemmas.Iterator.Search.{any_from_yields_List}
use Rattle.std.proofs.lemmas.List.Recursion.{same_from_clauses}
use Rattle.std.specs.List.{list_any}
use Rattle.task.specs.Access.{some_access}
use Rattle.task.specs.declared.Access.{Access}
use Rattle.admission.proofs.occurs.Goals as goal

pub returns : goal.returns
returns c =
    let xs = c.args.accesses.now in
    let t : Access → Bool = λ x. eqb x.address c.args.address in
    any_from_yields_List t _ _ _ c.any.ensures.ran (YieldsList-from_slice xs cc) (λ x b q k. search (rules, tests))
    ∙ same_from_clauses (list_any t) (some_access t) (λ x b. t x || b) refl (λ _ _. refl) (λ _ _. refl) xs
