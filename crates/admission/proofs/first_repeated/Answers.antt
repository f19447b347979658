use Rattle.std.proofs.Common.{◌≡◌, ℕ, ◌+◌, Bool, take, sym, ap, ◌∙◌, rules, arith}
use borrow.Author.Tests.{tests}
use Rattle.std.proofs.lemmas.Iterator.{YieldsList-from_slice}
use Rattle.std.proofs.lemmas.Iterator.Adapters.{position_from-zero}
use Rattle.std.proofs.lemmas.Iterator.Consumers.{YieldsList-from_enumerate}
use Rattle.std.proofs.lemmas.Iterator.Search.{position_from_yields_List}
use Rattle.std.proofs.lemmas.List.FromFn.{length-enumerate_from, get_or-enumerate_from}
use Rattle.std.specs.List.{enumerate_from}
use Rattle.task.specs.declared.Access.{Access}
use Rattle.task.specs.declared.Direction.TheVariants.{In}
use Rattle.admission.specs.Admission.{first_from, address_at, occurs}
use Rattle.admission.proofs.Found.{position_from_is_first}
use Rattle.admission.proofs.first_repeated.Goals as goal

pub returns-clause-first : goal.returns-clause-first
returns-clause-first c =
    let xs = c.args.accesses.now in
    let t : ℕ × Access → Bool = λ e. occurs e.1.address (take e.0 xs) in
    let p : ℕ → Bool = λ i. occurs (address_at xs i) (take i xs) in
    let d : ℕ × Access = (0, record { address = 0; direction = In }) in
    let n = length-enumerate_from 0 xs in
    position_from_yields_List t _ _ _ c.position.ensures.ran (YieldsList-from_enumerate (YieldsList-from_slice xs cc) cc) (λ x b q k. search (rules, tests))
    ∙ position_from-zero t (enumerate_from 0 xs)
    ∙ position_from_is_first t p d (enumerate_from 0 xs) 0
    (λ k lt. let z : 0 + k ≡ k = omega arith in ap t (get_or-enumerate_from 0 xs k d (omega (arith, n, lt))) ∙ ap (λ (j : ℕ). occurs (address_at xs j) (take (0 + k) xs)) (sym z))
    ∙ ap (first_from p 0) n
