use Rattle.std.proofs.Common.{rules, [], is_some, sym, ap, ◌∙◌, arith, List}
use Rattle.roll.specs.Tables.{fresh, crowded}
use Rattle.task.specs.declared.Access.{Access}
use Rattle.tracker.specs.Tracked.{sized}
use Rattle.tracker.proofs.Crowds.{crowded_none, fresh_most, any_crowds}
use Rattle.tracker.specs.contracts.faults.fn.crowds.any as closure
use Rattle.tracker.proofs.faults.crowds.Goals as goal

-- a short list crowds no set
pub returns-then-accesses-le-WAYS : goal.returns-then-accesses-le-WAYS
returns-then-accesses-le-WAYS c =
    let xs = c.args.accesses.now in
    sym (ap is_some (crowded_none (λ z. fresh (sized 0 0) [] z xs) (λ z lt. let k = fresh_most [] z xs in omega (arith, k))))

-- no count is above 8, or one is
pub returns : goal.returns
returns c =
    any_crowds _ (λ q. (closure.captures q).counts.counts) _ _ _ _ c.any.ensures.ran (λ q x b v k. (search rules, search rules)) c.none-counts.ensures
    ∙ ap (λ (l : List Access). is_some (crowded (λ z. fresh (sized 0 0) [] z l))) c.iter.ensures.rest
