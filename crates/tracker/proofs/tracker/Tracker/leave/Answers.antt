use Rattle.std.proofs.Common.{◌≡◌, ◌+◌, ◌<◌, false, List, [], ◌∷◌, length, get_or, drop, sym, ap, ◌∙◌, subst, add-one, arith, drop-cons}
use Rattle.std.proofs.lemmas.List.{drop_all}
use Rattle.task.specs.declared.Access.{Access}
use Rattle.claims.proofs.Leaving.{with}
use Rattle.claims.proofs.Queues.{blocked_hits, hits}
use Rattle.tracker.specs.Tracked.{Tracked}
use Rattle.tracker.proofs.Room.{unread}
use Rattle.tracker.proofs.Draining.{woken_more}
use Rattle.tracker.proofs.Parting.{tracked_part, tracked_gone, hits_drop}
use Rattle.tracker.proofs.tracker.Tracker.leave.Goals as goal

pub loop-x-preserved : goal.loop-x-preserved
loop-x-preserved c =
    let xs = c.args.accesses.now in
    let i = c.loop-x.x-index in
    let s = c.args.seat in
    let lt : i < length xs = omega arith in
    let cut : drop i xs ≡ get_or xs i unread ∷ drop (i + 1) xs = drop-cons xs i unread lt ∙ ap (λ n. get_or xs i unread ∷ drop n xs) (sym (add-one i)) in (
      (λ pre post k free.
          let was = subst (λ (ys : List Access). Tracked c.loop-x.self (with pre s ys post)) cut (c.loop-x.invariant.0 pre post k free) in
          let none : hits pre (drop i xs) ≡ false = hits_drop pre xs i (sym (blocked_hits pre xs) ∙ free) in
          tracked_part c.loop-x.self c.depart.new.self pre post s (get_or xs i unread) (drop (i + 1) xs) was (subst (λ (ys : List Access). hits pre ys ≡ false) cut none) c.depart.ensures.departed),
      woken_more c.args.self.now c.loop-x.self c.depart.new.self c.args.order.now c.args.span.now c.loop-x.span c.depart.new.span c.loop-x.invariant.1 c.depart.ensures.woken,
    )

pub returns : goal.returns
returns c =
    let xs = c.args.accesses.now in
    let i = c.loop-x.x-index in
    let s = c.args.seat in
    let all : drop i xs ≡ [] = drop_all i xs (omega arith) in
    record {
      tables = λ pre post k free. tracked_gone c.loop-x.self pre post s (subst (λ (ys : List Access). Tracked c.loop-x.self (with pre s ys post)) all (c.loop-x.invariant.0 pre post k free));
      woken = λ v k. c.loop-x.invariant.1.covered;
      covered = c.loop-x.invariant.1.stays;
    }
