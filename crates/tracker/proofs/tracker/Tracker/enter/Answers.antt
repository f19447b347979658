use Rattle.std.proofs.Common.{◌≡◌, ◌<◌, not, List, [], length, take, sym, ap, ◌∙◌, subst, arith, length-take, take_all, rules}
use Rattle.std.proofs.Math.Bool.{not-not}
use Rattle.std.proofs.lemmas.List.{take_more}
use Rattle.task.specs.declared.Access.{Access}
use Rattle.claims.specs.Queues.{bare}
use Rattle.claims.proofs.Joins.{plus, apart_take}
use Rattle.tracker.specs.Tracked.{Tracked}
use Rattle.tracker.proofs.Laws.{tracked_blocked}
use Rattle.tracker.proofs.Tracking.{tracked_start}
use Rattle.tracker.proofs.Room.{unread, version_at, room_at}
use Rattle.tracker.proofs.tracker.Tracker.enter.Goals as goal

pub loop-x-preserved : goal.loop-x-preserved
loop-x-preserved c v versions k apart short most fits =
    let xs = c.args.accesses.now in
    let i = c.loop-x.x-index in
    let s = c.args.seat in
    let lt : i < length xs = omega arith in
    let was = c.loop-x.invariant v versions k apart short most fits in
    let n : length (take i xs) < 15 = simp length-take (omega (arith, short, lt)) in
    subst (λ (ys : List Access). Tracked c.join.new.self (plus v s ys)) (sym (take_more xs i unread lt))
    (c.join.ensures v (take i xs) was (apart_take xs i unread lt apart) n (room_at versions v s xs i lt fits) (version_at versions v s xs i lt most fits))

pub returns : goal.returns
returns c v versions k absent few apart short most fits =
    let xs = c.args.accesses.now in
    let i = c.loop-x.x-index in
    let s = c.args.seat in
    let e = c.clear.ensures in
    let low : s < 256 = search rules in
    let start = tracked_start c.args.self.now c.clear.new.self v s k absent few low e.table e.versions e.others e.own in
    let all : take i xs ≡ xs = take_all i xs (omega arith) in
    let end : Tracked c.loop-x.self (plus v s xs) = subst (λ (ys : List Access). Tracked c.loop-x.self (plus v s ys)) all (c.loop-x.invariant v versions start apart short most fits) in
    (c.is_blocked.ensures ∙ ap not (tracked_blocked c.loop-x.self v [] (bare s xs) end) ∙ not-not _, end)
