use Rattle.std.proofs.Common.{◌≡◌, ℕ, ◌+◌, ◌<◌, List, [], get_or, Some, None, Option, sym, ap, ◌∙◌, ap₂}
use Rattle.task.specs.declared.Access.{Access}
use Rattle.roll.specs.Roll.{Roll}
use Rattle.roll.specs.Tables.{fresh, occupied, crowded}
use Rattle.tracker.specs.Table.{live_at}
use Rattle.tracker.specs.Tracked.{Tracked, sized, unless}
use Rattle.tracker.specs.declared.faults.Demand.{Demand}
use Rattle.tracker.specs.declared.tracker.Tracker.{Tracker}
use Rattle.tracker.proofs.Crowds.{missing_is, stall_short, stall_full, crowded_alike}
use Rattle.tracker.proofs.tracker.Tracker.stall.Goals as goal

-- the lowest set without room, as the demand and the tables have it
full_now : (t : Tracker) (v : Roll) (xs : List Access) (d : Demand) (r : Option ℕ) → Tracked t v → r ≡ d.full →
    d.full ≡ crowded (λ z. live_at t.table z + get_or d.added.counts z 0) → ((z : ℕ) → z < 64 → get_or d.added.counts z 0 ≡ fresh (sized 0 0) v z xs) →
    r ≡ crowded (λ z. occupied (sized 0 0) z [] v + fresh (sized 0 0) v z xs)
full_now t v xs d r k e full added =
    e ∙ full ∙ crowded_alike (λ z. live_at t.table z + get_or d.added.counts z 0) (λ z. occupied (sized 0 0) z [] v + fresh (sized 0 0) v z xs)
    (λ z lt. ap₂ ◌+◌ (k.addresses z lt) (added z lt))

-- too few versions
pub returns-then-missing-gt0 : goal.returns-then-missing-gt0
returns-then-missing-gt0 c v t short =
    let e = missing_is c.args.versions _ _ _ _ v c.args.accesses.now
    (c.demand-demand.ensures.versions v t short) t.versions c.saturating_sub-free.ensures c.saturating_sub-missing.ensures in
    ap unless (stall_short c.args.versions v c.args.accesses.now c.saturating_sub-missing.result e c.if-missing-gt0.true)

-- a set has no room
pub returns-in-Some : goal.returns-in-Some
returns-in-Some c v t short =
    let e = missing_is c.args.versions _ _ _ _ v c.args.accesses.now
    (c.demand-demand.ensures.versions v t short) t.versions c.saturating_sub-free.ensures c.saturating_sub-missing.ensures in
    ap unless
    (stall_full c.args.versions v c.args.accesses.now c.saturating_sub-missing.result (Some c.in-Some.set) e c.if-missing-gt0.false
    (full_now c.args.self.now v c.args.accesses.now c.demand-demand.result (Some c.in-Some.set) t (sym c.in-Some.is)
    (c.demand-demand.ensures.full v t short) (c.demand-demand.ensures.added v t short)))

-- every set has
pub returns-in-None : goal.returns-in-None
returns-in-None c v t short =
    let e = missing_is c.args.versions _ _ _ _ v c.args.accesses.now
    (c.demand-demand.ensures.versions v t short) t.versions c.saturating_sub-free.ensures c.saturating_sub-missing.ensures in
    ap unless
    (stall_full c.args.versions v c.args.accesses.now c.saturating_sub-missing.result None e c.if-missing-gt0.false
    (full_now c.args.self.now v c.args.accesses.now c.demand-demand.result None t (sym c.in-None.is)
    (c.demand-demand.ensures.full v t short) (c.demand-demand.ensures.added v t short)))
