use Rattle.std.proofs.Common.{◌≡◌, ℕ, ◌+◌, ◌<◌, min, cond, eqb, ltb, length, get_or, Some, Option, vec_items, sym, ap, ◌∙◌, subst, arith}
use Rattle.std.specs.Option.{option_map_or}
use Rattle.std.proofs.lemmas.List.{get_or_read}
use Rattle.roll.specs.Tables.{tally}
use Rattle.tracker.specs.Table.{live_at}
use Rattle.tracker.specs.declared.faults.Demand.{Demand}
use Rattle.tracker.specs.declared.faults.SetCounts.{SetCounts}
use Rattle.tracker.proofs.Crowds.{crowded_adds}
use Rattle.tracker.proofs.tracker.Tracker.count_in.Goals as goal
use Rattle.tracker.proofs.tracker.Tracker.count_in.Goals.{then-takes_version, else-takes_version}

-- a new address is counted in its set
pub returns-then-not-live-clause-full : goal.returns-then-not-live-clause-full
returns-then-not-live-clause-full c low was =
    let w = c.args.self.now.table in
    let d = c.args.demand.now in
    let d₁ = c.if-takes_version.demand in
    let d' = c.add.new.self in
    let s = c.of-set.result.number in
    let same : (d₁.added ≡ d.added) × (d₁.full ≡ d.full) = elim c.if-takes_version.branch [
      | then-takes_version x ↦ (ap (λ (d : Demand). d.added) x.demand-is, ap (λ (d : Demand). d.full) x.demand-is)
      | else-takes_version x ↦ (ap (λ (d : Demand). d.added) x.demand-is, ap (λ (d : Demand). d.full) x.demand-is)
    ] in
    let inside : s < length (vec_items w.live) = omega (arith, w.live.ok.0, w.counted, c.of-set.result.low) in
    let lives = get_or_read (vec_items w.live) s c.index.result.now inside c.index.ensures 0 in
    let few : get_or d₁.added.counts s 0 < 255 = subst (λ (q : SetCounts). get_or q.counts s 0 < 255) (sym same.0) (subst (λ n. get_or d.added.counts n 0 < 255) (sym c.of-set.ensures) low) in
    crowded_adds (λ z. live_at w z) d.added.counts d'.added.counts s c.index.result.now d.full d'.full c.of-set.result.low lives
    (λ z. c.add.ensures.added few z ∙ ap (λ (q : SetCounts). get_or q.counts z 0 + tally (eqb s z)) same.0)
    was
    (c.add.ensures.full ∙ ap (λ (o : Option ℕ). cond (ltb 8 (c.index.result.now + get_or d'.added.counts s 0)) (Some (option_map_or (λ z. min z s) o s)) o) same.1)
