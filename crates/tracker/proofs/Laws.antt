-- What the tables say of a seat, for those that use them. Assumes nothing.
use Rattle.std.proofs.Common.{◌≡◌, ℕ, not, eqb, [], ◌∷◌, ◌++◌, refl, ap, ◌∙◌}
use Rattle.roll.specs.Roll.{Entry, Roll, blocked}
use Rattle.claims.specs.Claims.{State}
use Rattle.claims.specs.Queues.{bare, bares, stuck_of}
use Rattle.claims.proofs.Alike.{map_alike}
use Rattle.claims.proofs.Counts.{none_stuck}
use Rattle.tracker.specs.Tracked.{Tracked, blocked_at}
use Rattle.tracker.specs.declared.tracker.Tracker.{Tracker}
use Rattle.tracker.proofs.Entries.{Distinct, distinct_of, apart_of, apart_before, apart_after}

-- nothing of a task waits exactly if no earlier task blocks it
pub tracked_blocked : (t : Tracker) (pre post : Roll) (e : Entry) → Tracked t (pre ++ (e ∷ post)) → eqb (blocked_at t e.job.seat) 0 ≡ not (blocked pre e.job.accesses)
tracked_blocked t pre post e k =
    let d : Distinct (pre ++ (e ∷ post)) = distinct_of (pre ++ (e ∷ post)) k.seats in
    let c = k.counts pre post e refl in
    ap (λ n. eqb n 0) (c ∙ ap (λ (M : ℕ → State). stuck_of M e.job.seat e.job.accesses) (map_alike (pre ++ (e ∷ post)) (pre ++ (bare e.job.seat e.job.accesses ∷ post)) (same pre)))
    ∙ none_stuck pre post e.job.seat e.job.accesses (apart_before pre post e d) (apart_after pre post e d) (apart_of e.job.accesses (k.apart pre post e refl))
  where
    same : (p : Roll) → bares (p ++ (e ∷ post)) ≡ bares (p ++ (bare e.job.seat e.job.accesses ∷ post))
    same [] = refl
    same (x ∷ p) = ap (λ (u : Roll). bare x.job.seat x.job.accesses ∷ u) (same p)
