use Rattle.std.proofs.Common.{◌≡◌, ℕ, ◌+◌, ◌<◌, ◌≤◌, length, get_or, drop}
use Rattle.roll.specs.Roll.{Roll}
use Rattle.roll.specs.Tables.{needs, fresh, crowded}
use Rattle.tracker.specs.Table.{live_at}
use Rattle.tracker.specs.Tracked.{Tracked, sized}
use Rattle.tracker.proofs.tracker.Tracker.demand.Given as goal

-- with the accesses that are left the counts are those of the whole list, and the lowest set without room is known
abbrev pub invariant-loop-access : goal.invariant-loop-access
invariant-loop-access l =
    (v : Roll) → Tracked l.self v → length l.accesses ≤ 15 →
    (l.demand.versions + needs v (drop l.access-index l.accesses) ≡ needs v l.accesses)
    × ((z : ℕ) → z < 64 → get_or l.demand.added.counts z 0 + fresh (sized 0 0) v z (drop l.access-index l.accesses) ≡ fresh (sized 0 0) v z l.accesses)
    × (l.demand.full ≡ crowded (λ z. live_at l.self.table z + get_or l.demand.added.counts z 0))
