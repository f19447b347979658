use Rattle.std.proofs.Common.{◌≡◌, ℕ, ◌+◌, ◌%◌, ◌<◌, ◌≤◌, get_or, sym, arith}
use Rattle.task.proofs.Some.{blank}
use Rattle.roll.specs.Tables.{fresh}
use Rattle.tracker.specs.Table.{live_at, live_ways}
use Rattle.tracker.specs.Tracked.{sized}
use Rattle.tracker.proofs.Tables.{most_live}
use Rattle.tracker.proofs.Crowds.{crowded_none, needs_most, needs_more, needs_all, fresh_more, fresh_all, fresh_so_far}
use Rattle.tracker.proofs.tracker.Tracker.demand.Goals as goal

-- nothing is counted yet
pub loop-access-init : goal.loop-access-init
loop-access-init c v t short =
    let w = c.args.self.now.table in (
      omega arith,
      (λ z lt. none (get_or c.none.result.counts z 0) (fresh (sized 0 0) v z c.args.accesses.now) (c.none.ensures z lt)),
      sym (crowded_none (λ z. live_at w z + get_or c.none.result.counts z 0) (λ z lt.
          room (live_at w z) (live_ways w z 8) (get_or c.none.result.counts z 0) (t.table.counted z lt) (most_live w z 8) (c.none.ensures z lt))),
    )
  where
    none : (m n : ℕ) → m ≡ 0 → m + n ≡ n
    none m n e = omega (arith, e)

    room : (l k m : ℕ) → l ≡ k → k ≤ 8 → m ≡ 0 → l + m ≤ 8
    room l k m e most z = omega (arith, e, most, z)

-- this access is counted
pub loop-access-preserved : goal.loop-access-preserved
loop-access-preserved c v t short =
    let xs = c.args.accesses.now in
    let i = c.loop-access.access-index in
    let d = c.loop-access.demand in
    let d' = c.count_in.new.demand in
    let z₀ = (get_or xs i blank).address % 64 in
    let h = c.loop-access.invariant v t short in
    let lt = c.loop-access-test.true in
    let few : d.versions < 255 = (let k = needs_most v xs in omega (arith, k, h.0, short)) in
    let low : get_or d.added.counts z₀ 0 < 255 = (let k = fresh_so_far v z₀ xs i (get_or d.added.counts z₀ 0) (h.1 z₀ (omega arith)) in omega (arith, k, short)) in (
      needs_more v xs i d.versions d'.versions lt h.0 (c.count_in.ensures.versions v t few),
      (λ z zl. fresh_more v z xs i (get_or d.added.counts z 0) (get_or d'.added.counts z 0) lt (h.1 z zl) (c.count_in.ensures.added v t low z)),
      c.count_in.ensures.full low h.2,
    )

-- every access is counted
pub returns : goal.returns
returns c =
    let xs = c.args.accesses.now in
    let i = c.loop-access.access-index in
    let d = c.loop-access.demand in
    let le = c.loop-access-test.false in
    record {
      versions = λ v t short. needs_all v xs i d.versions le (c.loop-access.invariant v t short).0;
      added = λ v t short z lt. fresh_all v z xs i (get_or d.added.counts z 0) le ((c.loop-access.invariant v t short).1 z lt);
      full = λ v t short. (c.loop-access.invariant v t short).2;
    }
