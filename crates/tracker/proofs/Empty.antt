-- Tables that no task is in. Assumes nothing.
use Rattle.std.proofs.Common.{◌≡◌, ℕ, zero, suc, ◌+◌, ◌*◌, ◌<◌, ◌≤◌, ltb, [], sym, refl, ap, ◌∙◌, arith}
use Rattle.roll.specs.Tables.{tally}
use Rattle.claims.specs.Claims.{State, vacant}
use Rattle.claims.specs.Queues.{map_of}
use Rattle.tracker.specs.State.{state_of}
use Rattle.tracker.specs.Table.{Table, Live, lock_at, live_at, live_ways}
use Rattle.tracker.specs.Tracked.{Tracked}
use Rattle.tracker.specs.declared.ways.AddressTable.{AddressTable}
use Rattle.tracker.specs.declared.tracker.Tracker.{Tracker}
use Rattle.tracker.proofs.Tracking.{made}

-- a table of which no way is live
pub empty_table : (w : AddressTable) → ((i : ℕ) → i < 512 → state_of (lock_at w i) ≡ vacant) → ((z : ℕ) → z < 64 → live_at w z ≡ 0) → Table w (map_of [])
empty_table w none live =
    let holders : (i : ℕ) → i < 512 → (state_of (lock_at w i)).holders ≡ 0 = λ i lt. ap (λ (s : State). s.holders) (none i lt) in
    let dead : (i : ℕ) → i < 512 → Live w i → ⊥ = λ i lt l. (let h = holders i lt in omega (arith, h, l)) in
    record {
      here = λ i lt l. absurd (dead i lt l);
      there = λ a h no. omega (arith, h);
      apart = λ i j lt lt' l l' e. absurd (dead i lt l);
      home = λ i lt l. absurd (dead i lt l);
      idle = λ i lt z. none i lt;
      absent = λ a z. refl;
      counted = λ z zl. live z zl ∙ sym (no_live holders z zl 8 (omega arith));
    }
  where
    no_live : ((i : ℕ) → i < 512 → (state_of (lock_at w i)).holders ≡ 0) → (z : ℕ) → z < 64 → (n : ℕ) → n ≤ 8 → live_ways w z n ≡ 0
    no_live h z zl zero le = refl
    no_live h z zl (suc n) le =
        let k = no_live h z zl n (omega arith) in
        let e : tally (ltb 0 (state_of (lock_at w (z + 64 * n))).holders) ≡ 0 = ap (λ m. tally (ltb 0 m)) (h (z + 64 * n) (omega arith)) in
        omega (arith, k, e)

-- and tables of which no version is in use stand for the empty roll
pub empty : (t : Tracker) → Table t.table (map_of []) → ((z : ℕ) → z < 64 → live_at t.table z ≡ 0) → t.used ≡ 0 → Tracked t []
empty t table live used = made t [] (map_of []) refl table tt used live tt (omega arith)
