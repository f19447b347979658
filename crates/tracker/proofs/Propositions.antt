-- That the tables stand for a roll can be shown in one way only: whoever keeps it as a fact can have it back. Assumes nothing.
use Rattle.std.proofs.Common.{ℕ}
use std.HLevel.{⊥_prop}
use base.Stored.{Coded, coded_ℕ, coded_bool, coded_list, coded×, coded_via}
use native.Mathlib.Bridge.{le_prop}
use denote.Struct.Props.{≡_prop}
use Rattle.claims.specs.Claims.{State}
use Rattle.claims.specs.Queues.{map_of}
use Rattle.claims.specs.contracts.Claim.{the_row}
use Rattle.roll.specs.Roll.{Roll}
use Rattle.tracker.specs.declared.ways.AddressTable.{AddressTable}
use Rattle.tracker.specs.declared.tracker.Tracker.{Tracker}
use Rattle.tracker.specs.Table.{Table}
use Rattle.tracker.specs.Tracked.{Tracked}

-- what a queue comes to, by its parts
coded_state : Coded State
coded_state = coded_via (coded× coded_ℕ (coded× coded_bool (coded_list the_row.coded))) (λ st. (st.holders, (st.writing, st.waiting)))
    (λ x y e. λ i. record { holders = (e i).0; writing = (e i).1.0; waiting = (e i).1.1 })

pub table_prop : (w : AddressTable) (M : ℕ → State) → IsProp (Table w M)
table_prop w M p q = λ k. record {
  here = λ i lt live. ≡_prop coded_state _ _ (p.here i lt live) (q.here i lt live) k;
  there = λ a some none. ⊥_prop (p.there a some none) (q.there a some none) k;
  apart = λ i j li lj vi vj e. ≡_prop coded_ℕ _ _ (p.apart i j li lj vi vj e) (q.apart i j li lj vi vj e) k;
  home = λ i lt live. ≡_prop coded_ℕ _ _ (p.home i lt live) (q.home i lt live) k;
  idle = λ i lt none. ≡_prop coded_state _ _ (p.idle i lt none) (q.idle i lt none) k;
  absent = λ a none. ≡_prop coded_state _ _ (p.absent a none) (q.absent a none) k;
  counted = λ z lt. ≡_prop coded_ℕ _ _ (p.counted z lt) (q.counted z lt) k;
}

pub tracked_prop : (t : Tracker) (v : Roll) → IsProp (Tracked t v)
tracked_prop t v p q = λ k. record {
  table = table_prop t.table (map_of v) p.table q.table k;
  counts = λ pre post e s. ≡_prop coded_ℕ _ _ (p.counts pre post e s) (q.counts pre post e s) k;
  versions = ≡_prop coded_ℕ _ _ p.versions q.versions k;
  addresses = λ z lt. ≡_prop coded_ℕ _ _ (p.addresses z lt) (q.addresses z lt) k;
  low = λ pre post e s. le_prop (p.low pre post e s) (q.low pre post e s) k;
  short = λ pre post e s. le_prop (p.short pre post e s) (q.short pre post e s) k;
  apart = λ pre post e s. ≡_prop coded_bool _ _ (p.apart pre post e s) (q.apart pre post e s) k;
  seats = ≡_prop coded_bool _ _ p.seats q.seats k;
  few = le_prop p.few q.few k;
}
