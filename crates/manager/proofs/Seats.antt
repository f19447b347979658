-- One seat's record, and its entry on the roll. Assumes nothing.
--   roll_found, roll_none       what the roll has for a seat
--   ready_low                   no seat beyond the table is ready
--   lent_is                     a record that the table lends
--   seat_set, seat_other        the records after one is replaced
--   roll_changed, bares_same    the roll after one record's standing changed
use Rattle.std.proofs.Common.{◌≡◌, ℕ, ◌<◌, ◌≤◌, inl, inr, true, false, not, List, map, length, get_or, set, Some, None, vec_items, vec_len, sym, refl, ap, ◌∙◌, arith, get_or-set_other, get_or-set_same}
use Rattle.std.proofs.lemmas.Bool.{cases_Bool}
use Rattle.std.proofs.lemmas.List.{get_or_read_under}
use Rattle.acceptance.specs.declared.Acceptance.{Acceptance}
use Rattle.acceptance.specs.Listed.{member, listed}
use Rattle.acceptance.proofs.Laws.{before_place, listed_apart, listed_low}
use Rattle.claims.specs.Queues.{bares}
use Rattle.claims.proofs.Alike.{bares_change}
use Rattle.roll.specs.Roll.{Standing, Entry, stand, find, change}
use Rattle.seat.specs.declared.seats.Seat.{Seat}
use Rattle.manager.specs.declared.inner.Inner.{Inner}
use Rattle.manager.specs.Model.{vacant, seat_at, entry_of, roll_of}
use Rattle.manager.specs.Sound.{Seated, free_at, ready_at}
use Rattle.manager.proofs.Rolls as rolls
use Rattle.manager.proofs.Standings.{free_not_ready}

-- each entry that a record makes has its own seat
pub entries_own : (i : Inner) (t : ℕ) → (entry_of (seat_at i t) t).job.seat ≡ t
entries_own i t = refl

module _ (i : Inner) (seated : Seated i) where
  -- a seat that is not free is listed, and a free one is not
  pub seat_listed : (s : ℕ) → free_at i s ≡ false → member s (listed i.order) ≡ true
  seat_listed s h = seated.listed_seats s ∙ ap not h

  pub seat_unlisted : (s : ℕ) → free_at i s ≡ true → member s (listed i.order) ≡ false
  seat_unlisted s h = seated.listed_seats s ∙ ap not h

  -- a seat that is not free is below 256
  pub seat_low : (s : ℕ) → free_at i s ≡ false → s < 256
  seat_low s h = listed_low i.order s (seat_listed s h)

  -- the roll has the entry of a seat that is not free, and none of a free one
  pub roll_found : (s : ℕ) → free_at i s ≡ false → find s (roll_of i) ≡ Some (entry_of (seat_at i s) s)
  roll_found s h = rolls.find_there (λ (t : ℕ). entry_of (seat_at i t) t) (entries_own i) s (listed i.order) (seat_listed s h)

  pub roll_none : (s : ℕ) → free_at i s ≡ true → find s (roll_of i) ≡ None
  roll_none s h = rolls.find_none (λ (t : ℕ). entry_of (seat_at i t) t) (entries_own i) s (listed i.order) (seat_unlisted s h)

-- no seat from 256 on is ready
pub ready_low : (i : Inner) → Seated i → (t : ℕ) → 256 ≤ t → ready_at i t ≡ false
ready_low i k t le =
    elim (cases_Bool (free_at i t)) [
      | inl free ↦ free_not_ready (seat_at i t).standing free
      | inr taken ↦ absurd (omega (arith, seat_low i k t taken))
    ]

-- the record that the table lends for a seat is the seat's
pub lent_is : (i : Inner) (s : ℕ) (x : Seat) → vec_len i.table.records ≡ 256 → s < 256 → x ≡ get_or (vec_items i.table.records) s x → x ≡ seat_at i s
lent_is i s x full low e = get_or_read_under (vec_items i.table.records) s 256 x vacant e low (sym full ∙ i.table.records.ok.0)

-- the record that was replaced, and the others
pub seat_set : (i i' : Inner) (s : ℕ) (r : Seat) → vec_items i'.table.records ≡ set (vec_items i.table.records) s r →
    vec_len i.table.records ≡ 256 → s < 256 → seat_at i' s ≡ r
seat_set i i' s r e full low =
    let long = i.table.records.ok.0 in
    let lt : s < length (vec_items i.table.records) = omega arith in
    rw e (get_or-set_same (vec_items i.table.records) s r vacant lt)

pub seat_other : (i i' : Inner) (s : ℕ) (r : Seat) → vec_items i'.table.records ≡ set (vec_items i.table.records) s r →
    (t : ℕ) → (t ≡ s → ⊥) → seat_at i' t ≡ seat_at i t
seat_other i i' s r e t h = rw e (get_or-set_other (vec_items i.table.records) s t r vacant h)

-- one seat's record changes its standing, and the order stays
module _ (i i' : Inner) (s : ℕ) (st : Standing) (order : i'.order ≡ i.order) (there : member s (listed i.order) ≡ true)
    (other : (t : ℕ) → (t ≡ s → ⊥) → seat_at i' t ≡ seat_at i t) (here : entry_of (seat_at i' s) s ≡ stand st (entry_of (seat_at i s) s)) where
  -- so does its entry on the roll
  pub roll_changed : roll_of i' ≡ change s st (roll_of i)
  roll_changed =
      let f : ℕ → Entry = λ t. entry_of (seat_at i t) t in
      let g : ℕ → Entry = λ t. entry_of (seat_at i' t) t in
      let split = before_place i.order s there in
      let apart = listed_apart i.order s _ split.0 split.1 in
      ap (λ (a : Acceptance). map g (listed a)) order
      ∙ ap (λ (l : List ℕ). map g l) split.1
      ∙ rolls.map_change f (entries_own i) g s st _ split.0 apart.0 apart.1 (λ t h. ap (λ (r : Seat). entry_of r t) (other t h)) here
      ∙ ap (λ (l : List ℕ). change s st (map f l)) (sym split.1)

  -- and the seats and accesses of the roll stay
  pub bares_same : bares (roll_of i') ≡ bares (roll_of i)
  bares_same = ap bares roll_changed ∙ bares_change s st (roll_of i)
