-- The manager's fields with one seat's record replaced. Assumes nothing.
--   with_record     the record of a seat replaced, and the ready line
--   record_back     where the record is the one that was there, nothing has changed
--   record_set, record_other, each_record    the records after it
use Rattle.std.proofs.Common.{◌≡◌, ℕ, ◌<◌, Bool, length, get_or, set, vec_items, vec_len, Vec, sym, refl, ap, ◌∙◌, inl, inr}
use mathlib.Core.HLevel.{is_prop→PathP}
use native.Mathlib.Nat.{ℕ_set}
use lib.Seq.{set-get_or}
use Rattle.std.specs.Vec.{with_item}
use Rattle.std.proofs.lemmas.Bool.{cases_eq}
use Rattle.ring.specs.declared.Ring.{Ring}
use Rattle.seat.specs.declared.seats.Seat.{Seat}
use Rattle.manager.specs.declared.inner.Inner.{Inner}
use Rattle.manager.specs.Model.{seat_at}
use Rattle.manager.proofs.Seats.{seat_set, seat_other}

-- the fields with another record for a seat, and this ready line
abbrev pub with_record : Inner → Ring ℕ → ℕ → Seat → Inner
with_record i line s r = record {
  table = record { records = with_item i.table.records s r };
  order = i.order;
  ready = line;
  free = i.free;
  tracker = i.tracker;
  seats = i.seats;
  versions = i.versions;
}

-- a vector with the element that it has is itself
item_back : {X Z : Type 0} (v : Vec X Z) (s : ℕ) (w : X) → w ≡ get_or v.items s w → with_item v s w ≡ v
item_back v s w e j =
    let same : set v.items s w ≡ v.items = ap (λ x. set v.items s x) e ∙ set-get_or v.items s w in
    record {
      ptr = v.ptr;
      len = v.len;
      cap = v.cap;
      alloc = v.alloc;
      items = same j;
      ok = (is_prop→PathP (λ k. v.len ≡ length (same k)) (λ k. ℕ_set _ _) (with_item v s w).ok.0 v.ok.0 j, v.ok.1);
      small = v.small;
    }

-- the fields with the record that a seat has are as they were
pub record_back : (i : Inner) (s : ℕ) (r : Seat) → r ≡ get_or (vec_items i.table.records) s r → with_record i i.ready s r ≡ i
record_back i s r e j = record {
  table = record { records = item_back i.table.records s r e j };
  order = i.order;
  ready = i.ready;
  free = i.free;
  tracker = i.tracker;
  seats = i.seats;
  versions = i.versions;
}

-- the records after one is replaced
module _ (i : Inner) (line : Ring ℕ) (s : ℕ) (r : Seat) (full : vec_len i.table.records ≡ 256) (low : s < 256) where
  pub record_set : seat_at (with_record i line s r) s ≡ r
  record_set = seat_set i (with_record i line s r) s r refl full low

  pub record_other : (t : ℕ) → (t ≡ s → ⊥) → seat_at (with_record i line s r) t ≡ seat_at i t
  record_other = seat_other i (with_record i line s r) s r refl

  -- a test that the new record passes as the old one did gives the same of each seat
  pub each_record : (p : Seat → Bool) → p r ≡ p (seat_at i s) → (t : ℕ) → p (seat_at (with_record i line s r) t) ≡ p (seat_at i t)
  each_record p e t = elim (cases_eq t s) [
    | inl here ↦ ap (λ n. p (seat_at (with_record i line s r) n)) here ∙ ap p record_set ∙ e ∙ ap (λ n. p (seat_at i n)) (sym here)
    | inr other ↦ ap p (record_other t other)
  ]
