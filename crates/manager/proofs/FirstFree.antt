-- The first free seat, before a task enters it. Assumes nothing.
--
--   first_free, first_low    it is free, and one of the table's
--   not_listed, few_listed   it is not listed, and fewer than 256 are
--   ready_room               the ready line has room for it
--   seat_absent, few_tasks   no task of the roll has it, and there are fewer than 256
use Rattle.std.proofs.Common.{◌≡◌, ℕ, ◌<◌, ◌≤◌, true, false, ◌&&◌, eqb, ltb, List, [], ◌∷◌, map, length, sym, refl, ap, ◌∙◌, inl, inr, arith}
use lib.ListN.{length-map}
use Rattle.std.proofs.lemmas.Bool.{ltb-true, and_parts, or_parts, cases_Bool}
use Rattle.roll.specs.Roll.{Entry}
use Rattle.roll.specs.Tables.{tally}
use Rattle.acceptance.specs.declared.Acceptance.{Acceptance}
use Rattle.acceptance.specs.Listed.{member, listed, below, place_of}
use Rattle.acceptance.proofs.Laws.{before_place, listed_apart, listed_low}
use Rattle.claims.specs.Queues.{bares, AbsentSeat}
use Rattle.claims.proofs.Alike.{length_bares}
use Rattle.manager.specs.declared.inner.Inner.{Inner}
use Rattle.manager.specs.Lines.{occurrences}
use Rattle.manager.specs.Model.{seat_at, entry_of, roll_of, ready_of, free_of}
use Rattle.manager.specs.Sound.{free_at, ready_at, Seated}
use Rattle.roll.proofs.Split.{once_itself}
use Rattle.manager.proofs.Occurs.{occurrences-++, occurrences_absent, counted, fits_more, line_room}
use Rattle.order.proofs.Update.{eqb_flip}
use Rattle.manager.proofs.Seats.{seat_unlisted, ready_low}
use Rattle.manager.proofs.Standings.{free_not_ready}

-- a seat that is not in the list is not on the roll that the list makes
absent_map : (f : ℕ → Entry) → ((t : ℕ) → (f t).job.seat ≡ t) → (s : ℕ) (l : List ℕ) → member s l ≡ false → AbsentSeat s (bares (map f l))
absent_map f own s [] h = tt
absent_map f own s (x ∷ l) h =
    let parts = or_parts (eqb s x) (member s l) h in
    (ap (λ (t : ℕ). eqb t s) (own x) ∙ eqb_flip s x parts.0, absent_map f own s l parts.1)

-- each seat is listed at most once
listed_once : (a : Acceptance) (t : ℕ) → occurrences t (listed a) ≤ 1
listed_once a t = elim (cases_Bool (member t (listed a))) [ inl there ↦ once there | inr none ↦ omega (arith, occurrences_absent t (listed a) none) ]
  where
    once : member t (listed a) ≡ true → occurrences t (listed a) ≤ 1
    once h =
        let split = before_place a t h in
        let apart = listed_apart a t (below a (place_of a t)) split.0 split.1 in
        rw split.1
        (omega (arith, occurrences-++ t (below a (place_of a t)) (t ∷ split.0), occurrences_absent t (below a (place_of a t)) apart.0, occurrences_absent t split.0 apart.1, once_itself t))

module _ (i : Inner) (seated : Seated i) (s : ℕ) (rest : List ℕ) (first : free_of i ≡ s ∷ rest) where
  -- the first of the free line is a seat of the table, and free
  pub first_there : (ltb s i.seats ≡ true) × (free_at i s ≡ true)
  first_there =
      let line : occurrences s (s ∷ rest) ≡ tally (ltb s i.seats && free_at i s) = ap (occurrences s) (sym first) ∙ seated.freed s in
      and_parts (ltb s i.seats) (free_at i s) (counted (ltb s i.seats && free_at i s) (omega (arith, once_itself s)))

  pub first_free : free_at i s ≡ true
  first_free = first_there.1

  pub first_low : s < 256
  first_low = let lt = ltb-true s i.seats first_there.0 in let few = seated.few_seats in omega arith

  -- so it is not listed
  pub not_listed : member s (listed i.order) ≡ false
  not_listed = seat_unlisted i seated s first_free

  -- and fewer than 256 are
  pub few_listed : length (listed i.order) < 256
  few_listed = fits_more (listed i.order) (listed_once i.order) past s first_low none
    where
      past : (t : ℕ) → 256 ≤ t → occurrences t (listed i.order) ≡ 0
      past t le = elim (cases_Bool (member t (listed i.order))) [ inl there ↦ absurd (omega (arith, listed_low i.order t there)) | inr gone ↦ occurrences_absent t (listed i.order) gone ]

      none : occurrences s (listed i.order) ≡ 0
      none = occurrences_absent s (listed i.order) not_listed

  pub few_tasks : length (bares (roll_of i)) < 256
  few_tasks = omega (arith, length_bares (roll_of i), length-map (listed i.order) (λ (t : ℕ). entry_of (seat_at i t) t), few_listed)

  -- the ready line has room for it
  pub ready_room : length (ready_of i) < 256
  ready_room = line_room (ready_of i) (ready_at i) seated.lined (ready_low i seated) s first_low (free_not_ready (seat_at i s).standing first_free)

  -- and no task has it
  pub seat_absent : AbsentSeat s (bares (roll_of i))
  seat_absent = absent_map (λ (t : ℕ). entry_of (seat_at i t) t) (λ t. refl) s (listed i.order) not_listed
