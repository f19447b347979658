-- The fields after a task has left the roll. Assumes nothing.
--   free_room    the free line has room for its seat
--   left_all     the state is that without the task, its seat is free, and what holds of the fields then
use Rattle.std.proofs.Common.{◌≡◌, ℕ, ◌+◌, ◌<◌, Bool, true, false, not, ◌&&◌, ◌||◌, eqb, ltb, List, [], ◌∷◌, ◌++◌, map, length, set, vec_items, vec_len, sym, refl, ap, ◌∙◌, subst, ap₂, inl, inr, append_assoc, arith}
use mathlib.Core.List.{map-append}
use Rattle.std.proofs.lemmas.Bool.{eqb-true, eqb-false, ne_eqb, lt-ltb, le-ltb, both_ways, and_left, and_right, and_from, or_cases, or_from, or_parts, not-false, not-true, not_from_true, cases_eq}
use Rattle.acceptance.specs.Listed.{member, removed, below, listed, place_of}
use Rattle.acceptance.proofs.Laws.{before_place, listed_apart, removed_middle}
use Rattle.claims.specs.Queues.{bare, bares}
use Rattle.claims.proofs.Alike.{bares-++, blocked_bares}
use Rattle.ring.specs.declared.Ring.{Ring}
use Rattle.ring.specs.Model.{contents_of}
use Rattle.roll.specs.Roll.{Entry, Roll, blocked, without}
use Rattle.roll.specs.Tables.{tally}
use Rattle.roll.specs.Calls.{left}
use Rattle.seat.specs.declared.Standing.TheVariants.{Free, Running}
use Rattle.seat.specs.declared.Phase.TheVariants.{Done}
use Rattle.seat.specs.declared.seats.Seat.{Seat}
use Rattle.task.specs.declared.Access.{Access}
use Rattle.task.specs.Task.{accesses_of}
use Rattle.tracker.specs.declared.span.Span.{Span}
use Rattle.tracker.specs.Covered.{Covered}
use Rattle.tracker.specs.Tracked.{Tracked, blocked_at}
use Rattle.manager.specs.declared.inner.Inner.{Inner}
use Rattle.manager.specs.Answers.{no_values}
use Rattle.manager.specs.Finished.{Waking}
use Rattle.manager.specs.Lines.{occurrences}
use Rattle.manager.specs.Model.{seat_at, entry_of, roll_of, ready_of, free_of, state_of}
use Rattle.manager.specs.Sound.{is_free, is_waiting, is_ready, free_at, waiting_at, ready_at, Seated, Sound}
use Rattle.manager.proofs.Decided.{entry_at, idle_at, bares_split, tables_decide}
use Rattle.roll.proofs.Split.{once_itself}
use Rattle.manager.proofs.Occurs.{occurrences_push, tally_other, line_room}
use Rattle.manager.proofs.Rolls.{map_same, map_without}
use Rattle.manager.proofs.Standings.{waiting_not_free}
use Rattle.manager.proofs.Seats.{entries_own, seat_listed, seat_low, seat_set, seat_other}
use Rattle.acceptance.proofs.Lists.{member_append}
use Rattle.manager.proofs.Wakes.{member_splits, Decides}

-- without one of the earlier tasks, what was not blocked is not
blocked_fewer : (f : ℕ → Entry) (pre mid : List ℕ) (s : ℕ) (xs : List Access) → blocked (map f (pre ++ (s ∷ mid))) xs ≡ false → blocked (map f (pre ++ mid)) xs ≡ false
blocked_fewer f [] mid s xs h = (or_parts _ (blocked (map f mid) xs) h).1
blocked_fewer f (x ∷ pre) mid s xs h =
    let parts = or_parts _ (blocked (map f (pre ++ (s ∷ mid))) xs) h in
    or_from _ (blocked (map f (pre ++ mid)) xs) parts.0 (blocked_fewer f pre mid s xs parts.1)

-- where the tables decide before and after one seat leaves, what nothing blocked nothing blocks
idle_stays : (f : ℕ → Entry) (before after : ℕ → Bool) (pre post : List ℕ) (s : ℕ) → Decides f before [] (pre ++ (s ∷ post)) → Decides f after [] (pre ++ post) →
    (t : ℕ) → member t (pre ++ post) ≡ true → before t ≡ true → after t ≡ true
idle_stays f before after pre post s was is t m idle =
    let xs : List Access = (f t).job.accesses in
    elim (or_cases (member t pre) (member t post) (sym (member_append t pre post) ∙ m)) [
      | inl there ↦
          let r = member_splits t pre there in
          let h = was r.0 (r.1.0 ++ (s ∷ post)) t (ap (λ (l : List ℕ). l ++ (s ∷ post)) r.1.1 ∙ append_assoc r.0 (t ∷ r.1.0) (s ∷ post)) in
          let g = is r.0 (r.1.0 ++ post) t (ap (λ (l : List ℕ). l ++ post) r.1.1 ∙ append_assoc r.0 (t ∷ r.1.0) post) in
          not-false (after t) (sym g ∙ h ∙ not_from_true (before t) idle)
      | inr there ↦
          let r = member_splits t post there in
          let h = was (pre ++ (s ∷ r.0)) r.1.0 t (ap (λ (l : List ℕ). pre ++ (s ∷ l)) r.1.1 ∙ sym (append_assoc pre (s ∷ r.0) (t ∷ r.1.0))) in
          let g = is (pre ++ r.0) r.1.0 t (ap (λ (l : List ℕ). pre ++ l) r.1.1 ∙ sym (append_assoc pre r.0 (t ∷ r.1.0))) in
          not-false (after t) (sym g ∙ blocked_fewer f pre r.0 s xs (h ∙ not_from_true (before t) idle))
    ]

-- the free line has room for the seat of a task
pub free_room : (i : Inner) → Seated i → (s : ℕ) → free_at i s ≡ false → length (free_of i) < 256
free_room i k s taken =
    let most = k.few_seats in
    line_room (free_of i) (λ t. ltb t i.seats && free_at i t) k.freed (λ t le. and_left (ltb t i.seats) (free_at i t) (le-ltb t i.seats (omega arith)))
    s (seat_low i k s taken) (and_right (ltb s i.seats) (free_at i s) taken)

-- one seat, whose task had no step left, is free: its record, the order, the free line and the tables have changed
module _ (i j : Inner) (s : ℕ) (w : Seat) (span : Span) (k : Sound i) (done : (seat_at i s).standing ≡ Running Done)
    (records : vec_items j.table.records ≡ set (vec_items i.table.records) s w) (long : vec_len j.table.records ≡ vec_len i.table.records)
    (standing : w.standing ≡ Free) (ready : j.ready ≡ i.ready) (free : free_of j ≡ free_of i ++ (s ∷ []))
    (order : listed j.order ≡ removed s (listed i.order)) (stays : (t : ℕ) → place_of j.order t ≡ place_of i.order t)
    (seats : j.seats ≡ i.seats) (versions : j.versions ≡ i.versions)
    (tables : (pre post : Roll) → Tracked i.tracker (pre ++ (bare s (accesses_of (seat_at i s).task) ∷ post)) →
    blocked pre (accesses_of (seat_at i s).task) ≡ false → Tracked j.tracker (pre ++ post))
    (woken : (t : ℕ) → t < 256 → (blocked_at i.tracker t ≡ 0 → ⊥) → blocked_at j.tracker t ≡ 0 → Covered span (place_of i.order t)) where
  taken : free_at i s ≡ false
  taken = ap is_free done

  low : s < 256
  low = seat_low i k.seated s taken

  -- the listed seats, before it and behind it
  before : List ℕ
  before = below i.order (place_of i.order s)

  behind : List ℕ
  behind = (before_place i.order s (seat_listed i k.seated s taken)).0

  listed_was : listed i.order ≡ before ++ (s ∷ behind)
  unfolding before behind
  listed_was = (before_place i.order s (seat_listed i k.seated s taken)).1

  apart : (member s before ≡ false) × (member s behind ≡ false)
  apart = listed_apart i.order s before behind listed_was

  listed_is : listed j.order ≡ before ++ behind
  listed_is = order ∙ ap (removed s) listed_was ∙ removed_middle s before behind apart.0

  -- the seat is not listed any more, and all others are as they were
  gone : member s (before ++ behind) ≡ false
  gone = member_append s before behind ∙ or_from (member s before) (member s behind) apart.0 apart.1

  same_member : (t : ℕ) → (t ≡ s → ⊥) → member t (before ++ behind) ≡ member t (before ++ (s ∷ behind))
  same_member t other =
      member_append t before behind ∙ ap (λ (b : Bool). member t before || (b || member t behind)) (sym (ne_eqb t s other)) ∙ sym (member_append t before (s ∷ behind))

  other_if : (t : ℕ) → member t (before ++ behind) ≡ true → t ≡ s → ⊥
  other_if t m e = both_ways (member s (before ++ behind)) gone (ap (λ (x : ℕ). member x (before ++ behind)) (sym e) ∙ m)

  here : (seat_at j s).standing ≡ Free
  here = ap (λ (x : Seat). x.standing) (seat_set i j s w records k.seated.full low) ∙ standing

  others : (t : ℕ) → (t ≡ s → ⊥) → seat_at j t ≡ seat_at i t
  others = seat_other i j s w records

  -- a seat with a task is another
  other_taken : (t : ℕ) → free_at j t ≡ false → t ≡ s → ⊥
  other_taken t f e = both_ways (free_at j s) (ap (free_at j) (sym e) ∙ f) (ap is_free here)

  free_same : (t : ℕ) → (t ≡ s → ⊥) → free_at j t ≡ free_at i t
  free_same t other = ap (λ (x : Seat). is_free x.standing) (others t other)

  -- nothing blocked its task
  idle : idle_at i s ≡ true
  idle = not-false (idle_at i s) (sym (k.waits s taken) ∙ ap is_waiting done)

  decided : Decides (entry_at i) (idle_at i) [] (before ++ (s ∷ behind))
  decided = subst (λ (l : List ℕ). Decides (entry_at i) (idle_at i) [] l) listed_was (tables_decide i i.tracker (listed i.order) k.seated.tracked)

  tracked_was : Tracked i.tracker (bares (map (entry_at i) before) ++ (bare s (accesses_of (seat_at i s).task) ∷ bares (map (entry_at i) behind)))
  tracked_was =
      subst (λ (v : Roll). Tracked i.tracker v) (ap (λ (l : List ℕ). bares (map (entry_at i) l)) listed_was ∙ bares_split (entry_at i) before s behind) k.seated.tracked

  tracked_now : Tracked j.tracker (bares (map (entry_at i) (before ++ behind)))
  tracked_now =
      let xs : List Access = accesses_of (seat_at i s).task in
      let clear : blocked (bares (map (entry_at i) before)) xs ≡ false =
      sym (blocked_bares (map (entry_at i) before) xs) ∙ decided before behind s refl ∙ not_from_true (idle_at i s) idle in
      let both : bares (map (entry_at i) (before ++ behind)) ≡ bares (map (entry_at i) before) ++ bares (map (entry_at i) behind) =
      ap bares (map-append (entry_at i) before behind) ∙ bares-++ (map (entry_at i) before) (map (entry_at i) behind) in
      subst (λ (v : Roll). Tracked j.tracker v) (sym both) (tables (bares (map (entry_at i) before)) (bares (map (entry_at i) behind)) tracked_was clear)

  -- the roll is that without the seat
  roll_is : roll_of j ≡ map (entry_at i) (before ++ behind)
  roll_is =
      ap (λ (l : List ℕ). map (entry_at j) l) listed_is
      ∙ map_same (entry_at j) (entry_at i) (before ++ behind) (λ t m. ap (λ (x : Seat). entry_of x t) (others t (other_if t m)))

  roll_left : roll_of j ≡ without s (roll_of i)
  roll_left = roll_is ∙ ap (λ (l : List ℕ). map (entry_at i) l) (sym listed_is ∙ order) ∙ map_without (entry_at i) (entries_own i) s (listed i.order)

  listed_at : (t : ℕ) → member t (listed j.order) ≡ not (free_at j t)
  listed_at t =
      elim (cases_eq t s) [
        | inl same ↦ rw same (ap (member s) listed_is ∙ gone ∙ sym (ap not (ap is_free here)))
        | inr other ↦ ap (member t) listed_is ∙ same_member t other ∙ ap (member t) (sym listed_was) ∙ k.seated.listed_seats t ∙ ap not (sym (free_same t other))
      ]

  freed_at : (t : ℕ) → occurrences t (free_of j) ≡ tally (ltb t j.seats && free_at j t)
  freed_at t =
      let more : occurrences t (free_of j) ≡ occurrences t (free_of i) + tally (eqb s t) = ap (occurrences t) free ∙ occurrences_push t (free_of i) s in
      let was = k.seated.freed t in
      elim (cases_eq t s) [
        | inl same ↦
            let none : tally (ltb t i.seats && free_at i t) ≡ 0 = ap tally (and_right (ltb t i.seats) (free_at i t) (ap (free_at i) same ∙ taken)) in
            let one : tally (eqb s t) ≡ 1 = ap (λ (u : ℕ). tally (eqb s u)) same ∙ once_itself s in
            let inside : ltb t j.seats ≡ true = ap₂ ltb same seats ∙ lt-ltb s i.seats (k.seated.within s taken) in
            let now : tally (ltb t j.seats && free_at j t) ≡ 1 = ap tally (and_from (ltb t j.seats) (free_at j t) inside (ap (free_at j) same ∙ ap is_free here)) in
            omega arith
        | inr other ↦
            let zero : tally (eqb s t) ≡ 0 = tally_other s t (λ e. other (sym e)) in
            let now : tally (ltb t j.seats && free_at j t) ≡ tally (ltb t i.seats && free_at i t) = ap₂ (λ (n : ℕ) (b : Bool). tally (ltb t n && b)) seats (free_same t other) in
            omega arith
      ]

  lined_at : (t : ℕ) → occurrences t (ready_of j) ≡ tally (ready_at j t)
  lined_at t =
      let same-ready : ready_at j t ≡ ready_at i t =
      elim (cases_eq t s) [
        | inl same ↦ rw same (ap is_ready here ∙ sym (ap is_ready done))
        | inr other ↦ ap (λ (x : Seat). is_ready x.standing) (others t other)
      ] in
      ap (λ (l : Ring ℕ). occurrences t (contents_of l)) ready ∙ k.seated.lined t ∙ ap tally (sym same-ready)

  seated_still : Seated j
  seated_still = record {
    full = long ∙ k.seated.full;
    few_seats = rw seats k.seated.few_seats;
    few_versions = rw versions k.seated.few_versions;
    listed_seats = listed_at;
    within = λ t f. rw seats (k.seated.within t (sym (free_same t (other_taken t f)) ∙ f));
    freed = freed_at;
    lined = lined_at;
    tracked = subst (λ (v : Roll). Tracked j.tracker (bares v)) (sym roll_is) tracked_now;
  }

  -- of what nothing blocked, nothing blocks it still
  clear_at : (t : ℕ) → free_at j t ≡ false → waiting_at j t ≡ false → blocked_at j.tracker t ≡ 0
  clear_at t f h =
      let other = other_taken t f in
      let was : free_at i t ≡ false = sym (free_same t other) ∙ f in
      let none : waiting_at i t ≡ false = ap (λ (x : Seat). is_waiting x.standing) (sym (others t other)) ∙ h in
      let there : member t (before ++ behind) ≡ true = ap (member t) (sym listed_is) ∙ listed_at t ∙ ap not f in
      let still = idle_stays (entry_at i) (idle_at i) (idle_at j) before behind s decided (tables_decide i j.tracker (before ++ behind) tracked_now)
      t there (not-false (idle_at i t) (sym (k.waits t was) ∙ none)) in
      eqb-true (blocked_at j.tracker t) 0 still

  -- of what was blocked and is not any more, the place is covered
  covered_at : (t : ℕ) → waiting_at j t ≡ true → blocked_at j.tracker t ≡ 0 → Covered span (place_of j.order t)
  covered_at t h zero =
      let other = other_taken t (waiting_not_free (seat_at j t).standing h) in
      let waited : waiting_at i t ≡ true = ap (λ (x : Seat). is_waiting x.standing) (sym (others t other)) ∙ h in
      let was = waiting_not_free (seat_at i t).standing waited in
      let stuck : idle_at i t ≡ false = not-true (idle_at i t) (sym (k.waits t was) ∙ waited) in
      subst (λ (p : ℕ). Covered span p) (sym (stays t)) (woken t (seat_low i k.seated t was) (eqb-false (blocked_at i.tracker t) 0 stuck) zero)

  left_waking : Waking j span
  left_waking = record { seated = seated_still; clear = clear_at; covered = covered_at }

  left_state : state_of j no_values ≡ left (state_of i no_values) s
  left_state =
      ap₂ (λ (r : Roll) (f : List ℕ). record { roll = r; ready_line = ready_of j; free_line = f; values = no_values }) roll_left free
      ∙ ap (λ (x : Ring ℕ). record { roll = without s (roll_of i); ready_line = contents_of x; free_line = free_of i ++ (s ∷ []); values = no_values }) ready

  -- both
  pub left_all : (state_of j no_values ≡ left (state_of i no_values) s) × Waking j span
  left_all = (left_state, left_waking)
