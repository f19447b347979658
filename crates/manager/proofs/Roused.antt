-- The fields after tasks became ready: what holds of them still, and one task more. Assumes nothing.
--   bares_tasks        records with the same tasks make the same roll, but for the standings
--   became             one task became ready, or none did
--   ready_room         the ready line has room for the seat of a task that waits
use Rattle.std.proofs.Common.{◌≡◌, ℕ, ◌<◌, Bool, true, false, cond, not, ◌&&◌, eqb, ltb, List, [], ◌∷◌, ◌++◌, map, length, set, is_some, vec_items, vec_len, sym, refl, ap, ◌∙◌, subst, ap₂, inl, inr, append-nil, arith}
use Rattle.std.proofs.lemmas.Bool.{eqb-true, eq-eqb, ne_eqb, cases_eq}
use Rattle.acceptance.specs.declared.Acceptance.{Acceptance}
use Rattle.acceptance.specs.Listed.{member, listed}
use Rattle.claims.specs.Queues.{bare, bares}
use Rattle.ring.specs.declared.Ring.{Ring}
use Rattle.ring.specs.Model.{contents_of}
use Rattle.roll.specs.Roll.{Entry, Roll}
use Rattle.roll.specs.Tables.{tally}
use Rattle.seat.specs.declared.Standing.{Standing}
use Rattle.seat.specs.declared.Standing.TheVariants.{Free, Waiting, Ready, Running}
use Rattle.seat.specs.declared.Event.TheVariants.{Unblocked}
use Rattle.seat.specs.declared.seats.Seat.{Seat}
use Rattle.seat.specs.Phases.{moved, or_else}
use Rattle.task.specs.declared.Access.{Access}
use Rattle.task.specs.declared.tasks.Task.{Task}
use Rattle.task.specs.Task.{accesses_of}
use Rattle.tracker.specs.declared.tracker.Tracker.{Tracker}
use Rattle.tracker.specs.Tracked.{Tracked}
use Rattle.manager.specs.declared.inner.Inner.{Inner}
use Rattle.manager.specs.Lines.{occurrences}
use Rattle.manager.specs.Model.{seat_at, entry_of, roll_of, ready_of}
use Rattle.manager.specs.Sound.{is_free, is_waiting, is_ready, free_at, waiting_at, ready_at, Seated}
use Rattle.manager.specs.Finished.{BecameReady}
use Rattle.roll.proofs.Split.{once_itself}
use Rattle.manager.proofs.Occurs.{occurrences-++, tally_other, line_room}
use Rattle.manager.proofs.Standings.{waiting_not_ready, waiting_not_free}
use Rattle.manager.proofs.Seats.{seat_set, seat_other, ready_low}

-- records with the same tasks make the same roll, but for names and standings
bares_map : (f g : ℕ → Entry) (l : List ℕ) → ((t : ℕ) → bare (f t).job.seat (f t).job.accesses ≡ bare (g t).job.seat (g t).job.accesses) → bares (map f l) ≡ bares (map g l)
bares_map f g [] same = refl
bares_map f g (x ∷ l) same = ap₂ (λ (e : Entry) (r : Roll). e ∷ r) (same x) (bares_map f g l same)

pub bares_tasks : (i j : Inner) → j.order ≡ i.order → ((t : ℕ) → (seat_at j t).task ≡ (seat_at i t).task) → bares (roll_of j) ≡ bares (roll_of i)
bares_tasks i j order task =
    ap (λ (a : Acceptance). bares (map (λ (t : ℕ). entry_of (seat_at j t) t) (listed a))) order
    ∙ bares_map (λ (t : ℕ). entry_of (seat_at j t) t) (λ (t : ℕ). entry_of (seat_at i t) t) (listed i.order) (λ t. ap (λ (x : Task). bare t (accesses_of x)) (task t))

-- the ready line has room for the seat of a task that waits
pub ready_room : (i : Inner) → Seated i → (s : ℕ) → s < 256 → waiting_at i s ≡ true → length (ready_of i) < 256
ready_room i k s low h = line_room (ready_of i) (ready_at i) k.lined (ready_low i k) s low (waiting_not_ready (seat_at i s).standing h)

-- a seat stays free or taken where a waiting task becomes ready
free_stays : (e r : Bool) (st : Standing) → (e ≡ true → is_waiting st ≡ r) → is_free (cond (e && r) Ready st) ≡ is_free st
free_stays false r st h = refl
free_stays true false st h = refl
free_stays true true st h = sym (waiting_not_free st (h refl))

-- how often a seat stands in the ready line then
lined_more : (s t : ℕ) (r : Bool) (st : Standing) (xs : List ℕ) → occurrences t xs ≡ tally (is_ready st) → (t ≡ s → is_waiting st ≡ r) →
    occurrences t (xs ++ cond r (s ∷ []) []) ≡ tally (is_ready (cond (eqb t s && r) Ready st))
lined_more s t false st xs was h =
    ap (occurrences t) (append-nil xs) ∙ was ∙ elim (eqb t s) as (λ v. tally (is_ready st) ≡ tally (is_ready (cond (v && false) Ready st))) [ true ↦ refl | false ↦ refl ]
lined_more s t true st xs was h =
    let more = occurrences-++ t xs (s ∷ []) in
    elim (cases_eq t s) [
      | inl same ↦
          let one : tally (eqb s t) ≡ 1 = ap (λ (u : ℕ). tally (eqb s u)) same ∙ once_itself s in
          let none : tally (is_ready st) ≡ 0 = ap tally (waiting_not_ready st (h same)) in
          let now : tally (is_ready (cond (eqb t s && true) Ready st)) ≡ 1 = ap (λ (v : Bool). tally (is_ready (cond (v && true) Ready st))) (eq-eqb t s same) in
          omega arith
      | inr other ↦
          let zero : tally (eqb s t) ≡ 0 = tally_other s t (λ e. other (sym e)) in
          let now : tally (is_ready (cond (eqb t s && true) Ready st)) ≡ tally (is_ready st) = ap (λ (v : Bool). tally (is_ready (cond (v && true) Ready st))) (ne_eqb t s other) in
          omega arith
    ]

-- what the event that nothing blocks it any more does to a seat: a waiting task becomes ready, any other stays
unblocked_answer : (xs : List Access) (st : Standing) → is_some (moved xs st Unblocked) ≡ is_waiting st
unblocked_answer xs Free = refl
unblocked_answer xs Waiting = refl
unblocked_answer xs Ready = refl
unblocked_answer xs (Running p) = refl

unblocked_standing : (xs : List Access) (st : Standing) → or_else (moved xs st Unblocked) st ≡ cond (is_waiting st) Ready st
unblocked_standing xs Free = refl
unblocked_standing xs Waiting = refl
unblocked_standing xs Ready = refl
unblocked_standing xs (Running p) = refl

-- at that event, by the record before it and the record after it
module _ (i : Inner) (s : ℕ) (x w : Seat) (b : Bool) (same : x ≡ seat_at i s) (answer : b ≡ is_some (moved (accesses_of x.task) x.standing Unblocked)) where
  pub waited_if : waiting_at i s ≡ b
  waited_if = ap (λ (y : Seat). is_waiting y.standing) (sym same) ∙ sym (answer ∙ unblocked_answer (accesses_of x.task) x.standing)

  pub ready_if : w.standing ≡ or_else (moved (accesses_of x.task) x.standing Unblocked) x.standing → w.standing ≡ cond b Ready (seat_at i s).standing
  ready_if e =
      e ∙ unblocked_standing (accesses_of x.task) x.standing
      ∙ ap₂ (λ (v : Bool) (y : Seat). cond v Ready y.standing) (sym (answer ∙ unblocked_answer (accesses_of x.task) x.standing)) same

-- a line that one more joins, or not
pub joined_if : (b : Bool) (xs : List ℕ) (s : ℕ) → cond b (xs ++ (s ∷ [])) xs ≡ xs ++ cond b (s ∷ []) []
joined_if true xs s = refl
joined_if false xs s = sym (append-nil xs)

-- one seat's record was replaced: its task is the same, and it became ready if it waited
module _ (i j : Inner) (s : ℕ) (w : Seat) (r : Bool) (k : Seated i) (low : s < 256) (was : waiting_at i s ≡ r)
    (records : vec_items j.table.records ≡ set (vec_items i.table.records) s w) (long : vec_len j.table.records ≡ vec_len i.table.records)
    (task : w.task ≡ (seat_at i s).task) (standing : w.standing ≡ cond r Ready (seat_at i s).standing)
    (ready : ready_of j ≡ ready_of i ++ cond r (s ∷ []) []) (free : j.free ≡ i.free) (order : j.order ≡ i.order)
    (tracker : j.tracker ≡ i.tracker) (seats : j.seats ≡ i.seats) (versions : j.versions ≡ i.versions) where
  task_at : (t : ℕ) → (seat_at j t).task ≡ (seat_at i t).task
  task_at t =
      elim (cases_eq t s) [
        | inl same ↦ rw same (ap (λ (x : Seat). x.task) (seat_set i j s w records k.full low) ∙ task)
        | inr other ↦ ap (λ (x : Seat). x.task) (seat_other i j s w records t other)
      ]

  standing_at : (t : ℕ) → (seat_at j t).standing ≡ cond (eqb t s && r) Ready (seat_at i t).standing
  standing_at t =
      elim (cases_eq t s) [
        | inl same ↦
            rw same (ap (λ (x : Seat). x.standing) (seat_set i j s w records k.full low) ∙ standing
            ∙ ap (λ (v : Bool). cond (v && r) Ready (seat_at i s).standing) (sym (eq-eqb s s refl)))
        | inr other ↦
            ap (λ (x : Seat). x.standing) (seat_other i j s w records t other)
            ∙ ap (λ (v : Bool). cond (v && r) Ready (seat_at i t).standing) (sym (ne_eqb t s other))
      ]

  waited : (t : ℕ) → t ≡ s → waiting_at i t ≡ r
  waited t e = ap (waiting_at i) e ∙ was

  free_same : (t : ℕ) → free_at j t ≡ free_at i t
  free_same t = ap is_free (standing_at t) ∙ free_stays (eqb t s) r (seat_at i t).standing (λ e. waited t (eqb-true t s e))

  seated_still : Seated j
  seated_still = record {
    full = long ∙ k.full;
    few_seats = rw seats k.few_seats;
    few_versions = rw versions k.few_versions;
    listed_seats = λ t. ap (λ (a : Acceptance). member t (listed a)) order ∙ k.listed_seats t ∙ ap not (sym (free_same t));
    within = λ t h. rw seats (k.within t (sym (free_same t) ∙ h));
    freed = λ t. ap (λ (l : Ring ℕ). occurrences t (contents_of l)) free ∙ k.freed t ∙ ap₂ (λ (n : ℕ) (b : Bool). tally (ltb t n && b)) (sym seats) (sym (free_same t));
    lined = λ t. ap (occurrences t) ready ∙ lined_more s t r (seat_at i t).standing (ready_of i) (k.lined t) (waited t) ∙ ap (λ (st : Standing). tally (is_ready st)) (sym (standing_at t));
    tracked = subst (λ (v : Roll). Tracked j.tracker v) (sym (bares_tasks i j order task_at)) (subst (λ (z : Tracker). Tracked z (bares (roll_of i))) (sym tracker) k.tracked);
  }

  -- all that is known after it
  pub became : BecameReady i j (λ t. eqb t s && r) (cond r (s ∷ []) [])
  became = record {
    seated = seated_still;
    task = task_at;
    standing = standing_at;
    ready = ready;
    free = free;
    order = order;
    tracker = tracker;
    seats = seats;
    versions = versions;
  }
