-- The walk over the places at which a task may wake: its start, one place more, and its end. Assumes nothing.
--   Walked                 what holds after the places before one
--   walk_start, place_seat   the walk; at a place with no seat the check finds by itself that nothing changes
--   awake_state, awake_sound             its end: every task that may is ready
use Rattle.std.proofs.Common.{◌≡◌, ℕ, ◌+◌, ◌<◌, ◌≤◌, Bool, true, false, cond, not, ◌&&◌, ◌||◌, eqb, List, [], ◌∷◌, ◌++◌, map, filter, length, sym, refl, ap, ◌∙◌, subst, ap₂, inl, inr, append_assoc, append-nil, arith, length-append}
use Rattle.std.proofs.lemmas.Bool.{eqb-true, eq-eqb, both_ways, and_parts, and_left, and_right, not-true, cases_Bool}
use Rattle.std.proofs.lemmas.List.Elements.{filter-append}
use Rattle.std.proofs.lemmas.List.Sums.{length-filter, count_by-le-length}
use Rattle.acceptance.specs.declared.Acceptance.{Acceptance}
use Rattle.acceptance.specs.Listed.{member, below, listed, place_of}
use Rattle.acceptance.proofs.Laws.{from_place}
use Rattle.ring.specs.declared.Ring.{Ring}
use Rattle.ring.specs.Model.{contents_of}
use Rattle.roll.specs.Roll.{Standing as OnRoll, Roll, rouse, stand, wake, woken}
use Rattle.roll.specs.Tables.{tally}
use Rattle.roll.specs.Calls.{awake}
use Rattle.seat.specs.declared.Standing.{Standing}
use Rattle.seat.specs.declared.Standing.TheVariants.{Free, Waiting, Ready, Running}
use Rattle.seat.specs.Phases.{standing_of}
use Rattle.task.specs.declared.Access.{Access}
use Rattle.task.specs.declared.tasks.Task.{Task}
use Rattle.task.specs.Task.{accesses_of}
use Rattle.tracker.specs.declared.span.Span.{Span}
use Rattle.tracker.specs.declared.tracker.Tracker.{Tracker}
use Rattle.tracker.specs.Tracked.{blocked_at}
use Rattle.manager.specs.declared.inner.Inner.{Inner}
use Rattle.manager.specs.Answers.{no_values}
use Rattle.manager.specs.Finished.{Waking, wakes, BecameReady}
use Rattle.manager.specs.Model.{seat_at, roll_of, ready_of, free_of, state_of}
use Rattle.manager.specs.Sound.{is_free, is_waiting, free_at, waiting_at, Seated, Sound}
use Rattle.manager.proofs.Decided.{entry_at, idle_at, tables_decide}
use Rattle.manager.proofs.Passed.{passed, passed_first, passed_few, passed_apart, passed_new, passed_has, passed_not}
use Rattle.manager.proofs.Rolls.{map_same}
use Rattle.manager.proofs.Standings.{waiting_not_free}
use Rattle.manager.proofs.Seats.{seat_listed, entries_own}
use Rattle.acceptance.proofs.Lists.{member_append}
use Rattle.manager.proofs.Wakes.{filter_none, filter_same, stirs, Decides, woken_entry, wake_map, woken_filter}

-- which seats were reached, and which of them became ready
abbrev pub reached : Inner → ℕ → ℕ → Bool
reached i p t = wakes i t && member t (passed i.order p)

abbrev pub line_at : Inner → ℕ → List ℕ
line_at i p = filter (wakes i) (passed i.order p)

-- after the places before one: the tasks of the seats there that may wake are ready, and have joined the ready line in their order
abbrev pub Walked : Inner → Inner → ℕ → Type 0
Walked i j p = BecameReady i j (reached i p) (line_at i p)

-- a task that wakes is listed
pub wakes_listed : (i : Inner) → Seated i → (t : ℕ) → wakes i t ≡ true → member t (listed i.order) ≡ true
wakes_listed i k t h = seat_listed i k t (waiting_not_free (seat_at i t).standing (and_parts (waiting_at i t) (idle_at i t) h).0)

-- and its place is covered
wakes_covered : (i : Inner) (span : Span) → Waking i span → (t : ℕ) → wakes i t ≡ true → (span.first ≤ place_of i.order t) × (place_of i.order t < span.end)
wakes_covered i span k t h =
    let parts = and_parts (waiting_at i t) (idle_at i t) h in
    k.covered t parts.0 (eqb-true (blocked_at i.tracker t) 0 parts.1)

-- before the first place no task wakes
start_none : (i : Inner) (span : Span) → Waking i span → (t : ℕ) → reached i span.first t ≡ false
start_none i span k t =
    elim (cases_Bool (wakes i t)) [
      | inl h ↦ and_right (wakes i t) (member t (passed i.order span.first)) (passed_not i.order span.first t (wakes_listed i k.seated t h) (wakes_covered i span k t h).0)
      | inr h ↦ and_left (wakes i t) (member t (passed i.order span.first)) h
    ]

and_first : (a b : Bool) → (a && b) ≡ false → b ≡ true → a ≡ false
and_first true b e h = absurd (both_ways b e h)
and_first false b e h = refl

-- so nothing has joined the ready line
pub line_none : (i : Inner) (span : Span) → Waking i span → line_at i span.first ≡ []
line_none i span k = filter_none (wakes i) (passed i.order span.first) (λ t h. and_first (wakes i t) (member t (passed i.order span.first)) (start_none i span k t) h)

pub walk_start : (i : Inner) (span : Span) → Waking i span → Walked i i span.first
walk_start i span k =
    record {
      seated = k.seated;
      task = λ t. refl;
      standing = λ t. ap (λ (b : Bool). cond b Ready (seat_at i t).standing) (sym (start_none i span k t));
      ready = sym (ap (λ (l : List ℕ). ready_of i ++ l) (line_none i span k) ∙ append-nil (ready_of i));
      free = refl;
      order = refl;
      tracker = refl;
      seats = refl;
      versions = refl;
    }

-- a task that was not reached wakes as at the start
wakes_same : (i j : Inner) (p s : ℕ) → Walked i j p → member s (passed i.order p) ≡ false → wakes j s ≡ wakes i s
wakes_same i j p s h new =
    let stays : (seat_at j s).standing ≡ (seat_at i s).standing =
    h.standing s ∙ ap (λ (b : Bool). cond b Ready (seat_at i s).standing) (and_right (wakes i s) (member s (passed i.order p)) new) in
    ap₂ (λ (st : Standing) (z : Tracker). is_waiting st && eqb (blocked_at z s) 0) stays h.tracker

standing_more : (e r m w : Bool) (st : Standing) → (e ≡ true → m ≡ false) → (e ≡ true → r ≡ w) →
    cond (e && r) Ready (cond (w && m) Ready st) ≡ cond (w && (m || (e || false))) Ready st
standing_more false r true w st new same = refl
standing_more false r false w st new same = refl
standing_more true r true w st new same = absurd (both_ways true (new refl) refl)
standing_more true true false true st new same = refl
standing_more true true false false st new same = absurd (both_ways true (same refl) refl)
standing_more true false false true st new same = absurd (both_ways false refl (same refl))
standing_more true false false false st new same = refl

-- the seats that joined the ready line, one place further
line_more : (i : Inner) (p s : ℕ) (r : Bool) → passed i.order (p + 1) ≡ passed i.order p ++ (s ∷ []) → r ≡ wakes i s → line_at i p ++ cond r (s ∷ []) [] ≡ line_at i (p + 1)
line_more i p s r e same =
    ap (λ (b : Bool). line_at i p ++ cond b (s ∷ []) []) same ∙ sym (filter-append (wakes i) (passed i.order p) (s ∷ [])) ∙ ap (filter (wakes i)) (sym e)

-- a place with a seat, whose task becomes ready if it may
walk_more : (i j k : Inner) (p s : ℕ) (r : Bool) → passed i.order (p + 1) ≡ passed i.order p ++ (s ∷ []) → member s (passed i.order p) ≡ false →
    Walked i j p → r ≡ wakes j s → BecameReady j k (λ t. eqb t s && r) (cond r (s ∷ []) []) → Walked i k (p + 1)
walk_more i j k p s r e new h answer g =
    let l = passed i.order p in
    let same : r ≡ wakes i s = answer ∙ wakes_same i j p s h new in
    let joins = line_more i p s r e same in
    let stands : (t : ℕ) → (seat_at k t).standing ≡ cond (reached i (p + 1) t) Ready (seat_at i t).standing = λ t.
    g.standing t ∙ ap (λ (st : Standing). cond (eqb t s && r) Ready st) (h.standing t)
    ∙ standing_more (eqb t s) r (member t l) (wakes i t) (seat_at i t).standing (λ q. ap (λ (x : ℕ). member x l) (eqb-true t s q) ∙ new) (λ q. same ∙ ap (wakes i) (sym (eqb-true t s q)))
    ∙ ap (λ (b : Bool). cond (wakes i t && b) Ready (seat_at i t).standing) (sym (ap (member t) e ∙ member_append t l (s ∷ []))) in
    record {
      seated = g.seated;
      task = λ t. g.task t ∙ h.task t;
      standing = stands;
      ready = g.ready ∙ ap (λ (x : List ℕ). x ++ cond r (s ∷ []) []) h.ready ∙ append_assoc (ready_of i) (line_at i p) (cond r (s ∷ []) []) ∙ ap (λ (x : List ℕ). ready_of i ++ x) joins;
      free = g.free ∙ h.free;
      order = g.order ∙ h.order;
      tracker = g.tracker ∙ h.tracker;
      seats = g.seats ∙ h.seats;
      versions = g.versions ∙ h.versions;
    }

-- one place further, with how many became ready
more_by : (n m : ℕ) (xs : List ℕ) (s : ℕ) (r : Bool) → n ≡ length xs → m ≡ n + tally r → m ≡ length (xs ++ cond r (s ∷ []) [])
more_by n m xs s true e c = let sum = length-append xs (s ∷ []) in omega arith
more_by n m xs s false e c = let same : length (xs ++ []) ≡ length xs = ap length (append-nil xs) in omega arith

pub place_seat : (i j k : Inner) (p s n m : ℕ) (r : Bool) → Walked i j p → n ≡ length (line_at i p) → m ≡ n + tally r →
    below j.order (p + 1) ≡ below j.order p ++ (s ∷ []) →
    r ≡ wakes j s → BecameReady j k (λ t. eqb t s && r) (cond r (s ∷ []) []) → Walked i k (p + 1) × (m ≡ length (line_at i (p + 1)))
place_seat i j k p s n m r h count sum there answer g =
    let e : passed i.order (p + 1) ≡ passed i.order p ++ (s ∷ []) =
    subst (λ (a : Acceptance). passed a (p + 1) ≡ passed a p ++ (s ∷ [])) h.order there in
    let new = passed_new i.order p s e in
    let same : r ≡ wakes i s = answer ∙ wakes_same i j p s h new in
    (walk_more i j k p s r e new h answer g, more_by n m (line_at i p) s r count sum ∙ ap length (line_more i p s r e same))

-- there are few enough to be counted
pub line_few : (i : Inner) (p : ℕ) → length (line_at i p) ≤ 256
line_few i p = let few = passed_few i.order p in omega (arith, length-filter (wakes i) (passed i.order p), count_by-le-length (wakes i) (passed i.order p))

-- on the roll, a task in a seat that is not free becomes ready exactly if it may
stirs_wakes : (xs : List Access) (st : Standing) (idle : Bool) → is_free st ≡ false → stirs idle (standing_of xs st) ≡ (is_waiting st && idle)
stirs_wakes xs Free idle h = absurd (both_ways true h refl)
stirs_wakes xs Waiting idle h = refl
stirs_wakes xs Ready idle h = refl
stirs_wakes xs (Running p) idle h = refl

rouse_standing : (xs : List Access) (st : Standing) (idle m : Bool) → is_free st ≡ false → ((is_waiting st && idle) ≡ true → m ≡ true) →
    standing_of xs (cond ((is_waiting st && idle) && m) Ready st) ≡ rouse (not idle) (standing_of xs st)
rouse_standing xs Free idle m h k = absurd (both_ways true h refl)
rouse_standing xs Waiting true true h k = refl
rouse_standing xs Waiting true false h k = absurd (both_ways false refl (k refl))
rouse_standing xs Waiting false m h k = refl
rouse_standing xs Ready idle m h k = refl
rouse_standing xs (Running p) idle m h k = refl

-- after all places
module _ (i j : Inner) (span : Span) (p : ℕ) (k : Waking i span) (h : Walked i j p) (done : span.end ≤ p) where
  all_reached : (t : ℕ) → wakes i t ≡ true → member t (passed i.order p) ≡ true
  all_reached t w = let near = (wakes_covered i span k t w).1 in passed_has i.order p t (wakes_listed i k.seated t w) (omega arith)

  taken : (t : ℕ) → member t (listed i.order) ≡ true → free_at i t ≡ false
  taken t m = not-true (free_at i t) (sym (k.seated.listed_seats t) ∙ m)

  behind_none : (t : ℕ) → member t (from_place i.order p) ≡ true → wakes i t ≡ false
  behind_none t m =
      elim (cases_Bool (wakes i t)) [
        | inr w ↦ w
        | inl w ↦ absurd (both_ways (member t (from_place i.order p)) (passed_apart i.order p t (all_reached t w)) m)
      ]

  decided : Decides (entry_at i) (idle_at i) [] (listed i.order)
  decided = tables_decide i i.tracker (listed i.order) k.seated.tracked

  -- the seats that joined the ready line are those of the tasks that wake
  pub line_woken : line_at i p ≡ woken [] (roll_of i)
  line_woken =
      let l = listed i.order in
      let rest = from_place i.order p in
      let all : filter (wakes i) l ≡ line_at i p =
      ap (filter (wakes i)) (passed_first i.order p) ∙ filter-append (wakes i) (passed i.order p) rest ∙ ap (λ (x : List ℕ). line_at i p ++ x) (filter_none (wakes i) rest behind_none) ∙ append-nil (line_at i p) in
      sym all
      ∙ filter_same (wakes i) (λ t. stirs (idle_at i t) (entry_at i t).standing) l (λ t m. sym (stirs_wakes (accesses_of (seat_at i t).task) (seat_at i t).standing (idle_at i t) (taken t m)))
      ∙ sym (woken_filter (entry_at i) (idle_at i) [] l (entries_own i) decided)

  -- the entry of a listed seat
  entry_woken : (t : ℕ) → member t (listed i.order) ≡ true → entry_at j t ≡ woken_entry (entry_at i) (idle_at i) t
  entry_woken t m =
      let x = seat_at i t in
      ap₂ (λ (z : Task) (st : Standing). record { name = z.name; job = record { seat = t; kind = z.kind; accesses = accesses_of z }; standing = standing_of (accesses_of z) st }) (h.task t) (h.standing t)
      ∙ ap (λ (st : OnRoll). stand st (entry_at i t)) (rouse_standing (accesses_of x.task) x.standing (idle_at i t) (member t (passed i.order p)) (taken t m) (all_reached t))

  roll_woken : roll_of j ≡ wake [] (roll_of i)
  roll_woken =
      let l = listed i.order in
      ap (λ (a : Acceptance). map (entry_at j) (listed a)) h.order
      ∙ map_same (entry_at j) (woken_entry (entry_at i) (idle_at i)) l entry_woken
      ∙ sym (wake_map (entry_at i) (idle_at i) [] l decided)

  -- the state is the one in which every task that may is ready
  pub awake_state : state_of j no_values ≡ awake (state_of i no_values)
  awake_state =
      let ready : ready_of j ≡ ready_of i ++ woken [] (roll_of i) = h.ready ∙ ap (λ (x : List ℕ). ready_of i ++ x) line_woken in
      ap₂ (λ (r : Roll) (x : List ℕ). record { roll = r; ready_line = x; free_line = free_of j; values = no_values }) roll_woken ready
      ∙ ap (λ (x : Ring ℕ). record { roll = wake [] (roll_of i); ready_line = ready_of i ++ woken [] (roll_of i); free_line = contents_of x; values = no_values }) h.free

  -- and the fields agree with one another
  pub awake_sound : Sound j
  awake_sound = record {
    seated = h.seated;
    waits = λ s f. ap is_waiting (h.standing s)
        ∙ waits_still (seat_at i s).standing (idle_at i s) (member s (passed i.order p)) (all_reached s) (λ q w. eq-eqb (blocked_at i.tracker s) 0 (k.clear s q w)) (sym (ap is_free (h.standing s)) ∙ f)
        ∙ ap (λ (z : Tracker). not (eqb (blocked_at z s) 0)) (sym h.tracker);
  }
    where
      waits_still : (st : Standing) (idle m : Bool) → ((is_waiting st && idle) ≡ true → m ≡ true) → (is_free st ≡ false → is_waiting st ≡ false → idle ≡ true) →
          is_free (cond ((is_waiting st && idle) && m) Ready st) ≡ false → is_waiting (cond ((is_waiting st && idle) && m) Ready st) ≡ not idle
      waits_still Free idle m all clear f = absurd (both_ways true f refl)
      waits_still Waiting true true all clear f = refl
      waits_still Waiting true false all clear f = absurd (both_ways false refl (all refl))
      waits_still Waiting false m all clear f = refl
      waits_still Ready idle m all clear f = sym (ap not (clear refl refl))
      waits_still (Running q) idle m all clear f = sym (ap not (clear refl refl))
