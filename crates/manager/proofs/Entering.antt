-- A task enters the first free seat: what the fields stand for after it, and that they agree again. Assumes nothing.
use Rattle.std.proofs.Common.{◌≡◌, ℕ, ◌+◌, ◌<◌, Bool, true, false, cond, not, ◌&&◌, ◌||◌, eqb, ltb, List, [], ◌∷◌, ◌++◌, map, vec_len, sym, refl, ap, ◌∙◌, ap₂, inl, inr, append_assoc, arith}
use mathlib.Core.Bool.{and-true, or-false, not-not}
use Rattle.std.proofs.lemmas.List.{map-append}
use Rattle.std.proofs.lemmas.Bool.{ltb-true, eq-eqb, ne_eqb, or_right, and_right, both_ways, cases_eq}
use Rattle.task.specs.declared.tasks.Task.{Task}
use Rattle.task.specs.Task.{accesses_of}
use Rattle.roll.specs.Roll.{Entry, Roll, blocked, waiting, ready}
use Rattle.roll.specs.Tables.{tally}
use Rattle.roll.specs.Calls.{State, accepted}
use Rattle.acceptance.specs.Listed.{member, listed, below, place_of}
use Rattle.acceptance.proofs.Laws.{before_place}
use Rattle.claims.specs.Queues.{bare, bares}
use Rattle.claims.proofs.Alike.{bares-++, blocked_bares}
use Rattle.seat.specs.declared.seats.Seat.{Seat}
use Rattle.seat.specs.declared.Standing.{Standing}
use Rattle.seat.specs.Phases.{entered, standing_of}
use Rattle.tracker.specs.declared.tracker.Tracker.{Tracker}
use Rattle.tracker.specs.Tracked.{Tracked, blocked_at}
use Rattle.tracker.proofs.Laws.{tracked_blocked}
use Rattle.manager.specs.declared.inner.Inner.{Inner}
use Rattle.manager.specs.Answers.{no_values}
use Rattle.manager.specs.Lines.{occurrences}
use Rattle.manager.specs.Model.{seat_at, entry_of, roll_of, ready_of, free_of, state_of}
use Rattle.manager.specs.Sound.{is_free, is_waiting, is_ready, free_at, waiting_at, ready_at, Sound}
use Rattle.roll.proofs.Split.{once_itself}
use Rattle.tracker.proofs.Tables.{tally_most}
use Rattle.manager.proofs.Occurs.{occurrences_push, tally_other}
use Rattle.manager.proofs.Rolls.{map_same}
use Rattle.manager.proofs.Seats.{seat_listed}
use Rattle.manager.proofs.Decided.{bares_split}
use Rattle.manager.proofs.Standings.{free_not_ready}
use Rattle.manager.proofs.FirstFree.{first_free, not_listed}

-- what happens to each field when a task enters a seat, where it is blocked or not
pub record Entering (i i' : Inner) (s : ℕ) (task : Task) (b : Bool) : Type 0 where
  pub full : vec_len i'.table.records ≡ 256
  pub seats : i'.seats ≡ i.seats
  pub versions : i'.versions ≡ i.versions
  pub holds : (seat_at i' s).task ≡ task
  pub stands : (seat_at i' s).standing ≡ entered b
  pub others : (t : ℕ) → (t ≡ s → ⊥) → seat_at i' t ≡ seat_at i t
  pub order : listed i'.order ≡ listed i.order ++ (s ∷ [])
  pub free : free_of i ≡ s ∷ free_of i'
  pub ready : ready_of i' ≡ cond b (ready_of i) (ready_of i ++ (s ∷ []))
  pub blocks : b ≡ blocked (bares (roll_of i)) (accesses_of task)
  pub tracked : Tracked i'.tracker (bares (roll_of i) ++ (bare s (accesses_of task) ∷ []))

-- a list with one number more has that number and those that it had
member_push : (t : ℕ) (l : List ℕ) (s : ℕ) → member t (l ++ (s ∷ [])) ≡ (member t l || eqb t s)
member_push t [] s = or-false (eqb t s)
member_push t (x ∷ l) s = elim (eqb t x) as (λ v. (v || member t (l ++ (s ∷ []))) ≡ ((v || member t l) || eqb t s)) [ true ↦ refl | false ↦ member_push t l s ]

-- a line that gains a number unless a test holds
occurrences_unless : (t s : ℕ) (v : Bool) (l : List ℕ) → occurrences t (cond v l (l ++ (s ∷ []))) ≡ occurrences t l + tally (not v && eqb s t)
occurrences_unless t s true l = omega arith
occurrences_unless t s false l = occurrences_push t l s

-- tasks behind a task do not change whether it is blocked
blocked_same : (tr tr' : Tracker) (pre post more : Roll) (x : Entry) → Tracked tr (pre ++ (x ∷ post)) → Tracked tr' ((pre ++ (x ∷ post)) ++ more) →
    eqb (blocked_at tr x.job.seat) 0 ≡ eqb (blocked_at tr' x.job.seat) 0
blocked_same tr tr' pre post more x before after =
    tracked_blocked tr pre post x before ∙ sym (tracked_blocked tr' pre (post ++ more) x (rw (append_assoc pre (x ∷ post) more) at after))

-- the entry of the task on the roll
abbrev entry : ℕ → Task → Bool → Entry
entry s task b = record { name = task.name; job = record { seat = s; kind = task.kind; accesses = accesses_of task }; standing = cond b waiting ready }

-- what a seat that a task entered is
stands_blocked : (b : Bool) → (is_free (entered b) ≡ false) × (is_waiting (entered b) ≡ b) × (is_ready (entered b) ≡ not b)
stands_blocked true = (refl, refl, refl)
stands_blocked false = (refl, refl, refl)

new_entry : (r : Seat) (s : ℕ) (task : Task) (b : Bool) → r.task ≡ task → r.standing ≡ entered b → entry_of r s ≡ entry s task b
new_entry r s task b holds stands =
    ap₂ (λ (t : Task) (st : Standing). record { name = t.name; job = record { seat = s; kind = t.kind; accesses = accesses_of t }; standing = standing_of (accesses_of t) st }) holds stands
    ∙ by b
  where
    by : (v : Bool) → record { name = task.name; job = record { seat = s; kind = task.kind; accesses = accesses_of task }; standing = standing_of (accesses_of task) (entered v) } ≡ entry s task v
    by true = refl
    by false = refl

module _ (i i' : Inner) (s : ℕ) (task : Task) (b : Bool) (sound : Sound i) (e : Entering i i' s task b) where
  -- the roll has the task at its end
  pub roll_entered : roll_of i' ≡ roll_of i ++ (entry s task b ∷ [])
  roll_entered =
      let f : ℕ → Entry = λ t. entry_of (seat_at i t) t in
      let g : ℕ → Entry = λ t. entry_of (seat_at i' t) t in
      let gone = not_listed i sound.seated s (free_of i') e.free in
      let kept = map_same g f (listed i.order) (λ t m. ap (λ (r : Seat). entry_of r t) (e.others t (λ q. both_ways (member s (listed i.order)) gone (rw q at m)))) in
      ap (map g) e.order ∙ map-append g (listed i.order) (s ∷ []) ∙ ap₂ (λ (v : Roll) (x : Entry). v ++ (x ∷ [])) kept (new_entry (seat_at i' s) s task b e.holds e.stands)

  -- the state is that of an accepted task
  pub state_entered : (rest : List ℕ) → free_of i ≡ s ∷ rest →
      state_of i' no_values ≡ (accepted (state_of i no_values) task.name task.kind (accesses_of task) s rest).state
  state_entered rest first =
      let stop : b ≡ blocked (roll_of i) (accesses_of task) = e.blocks ∙ sym (blocked_bares (roll_of i) (accesses_of task)) in
      let joined : s ∷ free_of i' ≡ s ∷ rest = sym e.free ∙ first in
      let left : free_of i' ≡ rest = cc in
      let after : (v : Bool) → State (Unit {0}) = λ v. record { roll = roll_of i ++ (entry s task v ∷ []); ready_line = cond v (ready_of i) (ready_of i ++ (s ∷ [])); free_line = rest; values = no_values } in
      let fields : state_of i' no_values ≡ after b = λ j. record { roll = roll_entered j; ready_line = e.ready j; free_line = left j; values = no_values } in
      fields ∙ ap after stop

  -- the tables stand for the roll
  bares_entered : bares (roll_of i') ≡ bares (roll_of i) ++ (bare s (accesses_of task) ∷ [])
  bares_entered = ap bares roll_entered ∙ bares-++ (roll_of i) (entry s task b ∷ [])

  -- a seat that is not free is the new one, or was not free before
  free_here : free_at i' s ≡ false
  free_here = ap is_free e.stands ∙ (stands_blocked b).0

  free_other : (t : ℕ) → (t ≡ s → ⊥) → free_at i' t ≡ free_at i t
  free_other t ne = ap (λ (r : Seat). is_free r.standing) (e.others t ne)

  -- exactly the seats that are not free are listed
  listed_here : (member s (listed i.order) || eqb s s) ≡ not (free_at i' s)
  listed_here = or_right (member s (listed i.order)) (eqb s s) (eq-eqb s s refl) ∙ ap not (sym free_here)

  listed_other : (t : ℕ) → (t ≡ s → ⊥) → (member t (listed i.order) || eqb t s) ≡ not (free_at i' t)
  listed_other t ne = ap (λ (v : Bool). member t (listed i.order) || v) (ne_eqb t s ne) ∙ or-false (member t (listed i.order)) ∙ sound.seated.listed_seats t ∙ ap not (sym (free_other t ne))

  listed_entered : (t : ℕ) → member t (listed i'.order) ≡ not (free_at i' t)
  listed_entered t =
      ap (member t) e.order ∙ member_push t (listed i.order) s ∙ elim (cases_eq t s) [ inl same ↦ rw same listed_here | inr other ↦ listed_other t other ]

  -- the free line has lost the seat
  line_before : (t : ℕ) → tally (eqb s t) + occurrences t (free_of i') ≡ tally (ltb t i.seats && free_at i t)
  line_before t = ap (occurrences t) (sym e.free) ∙ sound.seated.freed t

  -- the seat is within the number of seats, since it was in the free line
  within_here : (v : Bool) → ltb s i.seats ≡ v → tally (eqb s s) + occurrences s (free_of i') ≡ tally (v && free_at i s) → s < i.seats
  within_here true h sum = ltb-true s i.seats h
  within_here false h sum = absurd (omega (arith, sum, once_itself s))

  within_entered : (t : ℕ) → free_at i' t ≡ false → t < i'.seats
  within_entered t taken =
      rw e.seats
      (elim (cases_eq t s) [
        | inl same ↦ rw same (within_here (ltb s i.seats) refl (line_before s))
        | inr other ↦ sound.seated.within t (sym (free_other t other) ∙ taken)
      ])

  freed_here : occurrences s (free_of i') ≡ tally (ltb s i'.seats && free_at i' s)
  freed_here =
      let none : occurrences s (free_of i') ≡ 0 = omega (arith, line_before s, once_itself s, tally_most (ltb s i.seats && free_at i s)) in
      none ∙ ap tally (sym (and_right (ltb s i'.seats) (free_at i' s) free_here))

  freed_other : (t : ℕ) → (t ≡ s → ⊥) → occurrences t (free_of i') ≡ tally (ltb t i'.seats && free_at i' t)
  freed_other t ne =
      let same : occurrences t (free_of i') ≡ tally (ltb t i.seats && free_at i t) = omega (arith, line_before t, tally_other s t (λ q. ne (sym q))) in
      same ∙ ap₂ (λ (n : ℕ) (v : Bool). tally (ltb t n && v)) (sym e.seats) (sym (free_other t ne))

  freed_entered : (t : ℕ) → occurrences t (free_of i') ≡ tally (ltb t i'.seats && free_at i' t)
  freed_entered t = elim (cases_eq t s) [ inl same ↦ rw same freed_here | inr other ↦ freed_other t other ]

  -- the ready line has gained it unless the task is blocked
  lined_here : occurrences s (ready_of i) + tally (not b && eqb s s) ≡ tally (ready_at i' s)
  lined_here =
      let none : occurrences s (ready_of i) ≡ 0 = sound.seated.lined s ∙ ap tally (free_not_ready (seat_at i s).standing (first_free i sound.seated s (free_of i') e.free)) in
      let one : tally (not b && eqb s s) ≡ tally (not b) = ap (λ (v : Bool). tally (not b && v)) (eq-eqb s s refl) ∙ ap tally (and-true (not b)) in
      let now : tally (ready_at i' s) ≡ tally (not b) = ap tally (ap is_ready e.stands ∙ (stands_blocked b).2) in
      omega arith

  lined_other : (t : ℕ) → (t ≡ s → ⊥) → occurrences t (ready_of i) + tally (not b && eqb s t) ≡ tally (ready_at i' t)
  lined_other t ne =
      let none : tally (not b && eqb s t) ≡ 0 = ap tally (and_right (not b) (eqb s t) (ne_eqb s t (λ q. ne (sym q)))) in
      let now : tally (ready_at i' t) ≡ tally (ready_at i t) = ap (λ (r : Seat). tally (is_ready r.standing)) (e.others t ne) in
      omega (arith, sound.seated.lined t)

  lined_entered : (t : ℕ) → occurrences t (ready_of i') ≡ tally (ready_at i' t)
  lined_entered t =
      ap (occurrences t) e.ready ∙ occurrences_unless t s b (ready_of i) ∙ elim (cases_eq t s) [ inl same ↦ rw same lined_here | inr other ↦ lined_other t other ]

  -- a task waits exactly if one of its accesses is blocked
  waits_here : waiting_at i' s ≡ not (eqb (blocked_at i'.tracker s) 0)
  waits_here =
      let law = tracked_blocked i'.tracker (bares (roll_of i)) [] (bare s (accesses_of task)) e.tracked in
      ap is_waiting e.stands ∙ (stands_blocked b).1 ∙ sym (not-not b) ∙ ap (λ (v : Bool). not (not v)) e.blocks ∙ ap not (sym law)

  waits_other : (t : ℕ) → (t ≡ s → ⊥) → free_at i' t ≡ false → waiting_at i' t ≡ not (eqb (blocked_at i'.tracker t) 0)
  waits_other t ne taken =
      let was : free_at i t ≡ false = sym (free_other t ne) ∙ taken in
      let f : ℕ → Entry = λ u. entry_of (seat_at i u) u in
      let split = before_place i.order t (seat_listed i sound.seated t was) in
      let parts = ap (λ (l : List ℕ). bares (map f l)) split.1 ∙ bares_split f (below i.order (place_of i.order t)) t split.0 in
      let same = blocked_same i.tracker i'.tracker (bares (map f (below i.order (place_of i.order t)))) (bares (map f split.0)) (bare s (accesses_of task) ∷ [])
      (bare t (f t).job.accesses) (rw parts at sound.seated.tracked) (rw parts at e.tracked) in
      ap (λ (r : Seat). is_waiting r.standing) (e.others t ne) ∙ sound.waits t was ∙ ap not same

  waits_entered : (t : ℕ) → free_at i' t ≡ false → waiting_at i' t ≡ not (eqb (blocked_at i'.tracker t) 0)
  waits_entered t taken = elim (cases_eq t s) [ inl same ↦ rw same waits_here | inr other ↦ waits_other t other taken ]

  -- all fields agree again
  pub sound_entered : Sound i'
  sound_entered = record {
    seated = record {
      full = e.full;
      few_seats = rw e.seats sound.seated.few_seats;
      few_versions = rw e.versions sound.seated.few_versions;
      listed_seats = listed_entered;
      within = within_entered;
      freed = freed_entered;
      lined = lined_entered;
      tracked = rw bares_entered e.tracked;
    };
    waits = waits_entered;
  }
