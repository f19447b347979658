-- The first of the ready line is taken. Assumes nothing.
--   first_ready     the first of the ready line is ready
--   line_taken      the line behind it has the other ready seats
--   took_ready      what a take of it comes to
--   taken_first     so what the take answers, the state after it, and that the fields agree again
use Rattle.std.proofs.Common.{◌≡◌, ℕ, ◌+◌, ◌<◌, Bool, true, false, eqb, List, ◌∷◌, get_or, vec_items, Some, Ok, Result, sym, refl, ap, ◌∙◌, ap₂, inl, inr, arith}
use Rattle.std.proofs.lemmas.Bool.{eq-eqb, ne_eqb, cases_eq}
use Rattle.fault.specs.declared.ManagerFault.{ManagerFault}
use Rattle.task.specs.declared.tasks.Task.{Task}
use Rattle.task.specs.Task.{accesses_of}
use Rattle.order.specs.Steps.{steps}
use Rattle.roll.specs.Roll.{Roll, Standing as OnRoll, ready, running, Entry, find, change}
use Rattle.roll.specs.Tables.{tally}
use Rattle.roll.specs.Calls.{State, succeeded, taken, took, begun, begun_at}
use Rattle.roll.specs.Built.{left_by, take_answer}
use Rattle.ring.specs.declared.Ring.{Ring}
use Rattle.ring.specs.Model.{contents_of}
use Rattle.seat.specs.declared.Standing.TheVariants.{Ready, Running}
use Rattle.seat.specs.declared.Standing as seats
use Rattle.seat.specs.declared.Event.TheVariants.{Taken}
use Rattle.seat.specs.declared.seats.Seat.{Seat}
use Rattle.seat.specs.Phases.{standing_of, first_phase, moved, or_else}
use Rattle.seat.proofs.Laws.{first_steps}
use Rattle.manager.specs.declared.inner.Inner.{Inner}
use Rattle.manager.specs.Answers.{no_values}
use Rattle.manager.specs.Lines.{occurrences}
use Rattle.manager.specs.Model.{seat_at, entry_of, roll_of, ready_of, free_of, state_of}
use Rattle.manager.specs.Sound.{Seated, Sound, is_free, is_waiting, is_ready, free_at, ready_at}
use Rattle.manager.proofs.Moving.{moved_roll, moved_sound}
use Rattle.manager.proofs.Occurs.{counted}
use Rattle.manager.proofs.Records.{with_record, record_set, record_other}
use Rattle.manager.proofs.Seats.{roll_found, seat_low, lent_is}
use Rattle.manager.proofs.Standings.{only_ready}

module _ (i : Inner) (seated : Seated i) (s : ℕ) (rest : List ℕ) (first : ready_of i ≡ s ∷ rest) where
  -- how often a seat is in the line
  in_line : (t : ℕ) → tally (eqb s t) + occurrences t rest ≡ tally (ready_at i t)
  in_line t = sym (ap (occurrences t) first) ∙ seated.lined t

  in_first : 1 + occurrences s rest ≡ tally (ready_at i s)
  in_first = ap (λ (b : Bool). tally b + occurrences s rest) (sym (eq-eqb s s refl)) ∙ in_line s

  -- the first of the ready line is ready
  first_ready_at : ready_at i s ≡ true
  first_ready_at = counted (ready_at i s) (omega (arith, in_first))

  pub first_ready : (seat_at i s).standing ≡ Ready
  first_ready = only_ready (seat_at i s).standing first_ready_at

  first_once : occurrences s rest ≡ 0
  first_once = omega (arith, in_first, ap tally first_ready_at)

  -- the line behind it has every other ready seat once
  pub line_taken : (line : Ring ℕ) (r : Seat) → s < 256 → contents_of line ≡ rest → is_ready r.standing ≡ false →
      (t : ℕ) → occurrences t (contents_of line) ≡ tally (ready_at (with_record i line s r) t)
  line_taken line r low is not-ready t =
      let i' = with_record i line s r in
      elim (cases_eq t s) [
        | inl here ↦
            ap₂ occurrences here is ∙ first_once
            ∙ sym (ap (λ n. tally (ready_at i' n)) here ∙ ap (λ (x : Seat). tally (is_ready x.standing)) (record_set i line s r seated.full low) ∙ ap tally not-ready)
        | inr other ↦
            let apart : eqb s t ≡ false = ne_eqb s t (λ e. other (sym e)) in
            let none = ap tally apart in
            let all = in_line t in
            let here : occurrences t rest ≡ tally (ready_at i t) = omega arith in
            ap (occurrences t) is ∙ here ∙ sym (ap (λ (x : Seat). tally (is_ready x.standing)) (record_other i line s r seated.full low t other))
      ]

-- a take of a ready entry
pub took_ready : {V : Type 0} (b : State V) (s : ℕ) (line : List ℕ) (e : Entry) → b.ready_line ≡ s ∷ line → find s b.roll ≡ Some e → e.standing ≡ ready →
    took b b.ready_line ≡ succeeded (record {
      state = record { roll = change s (running (steps e.job.accesses)) b.roll; ready_line = line; free_line = b.free_line; values = b.values };
      answer = taken s e.job.kind e.name;
      seat = s;
    })
took_ready b s line e first found standing = ap (took b) first ∙ ap (begun_at b s line) found ∙ ap (begun b s line e) standing

-- what a take of this seat, with this line behind it and this record after it, comes to: its answer, the state, and that the fields agree
pub record Begun (i : Inner) (line : Ring ℕ) (s : ℕ) (new : Seat) : Type 0 where
  pub answer : (t : Task) → t ≡ new.task → ◌≡◌ {A = Result (ℕ × ℕ × ℕ) ManagerFault} (Ok (s, t.kind, t.name)) (take_answer (took (state_of i no_values) (ready_of i)))
  pub after : state_of (with_record i line s new) no_values ≡ left_by (state_of i no_values) (took (state_of i no_values) (ready_of i))
  pub sound : Sound (with_record i line s new)

-- the first of the ready line begins to run, by the record that was lent for its seat and the record after it
module _ (i : Inner) (sound : Sound i) (line : Ring ℕ) (s : ℕ) (old new : Seat) (first : ready_of i ≡ s ∷ contents_of line)
    (lent : old ≡ get_or (vec_items i.table.records) s old) (task : new.task ≡ old.task)
    (standing : new.standing ≡ or_else (moved (accesses_of old.task) old.standing Taken) old.standing) where
  was : (seat_at i s).standing ≡ Ready
  was = first_ready i sound.seated s (contents_of line) first

  held : free_at i s ≡ false
  held = ap is_free was

  low : s < 256
  low = seat_low i sound.seated s held

  read : old ≡ seat_at i s
  read = lent_is i s old sound.seated.full low lent

  same_task : new.task ≡ (seat_at i s).task
  same_task = task ∙ ap (λ (r : Seat). r.task) read

  stands : new.standing ≡ Running (first_phase (accesses_of (seat_at i s).task))
  stands =
      standing
      ∙ ap (λ (r : Seat). or_else (moved (accesses_of r.task) r.standing Taken) r.standing) read
      ∙ ap (λ (st : seats.Standing). or_else (moved (accesses_of (seat_at i s).task) st Taken) st) was

  runs : standing_of (accesses_of new.task) new.standing ≡ running (steps (accesses_of (seat_at i s).task))
  runs =
      ap₂ (λ (t : Task) (st : seats.Standing). standing_of (accesses_of t) st) same_task stands ∙ ap running (first_steps (accesses_of (seat_at i s).task))

  outcome : took (state_of i no_values) (ready_of i) ≡ succeeded (record {
    state = record { roll = change s (running (steps (accesses_of (seat_at i s).task))) (roll_of i); ready_line = contents_of line; free_line = free_of i; values = no_values };
    answer = taken s (seat_at i s).task.kind (seat_at i s).task.name;
    seat = s;
  })
  outcome =
      took_ready (state_of i no_values) s (contents_of line) (entry_of (seat_at i s) s) first (roll_found i sound.seated s held)
      (ap (standing_of (accesses_of (seat_at i s).task)) was)

  roll : roll_of (with_record i line s new) ≡ change s (running (steps (accesses_of (seat_at i s).task))) (roll_of i)
  roll = moved_roll i sound line s new held same_task ∙ ap (λ (st : OnRoll). change s st (roll_of i)) runs

  pub taken_first : Begun i line s new
  taken_first =
      let answers : Task → Result (ℕ × ℕ × ℕ) ManagerFault = λ t. Ok (s, t.kind, t.name) in
      let leaves : Roll → State (Unit {0}) = λ v. record { roll = v; ready_line = contents_of line; free_line = free_of i; values = no_values } in
      record {
        answer = λ t shown. ap answers (shown ∙ same_task) ∙ sym (ap take_answer outcome);
        after = ap leaves roll ∙ sym (ap (left_by (state_of i no_values)) outcome);
        sound = moved_sound i sound line s new held same_task (ap is_free stands) (ap is_waiting stands ∙ sym (ap is_waiting was))
            (line_taken i sound.seated s (contents_of line) first line new low refl (ap is_ready stands));
      }
