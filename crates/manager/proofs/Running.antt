-- A step of a seat, by its record, and the outcome of the call on the roll. Assumes nothing.
--   step_told       by the seat's record before the step and after it: the answer, the state, and that the fields still agree
--   step_none       where there is no such seat
use Rattle.std.proofs.Common.{◌≡◌, ℕ, ◌≤◌, ◌<◌, true, false, ltb, List, [], ◌∷◌, get_or, vec_items, vec_len, is_ok, None, Ok, Err, Option, Result, sym, refl, ap, ◌∙◌, subst, ap₂, inl, inr, arith}
use Rattle.std.proofs.lemmas.Bool.{cases_Bool, ltb-true, ltb-false}
use Rattle.fault.specs.declared.ManagerFault.{ManagerFault}
use Rattle.task.specs.declared.Access.{Access}
use Rattle.task.specs.Task.{accesses_of}
use Rattle.host.specs.Meaning.{Fixed, Values}
use Rattle.order.specs.Steps.{Step, bring, put, Job}
use Rattle.roll.specs.Roll.{Standing as OnRoll, waiting, ready, running, Entry, Roll, find, change}
use Rattle.roll.specs.Tables.{tally}
use Rattle.roll.specs.Calls.{State, Outcome, refused, succeeded, stepped, stepped_at}
use Rattle.roll.specs.Built.{left_by}
use Rattle.seat.specs.declared.Standing.{Standing}
use Rattle.seat.specs.declared.Standing.TheVariants.{Free, Waiting, Ready, Running}
use Rattle.seat.specs.declared.seats.Seat.{Seat}
use Rattle.seat.specs.Phases.{standing_of}
use Rattle.manager.specs.declared.inner.Inner.{Inner}
use Rattle.manager.specs.Answers.{step_answer}
use Rattle.manager.specs.Model.{seat_at, entry_of, roll_of, ready_of, free_of, state_of}
use Rattle.manager.specs.Sound.{Sound, is_free, is_waiting, is_ready, free_at, ready_at}
use Rattle.manager.specs.declared.manager.steps.StepDone.{StepDone}
use Rattle.manager.specs.Stepped.{numbers_of, stepped_answer, stepped_standing, stepped_values}
use Rattle.manager.proofs.Moving.{moved_roll, moved_sound}
use Rattle.manager.proofs.Records.{with_record, each_record, record_back}
use Rattle.manager.proofs.Seats.{roll_found, roll_none, seat_low, lent_is}
use Rattle.manager.proofs.Standings.{only_free}

-- a call that does not answer leaves the state
refused_leaves : {V : Type 0} (b : State V) (o : Outcome V) → is_ok (step_answer o) ≡ false → left_by b o ≡ b
refused_leaves b (refused fault) h = refl
refused_leaves b (succeeded r) h = absurd cc

-- what a step answers, as the two plain numbers that the call answers
abbrev pub as_numbers : Result StepDone ManagerFault → Result (ℕ × ℕ) ManagerFault
as_numbers (Ok done) = Ok (numbers_of done)
as_numbers (Err fault) = Err fault

as_numbers_ok : (res : Result StepDone ManagerFault) → is_ok (as_numbers res) ≡ is_ok res
as_numbers_ok (Ok done) = refl
as_numbers_ok (Err fault) = refl

-- a step answers by the standing alone
answer_by : {V : Type 0} (h : Fixed V) (b : State V) (s : ℕ) (j : Job) (st : OnRoll) → step_answer (stepped h b s j st) ≡ as_numbers (stepped_answer s st)
answer_by h b s j waiting = refl
answer_by h b s j ready = refl
answer_by h b s j (running []) = refl
answer_by h b s j (running (bring x p ∷ ss)) = refl
answer_by h b s j (running (put x ∷ ss)) = refl

-- a standing that answers a step has one left
pub record Left (st : OnRoll) : Type 0 where
  pub next : Step
  pub rest : List Step
  pub is : st ≡ running (next ∷ rest)

step_left : (s : ℕ) (st : OnRoll) → is_ok (stepped_answer s st) ≡ true → Left st
step_left s waiting h = absurd cc
step_left s ready h = absurd cc
step_left s (running []) h = absurd cc
step_left s (running (σ ∷ ss)) h = record { next = σ; rest = ss; is = refl }

-- a seat with a running entry is neither free nor waiting nor ready
runs : (xs : List Access) (st : Standing) (ss : List Step) → standing_of xs st ≡ running ss → (is_free st ≡ false) × (is_waiting st ≡ false) × (is_ready st ≡ false)
runs xs Free ss e = absurd cc
runs xs Waiting ss e = absurd cc
runs xs Ready ss e = absurd cc
runs xs (Running p) ss e = (refl, refl, refl)

-- what a step of this seat, which answers this and leaves this record and these values, comes to: its answer, the state, and that the
-- fields agree; at is the place of its record
pub record Runs {V : Type 0} (i : Inner) (s at : ℕ) (r : Seat) (h : Fixed V) (w w' : Values V) (res : Result StepDone ManagerFault) : Type 0 where
  pub answer : as_numbers res ≡ step_answer (stepped_at h (state_of i w) s (find s (roll_of i)))
  pub after : state_of (with_record i i.ready at r) w' ≡ left_by (state_of i w) (stepped_at h (state_of i w) s (find s (roll_of i)))
  pub sound : Sound (with_record i i.ready at r)

module _ {V : Type 0} (i : Inner) (sound : Sound i) (s : ℕ) (r : Seat) (h : Fixed V) (w w' : Values V) (res : Result StepDone ManagerFault)
    (answer : res ≡ stepped_answer s (entry_of (seat_at i s) s).standing)
    (standing : standing_of (accesses_of r.task) r.standing ≡ stepped_standing (entry_of (seat_at i s) s).standing)
    (task : r.task ≡ (seat_at i s).task)
    (values : w' ≡ stepped_values h (entry_of (seat_at i s) s).job (entry_of (seat_at i s) s).standing w)
    (kept : is_ok res ≡ false → with_record i i.ready s r ≡ i) (host : is_ok res ≡ false → w' ≡ w) where
  abbrev entry : Entry
  entry = entry_of (seat_at i s) s

  abbrev outcome : Outcome V
  outcome = stepped_at h (state_of i w) s (find s (roll_of i))

  abbrev after : Inner
  after = with_record i i.ready s r

  -- the answer is that of the call
  step_answers : as_numbers res ≡ step_answer outcome
  step_answers =
      elim (cases_Bool (free_at i s)) [
        | inl free ↦
            ap as_numbers (answer ∙ ap (λ (st : Standing). stepped_answer s (standing_of entry.job.accesses st)) (only_free (seat_at i s).standing free))
            ∙ sym (ap (λ (o : Option Entry). step_answer (stepped_at h (state_of i w) s o)) (roll_none i sound.seated s free))
        | inr taken ↦
            ap as_numbers answer ∙ sym (answer_by h (state_of i w) s entry.job entry.standing)
            ∙ sym (ap (λ (o : Option Entry). step_answer (stepped_at h (state_of i w) s o)) (roll_found i sound.seated s taken))
      ]

  -- where the seat has a step to do
  module _ (l : Left entry.standing) where
    held : free_at i s ≡ false
    held = (runs entry.job.accesses (seat_at i s).standing (l.next ∷ l.rest) l.is).0

    done_outcome : outcome ≡ stepped h (state_of i w) s entry.job (running (l.next ∷ l.rest))
    done_outcome = ap (stepped_at h (state_of i w) s) (roll_found i sound.seated s held) ∙ ap (stepped h (state_of i w) s entry.job) l.is

    done_standing : standing_of (accesses_of r.task) r.standing ≡ running l.rest
    done_standing = standing ∙ ap stepped_standing l.is

    done_after : state_of after w' ≡ left_by (state_of i w) outcome
    done_after =
        let roll = moved_roll i sound i.ready s r held task ∙ ap (λ (st : OnRoll). change s st (roll_of i)) done_standing in
        let leaves : Roll → Values V → State V = λ v u. record { roll = v; ready_line = ready_of i; free_line = free_of i; values = u } in
        ap₂ leaves roll (values ∙ ap (λ (st : OnRoll). stepped_values h entry.job st w) l.is) ∙ sym (ap (left_by (state_of i w)) done_outcome)

    done_sound : Sound after
    done_sound =
        let was = runs entry.job.accesses (seat_at i s).standing (l.next ∷ l.rest) l.is in
        let now = runs (accesses_of r.task) r.standing l.rest done_standing in
        let ready-same : (t : ℕ) → ready_at after t ≡ ready_at i t =
        each_record i i.ready s r sound.seated.full (seat_low i sound.seated s held) (λ (x : Seat). is_ready x.standing) (now.2 ∙ sym was.2) in
        moved_sound i sound i.ready s r held task now.0 (now.1 ∙ sym was.1) (λ t. sound.seated.lined t ∙ ap tally (sym (ready-same t)))

  -- the state is the one that the call leaves
  step_after : state_of after w' ≡ left_by (state_of i w) outcome
  step_after =
      elim (cases_Bool (is_ok res)) [
        | inl ok ↦ done_after (step_left s entry.standing (ap is_ok (sym answer) ∙ ok))
        | inr err ↦ ap₂ (λ (k : Inner) (u : Values V). state_of k u) (kept err) (host err) ∙ sym (refused_leaves (state_of i w) outcome (ap is_ok (sym step_answers) ∙ as_numbers_ok res ∙ err))
      ]

  -- and the fields still agree with one another
  step_sound : Sound after
  step_sound =
      elim (cases_Bool (is_ok res)) [
        | inl ok ↦ done_sound (step_left s entry.standing (ap is_ok (sym answer) ∙ ok))
        | inr err ↦ subst Sound (sym (kept err)) sound
      ]

-- a step by the record that was lent at a place, which is the seat's, and what it says of the record after it
pub step_told : {V : Type 0} (i : Inner) → Sound i → (s at : ℕ) (old r : Seat) (h : Fixed V) (w w' : Values V) (res : Result StepDone ManagerFault) → at ≡ s →
    true ≡ ltb at (vec_len i.table.records) → old ≡ get_or (vec_items i.table.records) at old →
    res ≡ stepped_answer s (entry_of old s).standing →
    (entry_of r s).standing ≡ stepped_standing (entry_of old s).standing → r.task ≡ old.task →
    w' ≡ stepped_values h (entry_of old s).job (entry_of old s).standing w →
    (is_ok res ≡ false → r ≡ old) → (is_ok res ≡ false → w' ≡ w) → Runs i s at r h w w' res
step_told i sound s at old r h w w' res here inside lent answer standing task values kept host =
    let lent : old ≡ get_or (vec_items i.table.records) s old = rw here at lent in
    let low : s < 256 = omega (arith, ltb-true _ _ (sym inside), sound.seated.full) in
    let read : old ≡ seat_at i s = lent_is i s old sound.seated.full low lent in
    let answer : res ≡ stepped_answer s (entry_of (seat_at i s) s).standing = answer ∙ ap (λ (x : Seat). stepped_answer s (entry_of x s).standing) read in
    let standing : (entry_of r s).standing ≡ stepped_standing (entry_of (seat_at i s) s).standing =
    standing ∙ ap (λ (x : Seat). stepped_standing (entry_of x s).standing) read in
    let task : r.task ≡ (seat_at i s).task = task ∙ ap (λ (x : Seat). x.task) read in
    let values : w' ≡ stepped_values h (entry_of (seat_at i s) s).job (entry_of (seat_at i s) s).standing w =
    values ∙ ap (λ (x : Seat). stepped_values h (entry_of x s).job (entry_of x s).standing w) read in
    let kept : is_ok res ≡ false → with_record i i.ready s r ≡ i =
    λ err. ap (λ (x : Seat). with_record i i.ready s x) (kept err) ∙ record_back i s old lent in
    rw here
    (record {
      answer = step_answers i sound s r h w w' res answer standing task values kept host;
      after = step_after i sound s r h w w' res answer standing task values kept host;
      sound = step_sound i sound s r h w w' res answer standing task values kept host;
    })

-- a seat beyond the table does not run
pub step_none : {V : Type 0} (i : Inner) → Sound i → (s : ℕ) (h : Fixed V) (b : State V) → false ≡ ltb s (vec_len i.table.records) →
    stepped_at h b s (find s (roll_of i)) ≡ stepped_at h b s None
step_none i sound s h b outside =
    let past : 256 ≤ s = omega (arith, ltb-false _ _ (sym outside), sound.seated.full) in
    elim (cases_Bool (free_at i s)) [
      | inl free ↦ ap (stepped_at h b s) (roll_none i sound.seated s free)
      | inr taken ↦ absurd (omega (arith, past, seat_low i sound.seated s taken))
    ]
