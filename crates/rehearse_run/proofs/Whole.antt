-- A whole rehearsal: all rounds from a manager that was just made. Assumes nothing.
use Rattle.std.proofs.Common.{◌≡◌, ℕ, ◌<◌, ◌/◌, ◌%◌, ◌==◌, ◌&&◌, nat_lt, true, List, [], ◌++◌, length, take, sym, refl, ap, ◌∙◌, subst, arith, length-take}
use Rattle.std.proofs.Math.Nat.{div-one, mod-one}
use Rattle.std.proofs.lemmas.Bool.{lt-ltb}
use Rattle.host.specs.Meaning.{Fixed, Values}
use Rattle.roll.specs.Calls.{Setting, setting, State, made}
use Rattle.roll.specs.Law.{Idle}
use Rattle.roll.specs.Rehearsal as roll
use Rattle.roll.specs.Rehearsal.{rehearsed}
use Rattle.stamp_host.specs.Stamps.{fixed_for, all_zero}
use Rattle.rehearse_run.specs.Rounds.{rounds, rehearsed_state, Went}
use Rattle.runs.specs.Obeys.{history, Lawful, Obeys}
use Rattle.rehearse_run.specs.Ends.{Ends, Ended}
use Rattle.rehearse_run.specs.Made.{rehearsed_calls}
use Rattle.serial_run.specs.Job.{max_input, stamp_count}
use Rattle.rehearse_run.specs.Job.{stage, start}
use Rattle.rehearse_run.proofs.Looping.{rounds_are}
use Rattle.rehearse_run.proofs.Calling.{rehearsed_after}
use Rattle.rehearse_run.proofs.Still.{AllStill, Stuck}
use Rattle.rehearse_run.proofs.Resting.{rehearsed_stuck, at_rest}
use Rattle.rehearse_run.proofs.Ending.{left_at, rehearsed_ends}

-- the setting and the state at the beginning are those of the job
pub on_stage : (n : Setting ℕ) (h : Fixed ℕ) → n ≡ setting h 256 512 → h ≡ fixed_for stamp_count → n ≡ stage
unfolding stage
on_stage n h e f = e ∙ ap (λ (x : Fixed ℕ). setting x 256 512) f

pub at_start : (b : State ℕ) (h : Fixed ℕ) (w : Values ℕ) → b ≡ made (setting h 256 512) w → w ≡ all_zero → b ≡ start
unfolding stage start
at_start b h w e v = e ∙ ap (λ (x : Values ℕ). made (setting h 256 512) x) v

-- there are enough rounds for every stream
start_empty : length start.roll ≡ 0
unfolding start
start_empty = refl

enough : (bytes : List ℕ) → left_at (take max_input bytes) 0 start < rounds
enough bytes = omega (arith, length-take max_input bytes, start_empty, rounds_are)

pub all_ends : (bytes : List ℕ) → Ends (rehearsed stage (take max_input bytes) rounds 0 start)
all_ends bytes = rehearsed_ends stage (take max_input bytes) rounds 0 start (enough bytes)

module _ (n : Setting ℕ) (bs all : List ℕ) (at : ℕ) (b : State ℕ) (ls : List roll.Line) (z : State ℕ) (last : List roll.Line) (went : Went n bs rounds at b ls z last)
    (same : n ≡ stage) (front : bs ≡ all) (first : at ≡ 0) (new : b ≡ start) where
  -- so the lines and the state are those of the whole stream
  pub whole_lines : ls ≡ [] → last ≡ rehearsed stage all rounds 0 start
  whole_lines none =
      went.lines ∙ ap (λ (x : List roll.Line). x ++ rehearsed n bs rounds at b) none ∙ ap (λ (x : Setting ℕ). rehearsed x bs rounds at b) same
      ∙ ap (λ (x : List ℕ). rehearsed stage x rounds at b) front ∙ ap (λ (x : ℕ). rehearsed stage all rounds x b) first
      ∙ ap (λ (x : State ℕ). rehearsed stage all rounds 0 x) new

  pub whole_state : z ≡ rehearsed_state stage all rounds 0 start
  whole_state =
      went.state ∙ ap (λ (x : Setting ℕ). rehearsed_state x bs rounds at b) same ∙ ap (λ (x : List ℕ). rehearsed_state stage x rounds at b) front
      ∙ ap (λ (x : ℕ). rehearsed_state stage all rounds x b) first ∙ ap (λ (x : State ℕ). rehearsed_state stage all rounds 0 x) new

-- the law of the maker, in the words of the job
pub obeys_here : (h : Fixed ℕ) (w : Values ℕ) → h ≡ fixed_for stamp_count → w ≡ all_zero → Obeys (setting h 256 512) w → Obeys stage all_zero
unfolding stage
obeys_here h w f v law =
    subst (λ (x : Values ℕ). Obeys (setting (fixed_for stamp_count) 256 512) x) v (subst (λ (x : Fixed ℕ). Obeys (setting x 256 512) w) f law)

-- the calls of the whole rehearsal leave its state
pub calls_leave : (all : List ℕ) → Lawful stage all_zero (rehearsed_calls stage all rounds 0 start) →
    rehearsed_state stage all rounds 0 start ≡ (history stage all_zero (rehearsed_calls stage all rounds 0 start)).state
unfolding start
calls_leave all lawful = sym (rehearsed_after stage all rounds 0 start) ∙ sym lawful.state

-- where the last line is the end no task is unfinished, and every stamp is the one of the one-at-a-time run
start_still : AllStill start.roll
unfolding start
start_still = tt

module _ (all : List ℕ) (lawful : Lawful stage all_zero (rehearsed_calls stage all rounds 0 start)) (e : Ended (rehearsed stage all rounds 0 start)) where
  pub rests : Idle (history stage all_zero (rehearsed_calls stage all rounds 0 start))
  rests =
      at_rest stage (history stage all_zero (rehearsed_calls stage all rounds 0 start)) lawful.law
      (subst (λ (x : State ℕ). Stuck stage x) (calls_leave all lawful) (rehearsed_stuck stage all rounds 0 start start_still e))

  stage_holds : (a : ℕ) → a < stamp_count → stage.host.held a ≡ true
  unfolding stage
  stage_holds a lt =
      let rest : a % 1 ≡ 0 = mod-one a in
      let place : a / 1 ≡ a = div-one a in
      ap (λ (k : ℕ). (k == 0) && nat_lt (a / 1) stamp_count) rest ∙ ap (λ (k : ℕ). nat_lt k stamp_count) place ∙ lt-ltb a stamp_count lt

  pub same_stamps : (a : ℕ) → a < stamp_count →
      (history stage all_zero (rehearsed_calls stage all rounds 0 start)).state.values.at a ≡ (history stage all_zero (rehearsed_calls stage all rounds 0 start)).serial a
  same_stamps a lt = lawful.law.values_agree rests a (stage_holds a lt)
