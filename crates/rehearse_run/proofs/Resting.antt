-- Where the last line is the end, no task is unfinished. Assumes nothing.
use Rattle.std.proofs.Common.{◌≡◌, ℕ, zero, suc, Bool, true, false, cond, eqb, List, [], ◌∷◌, drop, is_ok, Ok, Err, Result, sym, refl, ◌∙◌, subst, arith}
use Rattle.fault.specs.declared.ManagerFault.{ManagerFault}
use Rattle.fault.specs.Numbers.{cause_number}
use Rattle.layout.specs.Reading.{read}
use Rattle.roll.specs.Roll.{Roll}
use Rattle.roll.specs.Calls.{Setting, State}
use Rattle.roll.specs.Built.{state_after, turn_calls, turn_answer, feed_calls, feed_answer, fed_place, Fed, submitted_to, finished_with, FeedFailure}
use Rattle.roll.specs.History.{History}
use Rattle.roll.specs.Law.{Holds}
use Rattle.roll.specs.Rehearsal.{Line, refusal, turned, drained, stalling, by_feed, rehearsed}
use Rattle.rehearse_run.specs.Ends.{Ended}
use Rattle.rehearse_run.specs.Rounds.{turned_state, drained_state, state_by_feed, rehearsed_state}
use Rattle.rehearse_run.proofs.Still.{AllStill, feed_still, turn_still, turn_refused, Stuck, none_works}

module _ {V : Type 0} (m : Setting V) where
  -- by what a turn answers, and by what a feed answers
  turned_stuck : (t : Result (ℕ × ℕ) ManagerFault) (rest : List Line) (on d : State V) → (Ended rest → Stuck m on) → (is_ok t ≡ false → Stuck m d) →
      Ended (turned t rest) → Stuck m (turned_state t on d)
  turned_stuck (Ok p) rest on d h k e = h e
  turned_stuck (Err fault) rest on d h k e = k refl

  number_stuck : (k : ℕ) (p q : Bool) (again last : List Line) (a l b : State V) → (Ended again → Stuck m a) → (Ended last → Stuck m l) →
      Ended (cond p last (cond q again (refusal k ∷ []))) → Stuck m (cond p l (cond q a b))
  number_stuck k true q again last a l b h i e = i e
  number_stuck k false true again last a l b h i e = h e
  number_stuck k false false again last a l b h i e = absurd e

  feed_stuck : (f : Result Fed FeedFailure) (on again last : List Line) (o a l b : State V) → (Ended on → Stuck m o) → (Ended again → Stuck m a) → (Ended last → Stuck m l) →
      Ended (by_feed f on again last) → Stuck m (state_by_feed f o a l b)
  feed_stuck (Ok (submitted_to s)) on again last o a l b g h i e = g e
  feed_stuck (Ok (finished_with n)) on again last o a l b g h i e = g e
  feed_stuck (Err x) on again last o a l b g h i e =
      number_stuck (cause_number x.cause) (eqb (cause_number x.cause) 1) (stalling (cause_number x.cause)) again last a l b h i e

  -- a turn that is refused leaves a state in which nothing goes on
  stuck_here : (b : State V) → AllStill b.roll → is_ok (turn_answer m b) ≡ false → Stuck m (state_after m b (turn_calls m b))
  stuck_here b h p = subst (Stuck m) (sym (turn_refused m b p).0) ((turn_refused m b p).1, h)

  drained_stuck : (n : ℕ) (b : State V) → AllStill b.roll → Ended (drained m n b) → Stuck m (drained_state m n b)
  drained_stuck zero b h e = absurd e
  drained_stuck (suc n) b h e =
      let d : State V = state_after m b (turn_calls m b) in
      turned_stuck (turn_answer m b) (drained m n d) (drained_state m n d) d (λ x. drained_stuck n d (turn_still m b h) x) (stuck_here b h) e

  pub rehearsed_stuck : (bytes : List ℕ) (n place : ℕ) (b : State V) → AllStill b.roll → Ended (rehearsed m bytes n place b) → Stuck m (rehearsed_state m bytes n place b)
  rehearsed_stuck bytes zero place b h e = absurd e
  rehearsed_stuck bytes (suc n) place b h e =
      let d : State V = state_after m b (turn_calls m b) in
      let f : State V = state_after m b (feed_calls (read place (drop place bytes))) in
      let at : ℕ = fed_place m b bytes place in
      feed_stuck (feed_answer m b bytes place) (rehearsed m bytes n at f) (turned (turn_answer m b) (rehearsed m bytes n place d)) (drained m (suc n) b)
      (rehearsed_state m bytes n at f) (turned_state (turn_answer m b) (rehearsed_state m bytes n place d) d) (drained_state m (suc n) b) b
      (λ x. rehearsed_stuck bytes n at f (feed_still b m (read place (drop place bytes)) h) x)
      (λ x. turned_stuck (turn_answer m b) (rehearsed m bytes n place d) (rehearsed_state m bytes n place d) d (λ y. rehearsed_stuck bytes n place d (turn_still m b h) y) (stuck_here b h) x)
      (λ x. drained_stuck (suc n) b h x) e

  -- by the law, where nothing goes on no task is unfinished
  empty_roll : (roll : Roll) → ((roll ≡ [] → ⊥) → ⊥) → roll ≡ []
  empty_roll [] f = refl
  empty_roll (e ∷ es) f = absurd (f (λ p. let z : ◌≡◌ {A = ℕ} 0 1 = cc in omega arith))

  pub at_rest : (h : History V) → Holds m h → Stuck m h.state → h.state.roll ≡ []
  at_rest h law stuck =
      empty_roll h.state.roll (λ busy. let c = law.goes_on busy in let z : ◌≡◌ {A = ℕ} 0 1 = sym (none_works m h.state stuck c.0) ∙ c.1 in omega arith)
