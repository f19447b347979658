-- The turns and the rounds that are left, one fewer after each. Assumes nothing.
use Rattle.std.proofs.Common.{◌≡◌, ℕ, suc, ◌+◌, ◌-◌, ◌<◌, List, ◌++◌, Ok, Err, Result, sym, refl, ap, ◌∙◌, append_assoc, append-nil, arith}
use Rattle.fault.specs.declared.ManagerFault.{ManagerFault}
use Rattle.roll.specs.Calls.{Setting, State}
use Rattle.roll.specs.Built.{state_after, turn_calls, turn_answer}
use Rattle.roll.specs.Rehearsal as roll
use Rattle.roll.specs.Rehearsal.{turned, drained, rehearsed}
use Rattle.rehearse_run.specs.declared.rounds.Next.{Next}
use Rattle.rehearse_run.specs.declared.rounds.Next.TheVariants.{On, Drain, Stop}
use Rattle.rehearse_run.specs.Rounds.{rounds, turned_state, drained_state, rehearsed_state, Turned, Goes, Drained}

-- how many rounds there are
pub rounds_are : rounds ≡ 131584
unfolding rounds
rounds_are = refl

-- one fewer is left
one_left : (n i : ℕ) → i < n → n - i ≡ suc (n - (i + 1))
one_left n i h = omega arith

-- a turn that was made, by what it answers
turn_lines : (t : Result (ℕ × ℕ) ManagerFault) (before after rest : List roll.Line) → Turned t before On after → after ++ rest ≡ before ++ turned t rest
turn_lines (Ok p) before after rest (e, l) = rw l (append_assoc before _ rest)
turn_lines (Err fault) before after rest (e, l) = let z : ◌≡◌ {A = ℕ} 0 1 = cc in absurd (omega arith)

turn_state : {V : Type 0} (t : Result (ℕ × ℕ) ManagerFault) (before after : List roll.Line) (rest left : State V) → Turned t before On after → rest ≡ turned_state t rest left
turn_state (Ok p) before after rest left (e, l) = refl
turn_state (Err fault) before after rest left (e, l) = let z : ◌≡◌ {A = ℕ} 0 1 = cc in absurd (omega arith)

-- one that is refused
end_lines : (t : Result (ℕ × ℕ) ManagerFault) (before after rest : List roll.Line) (next : Next) → (next ≡ On → ⊥) → Turned t before next after → after ≡ before ++ turned t rest
end_lines (Ok p) before after rest next other (e, l) = absurd (other e)
end_lines (Err fault) before after rest next other (e, l) = l

end_state : {V : Type 0} (t : Result (ℕ × ℕ) ManagerFault) (before after : List roll.Line) (rest left : State V) (next : Next) → (next ≡ On → ⊥) → Turned t before next after →
    left ≡ turned_state t rest left
end_state (Ok p) before after rest left next other (e, l) = absurd (other e)
end_state (Err fault) before after rest left next other (e, l) = refl

module _ {V : Type 0} (m : Setting V) (most i : ℕ) (lt : i < most) (b d : State V) (before after : List roll.Line) (left : d ≡ state_after m b (turn_calls m b)) where
  -- after a turn that was made, the turns that are left come to the same
  pub drain_lines : (k : Setting V) → k ≡ m → Turned (turn_answer m b) before On after → after ++ drained k (most - (i + 1)) d ≡ before ++ drained m (most - i) b
  drain_lines k same t =
      ap (λ (x : Setting V). after ++ drained x (most - (i + 1)) d) same
      ∙ ap (λ (x : State V). after ++ drained m (most - (i + 1)) x) left
      ∙ turn_lines (turn_answer m b) before after (drained m (most - (i + 1)) (state_after m b (turn_calls m b))) t
      ∙ ap (λ (n : ℕ). before ++ drained m n b) (sym (one_left most i lt))

  pub drain_state : (k : Setting V) → k ≡ m → Turned (turn_answer m b) before On after → drained_state k (most - (i + 1)) d ≡ drained_state m (most - i) b
  drain_state k same t =
      ap (λ (x : Setting V). drained_state x (most - (i + 1)) d) same
      ∙ ap (λ (x : State V). drained_state m (most - (i + 1)) x) left
      ∙ turn_state (turn_answer m b) before after (drained_state m (most - (i + 1)) (state_after m b (turn_calls m b))) (state_after m b (turn_calls m b)) t
      ∙ ap (λ (n : ℕ). drained_state m n b) (sym (one_left most i lt))

  -- one that is refused ends them
  pub drain_ends : (next : Next) → (next ≡ On → ⊥) → Turned (turn_answer m b) before next after → (all : List roll.Line) → before ++ drained m (most - i) b ≡ all → after ≡ all
  drain_ends next other t all e =
      end_lines (turn_answer m b) before after (drained m (most - (i + 1)) (state_after m b (turn_calls m b))) next other t
      ∙ ap (λ (n : ℕ). before ++ drained m n b) (sym (one_left most i lt)) ∙ e

  pub drain_left : (next : Next) → (next ≡ On → ⊥) → Turned (turn_answer m b) before next after → (all : State V) → drained_state m (most - i) b ≡ all → d ≡ all
  drain_left next other t all e =
      left ∙ end_state (turn_answer m b) before after (drained_state m (most - (i + 1)) (state_after m b (turn_calls m b))) (state_after m b (turn_calls m b)) next other t
      ∙ ap (λ (n : ℕ). drained_state m n b) (sym (one_left most i lt)) ∙ e

module _ {V : Type 0} (m : Setting V) (bytes : List ℕ) (i : ℕ) (lt : i < rounds) (place at : ℕ) (b d : State V) (before after : List roll.Line) where
  -- after a round with another behind it, the rounds that are left come to the same
  pub round_lines : Goes m bytes place b before On at d after → (k : Setting V) → k ≡ m → (bs : List ℕ) → bs ≡ bytes →
      after ++ rehearsed k bs (rounds - (i + 1)) at d ≡ before ++ rehearsed m bytes (rounds - i) place b
  round_lines g k same bs equal =
      ap (λ (x : Setting V). after ++ rehearsed x bs (rounds - (i + 1)) at d) same ∙ ap (λ (x : List ℕ). after ++ rehearsed m x (rounds - (i + 1)) at d) equal
      ∙ g.lines (rounds - (i + 1)) ∙ ap (λ (n : ℕ). before ++ rehearsed m bytes n place b) (sym (one_left rounds i lt))

  pub round_state : Goes m bytes place b before On at d after → (k : Setting V) → k ≡ m → (bs : List ℕ) → bs ≡ bytes →
      rehearsed_state k bs (rounds - (i + 1)) at d ≡ rehearsed_state m bytes (rounds - i) place b
  round_state g k same bs equal =
      ap (λ (x : Setting V). rehearsed_state x bs (rounds - (i + 1)) at d) same ∙ ap (λ (x : List ℕ). rehearsed_state m x (rounds - (i + 1)) at d) equal
      ∙ g.state (rounds - (i + 1)) ∙ ap (λ (n : ℕ). rehearsed_state m bytes n place b) (sym (one_left rounds i lt))

  -- a round with nothing behind it ends them
  pub stop_lines : Goes m bytes place b before Stop at d after → (all : List roll.Line) → before ++ rehearsed m bytes (rounds - i) place b ≡ all → after ≡ all
  stop_lines g all e =
      sym (append-nil after) ∙ g.lines (rounds - (i + 1)) ∙ ap (λ (n : ℕ). before ++ rehearsed m bytes n place b) (sym (one_left rounds i lt)) ∙ e

  pub stop_state : Goes m bytes place b before Stop at d after → (all : State V) → rehearsed_state m bytes (rounds - i) place b ≡ all → d ≡ all
  stop_state g all e = g.state (rounds - (i + 1)) ∙ ap (λ (n : ℕ). rehearsed_state m bytes n place b) (sym (one_left rounds i lt)) ∙ e

  -- and so do the turns at the end of the stream
  module _ (g : Goes m bytes place b before Drain at d after) (k : Setting V) (same : k ≡ m) (most : ℕ) (fuel : most ≡ rounds - i) (z : State V) (last : List roll.Line)
      (r : Drained k most d after z last) where
    pub last_lines : (all : List roll.Line) → before ++ rehearsed m bytes (rounds - i) place b ≡ all → last ≡ all
    last_lines all e =
        r.lines ∙ ap (λ (x : Setting V). after ++ drained x most d) same ∙ ap (λ (n : ℕ). after ++ drained m n d) (fuel ∙ one_left rounds i lt)
        ∙ g.lines (rounds - (i + 1)) ∙ ap (λ (n : ℕ). before ++ rehearsed m bytes n place b) (sym (one_left rounds i lt)) ∙ e

    pub last_state : (all : State V) → rehearsed_state m bytes (rounds - i) place b ≡ all → z ≡ all
    last_state all e =
        r.state ∙ ap (λ (x : Setting V). drained_state x most d) same ∙ ap (λ (n : ℕ). drained_state m n d) (fuel ∙ one_left rounds i lt)
        ∙ g.state (rounds - (i + 1)) ∙ ap (λ (n : ℕ). rehearsed_state m bytes n place b) (sym (one_left rounds i lt)) ∙ e

-- where no round is left
pub none_left : {V : Type 0} (m : Setting V) (bytes : List ℕ) (n place : ℕ) (b : State V) (before all : List roll.Line) → n ≡ 0 → before ++ rehearsed m bytes n place b ≡ all → before ≡ all
none_left m bytes n place b before all z e = sym (append-nil before) ∙ ap (λ (k : ℕ). before ++ rehearsed m bytes k place b) (sym z) ∙ e

pub state_left : {V : Type 0} (m : Setting V) (bytes : List ℕ) (n place : ℕ) (b all : State V) → n ≡ 0 → rehearsed_state m bytes n place b ≡ all → b ≡ all
state_left m bytes n place b all z e = ap (λ (k : ℕ). rehearsed_state m bytes k place b) (sym z) ∙ e
