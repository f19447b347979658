-- The state that a rehearsal leaves is the one that its calls leave, one after the other. Assumes nothing.
use Rattle.std.proofs.Common.{◌≡◌, ℕ, zero, suc, Bool, true, false, cond, eqb, List, [], ◌++◌, drop, Ok, Err, Result, refl, ap, ◌∙◌, arith}
use Rattle.fault.specs.declared.ManagerFault.{ManagerFault}
use Rattle.fault.specs.Numbers.{cause_number}
use Rattle.layout.specs.Layout.{Contents}
use Rattle.layout.specs.Reading.{Read, read}
use Rattle.roll.specs.Calls.{Setting, State, Call, Outcome, refused, succeeded, perform}
use Rattle.roll.specs.Built.{left_by, state_after, turn_calls, turn_answer, asked, feed_calls, feed_answer, feed_from, fed_from, fed_place, Fed, FeedFailure}
use Rattle.roll.specs.Rehearsal.{stalling}
use Rattle.rehearse_run.specs.Rounds.{turned_state, drained_state, state_by_feed, rehearsed_state}
use Rattle.rehearse_run.specs.Made.{turned_calls, drained_calls, calls_by_feed, rehearsed_calls}
use Rattle.roll.proofs.Parts.{after-++}

-- a feed that is refused leaves the state
left_at_refusal : {V : Type 0} (b : State V) (place : ℕ) (c : Contents) (o : Outcome V) (g : FeedFailure) → fed_from place c o ≡ Err g → left_by b o ≡ b
left_at_refusal b place c (refused fault) g q = refl
left_at_refusal b place c (succeeded r) g q = let z : ◌≡◌ {A = ℕ} 0 1 = cc in absurd (omega arith)

feed_leaves : {V : Type 0} (m : Setting V) (b : State V) (place : ℕ) (o : Read Contents) (g : FeedFailure) → feed_from m b place o ≡ Err g → state_after m b (feed_calls o) ≡ b
feed_leaves m b place (Ok p) g q = left_at_refusal b place p.0 (perform m b (asked p.0)) g q
feed_leaves m b place (Err fault) g q = refl

module _ {V : Type 0} (m : Setting V) where
  -- a turn and what follows it
  turned_after : (t : Result (ℕ × ℕ) ManagerFault) (d rest : State V) (cs : List Call) → state_after m d cs ≡ rest → state_after m d (turned_calls t cs) ≡ turned_state t rest d
  turned_after (Ok p) d rest cs e = e
  turned_after (Err fault) d rest cs e = refl

  turn_then : (b rest : State V) (cs : List Call) → state_after m (state_after m b (turn_calls m b)) cs ≡ rest →
      state_after m b (turn_calls m b ++ turned_calls (turn_answer m b) cs) ≡ turned_state (turn_answer m b) rest (state_after m b (turn_calls m b))
  turn_then b rest cs e =
      after-++ m b (turn_calls m b) (turned_calls (turn_answer m b) cs) ∙ turned_after (turn_answer m b) (state_after m b (turn_calls m b)) rest cs e

  drained_after : (n : ℕ) (b : State V) → state_after m b (drained_calls m n b) ≡ drained_state m n b
  drained_after zero b = refl
  drained_after (suc n) b =
      turn_then b (drained_state m n (state_after m b (turn_calls m b))) (drained_calls m n (state_after m b (turn_calls m b))) (drained_after n (state_after m b (turn_calls m b)))

  -- a feed and what follows it
  number_after : (p q : Bool) (b again last : State V) (us ls : List Call) → state_after m b us ≡ again → state_after m b ls ≡ last →
      state_after m b (cond p ls (cond q us [])) ≡ cond p last (cond q again b)
  number_after true q b again last us ls a l = l
  number_after false true b again last us ls a l = a
  number_after false false b again last us ls a l = refl

  feed_after : (f : Result Fed FeedFailure) (b d on again last : State V) (os us ls : List Call) → ((g : FeedFailure) → f ≡ Err g → d ≡ b) → state_after m d os ≡ on →
      state_after m b us ≡ again → state_after m b ls ≡ last → state_after m d (calls_by_feed f os us ls) ≡ state_by_feed f on again last b
  feed_after (Ok fed) b d on again last os us ls same o a l = o
  feed_after (Err g) b d on again last os us ls same o a l =
      let k : ℕ = cause_number g.cause in
      ap (λ (x : State V). state_after m x (cond (eqb k 1) ls (cond (stalling k) us []))) (same g refl) ∙ number_after (eqb k 1) (stalling k) b again last us ls a l

  pub rehearsed_after : (bytes : List ℕ) (n place : ℕ) (b : State V) → state_after m b (rehearsed_calls m bytes n place b) ≡ rehearsed_state m bytes n place b
  rehearsed_after bytes zero place b = refl
  rehearsed_after bytes (suc n) place b =
      let fc : List Call = feed_calls (read place (drop place bytes)) in
      let d : State V = state_after m b fc in
      let at : ℕ = fed_place m b bytes place in
      let z : State V = state_after m b (turn_calls m b) in
      after-++ m b fc (calls_by_feed (feed_answer m b bytes place) (rehearsed_calls m bytes n at d)
      (turn_calls m b ++ turned_calls (turn_answer m b) (rehearsed_calls m bytes n place z)) (drained_calls m (suc n) b))
      ∙ feed_after (feed_answer m b bytes place) b d (rehearsed_state m bytes n at d) (turned_state (turn_answer m b) (rehearsed_state m bytes n place z) z) (drained_state m (suc n) b)
      (rehearsed_calls m bytes n at d) (turn_calls m b ++ turned_calls (turn_answer m b) (rehearsed_calls m bytes n place z)) (drained_calls m (suc n) b)
      (λ g q. feed_leaves m b place (read place (drop place bytes)) g q) (rehearsed_after bytes n at d)
      (turn_then b (rehearsed_state m bytes n place z) (rehearsed_calls m bytes n place z) (rehearsed_after bytes n place z)) (drained_after (suc n) b)
