-- A rehearsal with enough rounds comes to its end: with each feed and each turn, twice the bytes that are left and the tasks that are
-- unfinished become fewer. Assumes nothing.
use Rattle.std.proofs.Common.{◌≡◌, ℕ, zero, suc, ◌+◌, ◌-◌, ◌*◌, ◌<◌, ◌≤◌, Bool, true, false, cond, eqb, List, [], ◌∷◌, length, drop, is_ok, Ok, Err, Result, refl, arith, length-drop}
use Rattle.fault.specs.declared.ManagerFault.{ManagerFault}
use Rattle.fault.specs.Numbers.{cause_number}
use Rattle.layout.specs.Layout.{Contents, submits, finishes, layout}
use Rattle.layout.specs.Reading.{Read, read}
use Rattle.roll.specs.Calls.{Setting, State, Outcome, refused, succeeded, perform}
use Rattle.roll.specs.Built.{left_by, state_after, turn_calls, turn_answer, asked, feed_calls, feed_from, feed_answer, fed_from, moved_past, place_from, fed_place, Fed, submitted_to, finished_with, FeedFailure}
use Rattle.roll.specs.Rehearsal.{Line, refusal, turned, drained, stalling, by_feed, rehearsed}
use Rattle.rehearse_run.specs.Ends.{Ends}
use Rattle.rehearse_run.proofs.Shrinks.{not_ok, asked_more, turn_shrinks}

-- a message has at least 4 bytes
layout_length : (c : Contents) → 4 ≤ length (layout c)
layout_length (submits name kind xs) = omega arith
layout_length (finishes seat) = omega arith

-- what is read stands before the end
read_some : (place : ℕ) (xs : List ℕ) (p : Contents × List ℕ) → read place xs ≡ Ok p → 0 < length xs
read_some place [] p q = let z : ◌≡◌ {A = ℕ} 0 1 = cc in absurd (omega arith)
read_some place (v ∷ bs) p q = omega arith

read_inside : (bytes : List ℕ) (place : ℕ) (p : Contents × List ℕ) → read place (drop place bytes) ≡ Ok p → place < length bytes
read_inside bytes place p q = omega (arith, read_some place (drop place bytes) p q, length-drop place bytes)

-- what is left: twice the bytes from a place on, and the unfinished tasks
abbrev pub left_at : {V : Type 0} → List ℕ → ℕ → State V → ℕ
left_at bytes place b = 2 * (length bytes - place) + length b.roll

module _ {V : Type 0} (m : Setting V) (bytes : List ℕ) where
  -- after a message that is accepted less is left
  feed_less : (b : State V) (place : ℕ) (c : Contents) (o : Outcome V) → place < length bytes → length (left_by b o).roll ≤ suc (length b.roll) →
      is_ok (fed_from place c o) ≡ true → left_at bytes (moved_past place c o) (left_by b o) < left_at bytes place b
  feed_less b place c (refused fault) lt more p = not_ok p
  feed_less b place c (succeeded r) lt more p = omega (arith, layout_length c)

  read_less : (b : State V) (place : ℕ) (o : Read Contents) → read place (drop place bytes) ≡ o → is_ok (feed_from m b place o) ≡ true →
      left_at bytes (place_from m b place o) (state_after m b (feed_calls o)) < left_at bytes place b
  read_less b place (Ok p) q ok = feed_less b place p.0 (perform m b (asked p.0)) (read_inside bytes place p q) (asked_more b m p.0) ok
  read_less b place (Err fault) q ok = not_ok ok

  fed_less : (b : State V) (place : ℕ) → is_ok (feed_answer m b bytes place) ≡ true →
      left_at bytes (fed_place m b bytes place) (state_after m b (feed_calls (read place (drop place bytes)))) < left_at bytes place b
  fed_less b place ok = read_less b place (read place (drop place bytes)) refl ok

  -- by what a turn answers, and by what a feed answers
  turned_ends : (t : Result (ℕ × ℕ) ManagerFault) (rest : List Line) → (is_ok t ≡ true → Ends rest) → Ends (turned t rest)
  turned_ends (Ok p) rest h = h refl
  turned_ends (Err fault) rest h = refl

  number_ends : (k : ℕ) (p q : Bool) (again last : List Line) → Ends again → Ends last → Ends (cond p last (cond q again (refusal k ∷ [])))
  number_ends k true q again last a l = l
  number_ends k false true again last a l = a
  number_ends k false false again last a l = refl

  feed_ends : (f : Result Fed FeedFailure) (on again last : List Line) → (is_ok f ≡ true → Ends on) → Ends again → Ends last → Ends (by_feed f on again last)
  feed_ends (Ok (submitted_to s)) on again last h a l = h refl
  feed_ends (Ok (finished_with n)) on again last h a l = h refl
  feed_ends (Err g) on again last h a l = number_ends (cause_number g.cause) (eqb (cause_number g.cause) 1) (stalling (cause_number g.cause)) again last a l

  -- so the turns end, and the rounds
  drained_ends : (n : ℕ) (b : State V) → length b.roll < n → Ends (drained m n b)
  drained_ends zero b lt = absurd (omega arith)
  drained_ends (suc n) b lt =
      turned_ends (turn_answer m b) (drained m n (state_after m b (turn_calls m b))) (λ ok. drained_ends n (state_after m b (turn_calls m b)) (omega (arith, turn_shrinks m b ok)))

  pub rehearsed_ends : (n place : ℕ) (b : State V) → left_at bytes place b < n → Ends (rehearsed m bytes n place b)
  rehearsed_ends zero place b lt = absurd (omega arith)
  rehearsed_ends (suc n) place b lt =
      let d : State V = state_after m b (turn_calls m b) in
      feed_ends (feed_answer m b bytes place)
      (rehearsed m bytes n (fed_place m b bytes place) (state_after m b (feed_calls (read place (drop place bytes)))))
      (turned (turn_answer m b) (rehearsed m bytes n place d)) (drained m (suc n) b)
      (λ ok. rehearsed_ends n (fed_place m b bytes place) (state_after m b (feed_calls (read place (drop place bytes)))) (omega (arith, fed_less b place ok)))
      (turned_ends (turn_answer m b) (rehearsed m bytes n place d) (λ ok. rehearsed_ends n place d (omega (arith, turn_shrinks m b ok))))
      (drained_ends (suc n) b (omega arith))
