-- One round, and the rounds that follow it. Assumes nothing.
use Rattle.std.proofs.Common.{◌≡◌, ℕ, suc, Bool, true, false, cond, eqb, List, [], ◌∷◌, ◌++◌, drop, IfOk, Ok, Err, Result, sym, refl, ap, ◌∙◌, append_assoc, append-nil, arith}
use Rattle.fault.specs.declared.ManagerFault.{ManagerFault}
use Rattle.fault.specs.Numbers.{cause_number}
use Rattle.layout.specs.Layout.{Contents}
use Rattle.layout.specs.Reading.{Read, read}
use Rattle.roll.specs.Calls.{Setting, State, Outcome, refused, succeeded, perform}
use Rattle.roll.specs.Built.{state_after, turn_calls, turn_answer, asked, feed_calls, feed_answer, feed_from, fed_from, fed_place, place_from, moved_past, Fed, submitted_to, finished_with, FeedFailure}
use Rattle.roll.specs.Rehearsal as roll
use Rattle.roll.specs.Rehearsal.{sub, refusal, turned, drained, stalling, by_feed, rehearsed}
use Rattle.drive.specs.declared.fed.Fed as declared
use Rattle.drive.specs.declared.fed.Fed.TheVariants.{Submitted, Finished}
use Rattle.drive.specs.declared.fed.FeedFault.{FeedFault}
use Rattle.drive.specs.Feeding.{feed_result}
use Rattle.rehearse_run.specs.declared.rounds.Next.{Next}
use Rattle.rehearse_run.specs.declared.rounds.Next.TheVariants.{On, Drain, Stop}
use Rattle.rehearse_run.specs.Rounds.{turned_state, drained_state, state_by_feed, rehearsed_state, Turned, Answered, follows, fed_lines, Goes}

-- what holds of a value that was made and follows from another fact holds too
pub made_more : {A E : Type 0} {P Q : A → Type 0} (r : Result A E) → IfOk r P → ((x : A) → P x → Q x) → IfOk r Q
made_more (Ok x) p f = f x p
made_more (Err e) p f = tt

-- why feed is refused, by what the code answers
pub fed_not : (f : Result Fed FeedFailure) (fault : FeedFault) → Err fault ≡ feed_result f → (g : FeedFailure) × (f ≡ Err g) × (g.cause ≡ fault.cause)
fed_not (Ok (submitted_to t)) fault q = let z : ◌≡◌ {A = ℕ} 0 1 = cc in absurd (omega arith)
fed_not (Ok (finished_with k)) fault q = let z : ◌≡◌ {A = ℕ} 0 1 = cc in absurd (omega arith)
fed_not (Err g) fault q = let e : fault ≡ record { place = g.place; cause = g.cause } = cc in (g, refl, sym (ap (λ (x : FeedFault). x.cause) e))

-- where feed is refused the place stays
stays_by : {V : Type 0} (place : ℕ) (c : Contents) (o : Outcome V) (g : FeedFailure) → fed_from place c o ≡ Err g → moved_past place c o ≡ place
stays_by place c (refused fault) g q = refl
stays_by place c (succeeded r) g q = let z : ◌≡◌ {A = ℕ} 0 1 = cc in absurd (omega arith)

stays_at : {V : Type 0} (m : Setting V) (b : State V) (place : ℕ) (o : Read Contents) (g : FeedFailure) → feed_from m b place o ≡ Err g → place_from m b place o ≡ place
stays_at m b place (Ok p) g q = stays_by place p.0 (perform m b (asked p.0)) g q
stays_at m b place (Err fault) g q = refl

pub place_stays : {V : Type 0} (m : Setting V) (b : State V) (bytes : List ℕ) (place : ℕ) (g : FeedFailure) → feed_answer m b bytes place ≡ Err g → fed_place m b bytes place ≡ place
place_stays m b bytes place g q = stays_at m b place (read place (drop place bytes)) g q

-- a message that is accepted, by what feed answers
fed_goes : (f : Result Fed FeedFailure) (fed : declared.Fed) → Ok fed ≡ feed_result f → (on again last : List roll.Line) (before after : List roll.Line) → after ≡ before ++ fed_lines fed →
    after ++ on ≡ before ++ by_feed f on again last
fed_goes (Ok (submitted_to s)) fed q on again last before after e =
    let same : fed ≡ Submitted s = cc in
    let l : after ≡ before ++ (sub s ∷ []) = e ∙ ap (λ (x : declared.Fed). before ++ fed_lines x) same in
    rw l (append_assoc before (sub s ∷ []) on)
fed_goes (Ok (finished_with n)) fed q on again last before after e =
    let same : fed ≡ Finished n = cc in
    let l : after ≡ before = e ∙ ap (λ (x : declared.Fed). before ++ fed_lines x) same ∙ append-nil before in
    rw l refl
fed_goes (Err g) fed q on again last before after e = let z : ◌≡◌ {A = ℕ} 0 1 = cc in absurd (omega arith)

fed_stays : {V : Type 0} (f : Result Fed FeedFailure) (fed : declared.Fed) → Ok fed ≡ feed_result f → (on again last b : State V) → on ≡ state_by_feed f on again last b
fed_stays (Ok x) fed q on again last b = refl
fed_stays (Err g) fed q on again last b = let z : ◌≡◌ {A = ℕ} 0 1 = cc in absurd (omega arith)

pub goes_fed : {V : Type 0} (m : Setting V) (bytes : List ℕ) (place : ℕ) (b : State V) (before : List roll.Line) (fed : declared.Fed) → Ok fed ≡ feed_result (feed_answer m b bytes place) →
    (at : ℕ) → at ≡ fed_place m b bytes place → (d : State V) → d ≡ state_after m b (feed_calls (read place (drop place bytes))) →
    (after : List roll.Line) → after ≡ before ++ fed_lines fed → Goes m bytes place b before On at d after
goes_fed m bytes place b before fed q at p d e after l =
    record {
      lines = λ n. rw (p, e) (fed_goes (feed_answer m b bytes place) fed q _ _ _ before after l);
      state = λ n. rw (p, e) (fed_stays (feed_answer m b bytes place) fed q _ _ _ b);
    }

-- a refusal, by the tests of its number
by_lines : {V : Type 0} (k : ℕ) (p q : Bool) (t : Result (ℕ × ℕ) ManagerFault) (before after : List roll.Line) (next : Next) (b d c : State V) (on last : State V → List roll.Line) →
    cond p ((next ≡ Drain) × (d ≡ b) × (after ≡ before)) (cond q (Turned t before next after × (d ≡ c)) ((next ≡ Stop) × (d ≡ b) × (after ≡ before ++ (refusal k ∷ [])))) →
    after ++ follows next (on d) (last d) [] ≡ before ++ cond p (last b) (cond q (turned t (on c)) (refusal k ∷ []))
by_lines k true q t before after next b d c on last (e, f, g) = rw (e, f, g) refl
by_lines k false true (Ok s) before after next b d c on last ((e, g), f) = rw (e, f, g) (append_assoc before _ (on c))
by_lines k false true (Err fault) before after next b d c on last ((e, g), f) = rw (e, g) (append-nil _)
by_lines k false false t before after next b d c on last (e, f, g) = rw (e, g) (append-nil _)

by_state : {V : Type 0} (k : ℕ) (p q : Bool) (t : Result (ℕ × ℕ) ManagerFault) (before after : List roll.Line) (next : Next) (b d c : State V) (on last : State V → State V) →
    cond p ((next ≡ Drain) × (d ≡ b) × (after ≡ before)) (cond q (Turned t before next after × (d ≡ c)) ((next ≡ Stop) × (d ≡ b) × (after ≡ before ++ (refusal k ∷ [])))) →
    follows next (on d) (last d) d ≡ cond p (last b) (cond q (turned_state t (on c) c) b)
by_state k true q t before after next b d c on last (e, f, g) = rw (e, f) refl
by_state k false true (Ok s) before after next b d c on last ((e, g), f) = rw (e, f) refl
by_state k false true (Err fault) before after next b d c on last ((e, g), f) = rw (e, f) refl
by_state k false false t before after next b d c on last (e, f, g) = rw (e, f) refl

-- a message that is refused
pub goes_refused : {V : Type 0} (m : Setting V) (bytes : List ℕ) (place : ℕ) (b : State V) (before : List roll.Line) (g : FeedFailure) → feed_answer m b bytes place ≡ Err g →
    (next : Next) (d : State V) (after : List roll.Line) → Answered m (cause_number g.cause) b before next d after → Goes m bytes place b before next place d after
goes_refused {V} m bytes place b before g f next d after a =
    let k : ℕ = cause_number g.cause in
    let c : State V = state_after m b (turn_calls m b) in
    record {
      lines = λ n. rw f (by_lines k (eqb k 1) (stalling k) (turn_answer m b) before after next b d c (λ (x : State V). rehearsed m bytes n place x) (λ (x : State V). drained m (suc n) x) a);
      state = λ n. rw f (by_state k (eqb k 1) (stalling k) (turn_answer m b) before after next b d c (λ (x : State V). rehearsed_state m bytes n place x) (λ (x : State V). drained_state m (suc n) x) a);
    }
