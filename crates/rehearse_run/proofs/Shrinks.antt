-- How long the roll is after each call: a turn takes one task off it, and a message puts one on it at most. Assumes nothing.
use Rattle.std.proofs.Common.{◌≡◌, ℕ, zero, suc, ◌≤◌, Bool, true, false, cond, List, [], ◌∷◌, ◌++◌, length, is_ok, Some, None, Ok, Err, Option, Result, refl, ap, ◌∙◌, arith, length-append}
use Rattle.fault.specs.declared.ManagerFault.{ManagerFault}
use Rattle.task.specs.declared.Access.{Access}
use Rattle.host.specs.Meaning.{Fixed}
use Rattle.layout.specs.Layout.{Contents, submits, finishes}
use Rattle.order.specs.Steps.{Job, steps}
use Rattle.roll.proofs.Keeps.{length_wake}
use Rattle.roll.proofs.Parts.{after-++}
use Rattle.roll.specs.Roll.{Standing, waiting, ready, running, Entry, Roll, sits, stand, find, change, without}
use Rattle.roll.specs.Tables.{submit_fault}
use Rattle.roll.specs.Calls.{Setting, State, take, step, finish, Outcome, refused, succeeded, give_seat, submitted, begun, begun_at, took, stepped, stepped_at, finished, finished_at, perform}
use Rattle.roll.specs.Built.{left_by, state_after, times, steps_at, turn_after, turn_calls, with_seat, finish_answer, turn_from, turn_answer, asked}

-- no answer is both
pub not_ok : {P : Type 0} → false ≡ true → P
not_ok p = let z : ◌≡◌ {A = ℕ} 0 1 = cc in absurd (omega arith)

-- an entry in another standing leaves the roll as long as it was
change_length : (s : ℕ) (st : Standing) (roll : Roll) → length (change s st roll) ≡ length roll
change_length s st [] = refl
change_length s st (e ∷ es) = go (sits s e) (change_length s st es)
  where
    go : (b : Bool) → length (change s st es) ≡ length es → length (cond b (stand st e ∷ es) (e ∷ change s st es)) ≡ suc (length es)
    go true more = refl
    go false more = ap suc more

-- without the entry of a seat that is found it is one shorter, and never longer
without_length : (s : ℕ) (roll : Roll) (e : Entry) → find s roll ≡ Some e → suc (length (without s roll)) ≡ length roll
without_length s [] e p = let z : ◌≡◌ {A = ℕ} 0 1 = cc in absurd (omega arith)
without_length s (x ∷ xs) e p = go (sits s x) p (without_length s xs e)
  where
    go : (b : Bool) → cond b (Some x) (find s xs) ≡ Some e → (find s xs ≡ Some e → suc (length (without s xs)) ≡ length xs) →
        suc (length (cond b xs (x ∷ without s xs))) ≡ suc (length xs)
    go true q more = refl
    go false q more = ap suc (more q)

without_le : (s : ℕ) (roll : Roll) → length (without s roll) ≤ length roll
without_le s [] = omega arith
without_le s (x ∷ xs) = go (sits s x) (without_le s xs)
  where
    go : (b : Bool) → length (without s xs) ≤ length xs → length (cond b xs (x ∷ without s xs)) ≤ suc (length xs)
    go true more = omega arith
    go false more = omega arith

module _ {V : Type 0} (b : State V) where
  -- a take leaves it
  abbrev Same : Outcome V → Type 0
  Same o = length (left_by b o).roll ≡ length b.roll

  begun_same : (s : ℕ) (line : List ℕ) (e : Entry) (st : Standing) → Same (begun b s line e st)
  begun_same s line e waiting = refl
  begun_same s line e ready = change_length s (running (steps e.job.accesses)) b.roll
  begun_same s line e (running ss) = refl

  begun_at_same : (s : ℕ) (line : List ℕ) (o : Option Entry) → Same (begun_at b s line o)
  begun_at_same s line None = refl
  begun_at_same s line (Some e) = begun_same s line e e.standing

  took_same : (line : List ℕ) → Same (took b line)
  took_same [] = refl
  took_same (s ∷ line) = begun_at_same s line (find s b.roll)

  -- a step leaves it
  stepped_same : (h : Fixed V) (s : ℕ) (j : Job) (st : Standing) → Same (stepped h b s j st)
  stepped_same h s j waiting = refl
  stepped_same h s j ready = refl
  stepped_same h s j (running []) = refl
  stepped_same h s j (running (σ ∷ ss)) = change_length s (running ss) b.roll

  stepped_at_same : (h : Fixed V) (s : ℕ) (o : Option Entry) → Same (stepped_at h b s o)
  stepped_at_same h s None = refl
  stepped_at_same h s (Some e) = stepped_same h s e.job e.standing

  -- a finish that succeeds makes it one shorter
  finished_one : (s : ℕ) (e : Entry) → find s b.roll ≡ Some e → (st : Standing) → is_ok (finish_answer (finished b s st)) ≡ true →
      suc (length (left_by b (finished b s st)).roll) ≡ length b.roll
  finished_one s e f waiting p = not_ok p
  finished_one s e f ready p = not_ok p
  finished_one s e f (running []) p = ap suc (length_wake [] (without s b.roll)) ∙ without_length s b.roll e f
  finished_one s e f (running (σ ∷ ss)) p = not_ok p

  finished_at_one : (s : ℕ) (o : Option Entry) → find s b.roll ≡ o → is_ok (finish_answer (finished_at b s o)) ≡ true → suc (length (left_by b (finished_at b s o)).roll) ≡ length b.roll
  finished_at_one s None f p = not_ok p
  finished_at_one s (Some e) f p = finished_one s e f e.standing p

  -- a message makes it one longer at most
  abbrev More : Outcome V → Type 0
  More o = length (left_by b o).roll ≤ suc (length b.roll)

  submitted_more : (name kind : ℕ) (xs : List Access) (f : Option ManagerFault) (given : Option (ℕ × List ℕ)) → More (submitted b name kind xs f given)
  submitted_more name kind xs (Some fault) given = omega arith
  submitted_more name kind xs None None = omega arith
  submitted_more name kind xs None (Some p) = simp length-append (omega arith)

  finished_more : (s : ℕ) (st : Standing) → More (finished b s st)
  finished_more s waiting = omega arith
  finished_more s ready = omega arith
  finished_more s (running []) = omega (arith, length_wake [] (without s b.roll), without_le s b.roll)
  finished_more s (running (σ ∷ ss)) = omega arith

  finished_at_more : (s : ℕ) (o : Option Entry) → More (finished_at b s o)
  finished_at_more s None = omega arith
  finished_at_more s (Some e) = finished_more s e.standing

  pub asked_more : (m : Setting V) (c : Contents) → length (left_by b (perform m b (asked c))).roll ≤ suc (length b.roll)
  asked_more m (submits name kind xs) = submitted_more name kind xs (submit_fault m.tables m.host.held b.roll b.free_line xs) (give_seat b.free_line)
  asked_more m (finishes s) = finished_at_more s (find s b.roll)

module _ {V : Type 0} (m : Setting V) where
  -- and so do steps
  steps_same : (k s : ℕ) (b : State V) → length (state_after m b (times k (step s))).roll ≡ length b.roll
  steps_same zero s b = refl
  steps_same (suc k) s b = steps_same k s (left_by b (perform m b (step s))) ∙ stepped_at_same b m.host s (find s b.roll)

  -- an answer with a seat beside it is a refusal exactly where the answer is
  seat_ok : (s : ℕ) (q : Result ℕ ManagerFault) → is_ok (with_seat s q) ≡ true → is_ok q ≡ true
  seat_ok s (Ok n) p = p
  seat_ok s (Err fault) p = p

  turn_one : (b : State V) (o : Outcome V) → length (left_by b o).roll ≡ length b.roll → is_ok (turn_from m o) ≡ true →
      suc (length (state_after m (left_by b o) (turn_after o)).roll) ≡ length b.roll
  turn_one b (refused fault) same p = not_ok p
  turn_one b (succeeded r) same p =
      let s : ℕ = r.seat in
      let k : ℕ = steps_at (find s r.state.roll) in
      let d : State V = state_after m r.state (times k (step s)) in
      let f = finished_at_one d s (find s d.roll) refl (seat_ok s (finish_answer (perform m d (finish s))) p) in
      ap (λ (x : State V). suc (length x.roll)) (after-++ m r.state (times k (step s)) (finish s ∷ [])) ∙ f ∙ steps_same k s r.state ∙ same

  -- a turn takes one task off the roll
  pub turn_shrinks : (b : State V) → is_ok (turn_answer m b) ≡ true → suc (length (state_after m b (turn_calls m b)).roll) ≡ length b.roll
  turn_shrinks b p = turn_one b (perform m b take) (took_same b b.ready_line) p
