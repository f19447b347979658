-- Between turns no task is running, and where a turn is refused nothing can go on. Assumes nothing.
use Rattle.std.proofs.Common.{◌≡◌, ℕ, Bool, true, false, cond, List, [], ◌∷◌, ◌++◌, length, is_ok, Some, None, Ok, Err, Option, sym, refl, ap, ◌∙◌, subst, arith}
use Rattle.fault.specs.declared.ManagerFault.{ManagerFault}
use Rattle.task.specs.declared.Access.{Access}
use Rattle.layout.specs.Layout.{Contents, submits, finishes}
use Rattle.layout.specs.Reading.{Read}
use Rattle.order.specs.Steps.{Step, steps}
use Rattle.roll.specs.Roll.{Standing, waiting, ready, running, Entry, Roll, sits, stand, find, change, without, rouse, blocked, wake}
use Rattle.roll.specs.Tables.{submit_fault}
use Rattle.roll.specs.Calls.{Setting, State, Call, submit, take, step, finish, Outcome, refused, succeeded, give_seat, submitted, begun, begun_at, took, stepped, stepped_at, finished, finished_at, perform}
use Rattle.roll.specs.Built.{left_by, state_after, times, steps_at, turn_after, turn_calls, with_seat, finish_answer, turn_from, turn_answer, asked, feed_calls}
use Rattle.roll.specs.History.{works}
use Rattle.roll.proofs.Parts.{after-++}
use Rattle.drive.proofs.Running.{found_changed}
use Rattle.rehearse_run.proofs.Shrinks.{not_ok}

-- a standing that is not running, and a roll of such
abbrev pub Still : Standing → Type 0
Still waiting = Unit {0}
Still ready = Unit {0}
Still (running ss) = ⊥

abbrev pub AllStill : Roll → Type 0
AllStill [] = Unit {0}
AllStill (e ∷ es) = Still e.standing × AllStill es

find_still : (s : ℕ) (roll : Roll) (e : Entry) → AllStill roll → find s roll ≡ Some e → Still e.standing
find_still s [] e h p = let z : ◌≡◌ {A = ℕ} 0 1 = cc in absurd (omega arith)
find_still s (x ∷ xs) e (h, more) p = go (sits s x) p (find_still s xs e more)
  where
    go : (b : Bool) → cond b (Some x) (find s xs) ≡ Some e → (find s xs ≡ Some e → Still e.standing) → Still e.standing
    go true q f = let same : x ≡ e = cc in subst (λ (y : Entry). Still y.standing) same h
    go false q f = f q

without_still : (s : ℕ) (roll : Roll) → AllStill roll → AllStill (without s roll)
without_still s [] h = tt
without_still s (x ∷ xs) (h, more) = go (sits s x) (without_still s xs more)
  where
    go : (b : Bool) → AllStill (without s xs) → AllStill (cond b xs (x ∷ without s xs))
    go true f = more
    go false f = (h, f)

rouse_still : (b : Bool) (st : Standing) → Still st → Still (rouse b st)
rouse_still true waiting h = tt
rouse_still false waiting h = tt
rouse_still b ready h = tt
rouse_still b (running ss) h = h

wake_still : (earlier roll : Roll) → AllStill roll → AllStill (wake earlier roll)
wake_still earlier [] h = tt
wake_still earlier (e ∷ es) (h, more) = (rouse_still (blocked earlier e.job.accesses) e.standing h, wake_still (e ∷ earlier) es more)

joined_still : (roll : Roll) (e : Entry) → AllStill roll → Still e.standing → AllStill (roll ++ (e ∷ []))
joined_still [] e h k = (k, tt)
joined_still (x ∷ xs) e (h, more) k = (h, joined_still xs e more k)

entry_still : (b : Bool) → Still (cond b waiting ready)
entry_still true = tt
entry_still false = tt

-- what is left without a seat does not depend on its standing
without_change : (s : ℕ) (st : Standing) (roll : Roll) → without s (change s st roll) ≡ without s roll
without_change s st [] = refl
without_change s st (x ∷ xs) = go (sits s x) refl (without_change s st xs)
  where
    go : (b : Bool) → sits s x ≡ b → without s (change s st xs) ≡ without s xs → without s (cond b (stand st x ∷ xs) (x ∷ change s st xs)) ≡ cond b xs (x ∷ without s xs)
    go true q more = rw q refl
    go false q more = rw q (ap (λ (t : Roll). x ∷ t) more)

module _ {V : Type 0} (b : State V) where
  -- a take that succeeds: the seat is running, and without it the roll is as it was
  abbrev Takes : Outcome V → Type 0
  Takes (refused fault) = Unit {0}
  Takes (succeeded r) = (without r.seat r.state.roll ≡ without r.seat b.roll) × ((e : Entry) × (ss : List Step) × (find r.seat r.state.roll ≡ Some (stand (running ss) e)))

  begun_takes : (s : ℕ) (line : List ℕ) (e : Entry) (st : Standing) → find s b.roll ≡ Some (stand st e) → Takes (begun b s line e st)
  begun_takes s line e waiting f = tt
  begun_takes s line e ready f =
      (without_change s (running (steps e.job.accesses)) b.roll, (e, steps e.job.accesses, found_changed s (running (steps e.job.accesses)) b.roll (stand ready e) f))
  begun_takes s line e (running ss) f = tt

  found_takes : (s : ℕ) (line : List ℕ) (o : Option Entry) → find s b.roll ≡ o → Takes (begun_at b s line o)
  found_takes s line None f = tt
  found_takes s line (Some e) f = begun_takes s line e e.standing f

  took_takes : (line : List ℕ) → Takes (took b line)
  took_takes [] = tt
  took_takes (s ∷ line) = found_takes s line (find s b.roll) refl

  -- a message keeps the roll still
  submitted_still : (name kind : ℕ) (xs : List Access) (f : Option ManagerFault) (given : Option (ℕ × List ℕ)) → AllStill b.roll → AllStill (left_by b (submitted b name kind xs f given)).roll
  submitted_still name kind xs (Some fault) given h = h
  submitted_still name kind xs None None h = h
  submitted_still name kind xs None (Some p) h = joined_still b.roll _ h (entry_still (blocked b.roll xs))

  finished_still : (s : ℕ) (st : Standing) → Still st → AllStill b.roll → AllStill (left_by b (finished b s st)).roll
  finished_still s waiting k h = h
  finished_still s ready k h = h
  finished_still s (running ss) k h = absurd k

  finished_at_still : (s : ℕ) (o : Option Entry) → find s b.roll ≡ o → AllStill b.roll → AllStill (left_by b (finished_at b s o)).roll
  finished_at_still s None f h = h
  finished_at_still s (Some e) f h = finished_still s e.standing (find_still s b.roll e h f) h

  asked_still : (m : Setting V) (c : Contents) → AllStill b.roll → AllStill (left_by b (perform m b (asked c))).roll
  asked_still m (submits name kind xs) h = submitted_still name kind xs (submit_fault m.tables m.host.held b.roll b.free_line xs) (give_seat b.free_line) h
  asked_still m (finishes s) h = finished_at_still s (find s b.roll) refl h

  pub feed_still : (m : Setting V) (o : Read Contents) → AllStill b.roll → AllStill (state_after m b (feed_calls o)).roll
  feed_still m (Ok p) h = asked_still m p.0 h
  feed_still m (Err fault) h = h

module _ {V : Type 0} (m : Setting V) where
  -- the steps of a running seat are done, and then its finish succeeds; without it the roll is as it was
  ran_all : (s : ℕ) (ss : List Step) (b : State V) (e : Entry) → find s b.roll ≡ Some (stand (running ss) e) →
      (find s (state_after m b (times (length ss) (step s))).roll ≡ Some (stand (running []) e)) × (without s (state_after m b (times (length ss) (step s))).roll ≡ without s b.roll)
  ran_all s [] b e f = (f, refl)
  ran_all s (σ ∷ ss) b e f =
      let d : State V = left_by b (stepped_at m.host b s (Some (stand (running (σ ∷ ss)) e))) in
      let here : left_by b (perform m b (step s)) ≡ d = ap (λ (o : Option Entry). left_by b (stepped_at m.host b s o)) f in
      let more = ran_all s ss d e (found_changed s (running ss) b.roll (stand (running (σ ∷ ss)) e) f) in (
        ap (λ (x : State V). find s (state_after m x (times (length ss) (step s))).roll) here ∙ more.0,
        ap (λ (x : State V). without s (state_after m x (times (length ss) (step s))).roll) here ∙ more.1 ∙ without_change s (running ss) b.roll,
      )

  -- a turn from its take on
  turned_still : (b : State V) (o : Outcome V) → Takes b o → AllStill b.roll → AllStill (state_after m (left_by b o) (turn_after o)).roll
  turned_still b (refused fault) t h = h
  turned_still b (succeeded r) (w, (e, ss, f)) h =
      let s : ℕ = r.seat in
      let d : State V = state_after m r.state (times (length ss) (step s)) in
      let all = ran_all s ss r.state e f in
      let k : steps_at (find s r.state.roll) ≡ length ss = ap steps_at f in
      let end : left_by d (perform m d (finish s)) ≡ left_by d (finished_at d s (Some (stand (running []) e))) = ap (λ (o : Option Entry). left_by d (finished_at d s o)) all.0 in
      let path : state_after m r.state (times (steps_at (find s r.state.roll)) (step s) ++ (finish s ∷ [])) ≡ left_by d (finished_at d s (Some (stand (running []) e))) =
      ap (λ (n : ℕ). state_after m r.state (times n (step s) ++ (finish s ∷ []))) k ∙ after-++ m r.state (times (length ss) (step s)) (finish s ∷ []) ∙ end in
      let out : AllStill (wake [] (without s d.roll)) =
      wake_still [] (without s d.roll) (subst AllStill (sym (all.1 ∙ w)) (without_still s b.roll h)) in
      subst (λ (x : State V). AllStill x.roll) (sym path) out

  pub turn_still : (b : State V) → AllStill b.roll → AllStill (state_after m b (turn_calls m b)).roll
  turn_still b h = turned_still b (perform m b take) (took_takes b b.ready_line) h

  -- where a turn is refused, the take was: nothing changes, and no call goes on
  refused_from : (b : State V) (o : Outcome V) → Takes b o → is_ok (turn_from m o) ≡ false → (state_after m (left_by b o) (turn_after o) ≡ b) × (works take o ≡ 0)
  refused_from b (refused fault) t p = (refl, refl)
  refused_from b (succeeded r) (w, (e, ss, f)) p =
      let s : ℕ = r.seat in
      let d : State V = state_after m r.state (times (length ss) (step s)) in
      let all = ran_all s ss r.state e f in
      let k : steps_at (find s r.state.roll) ≡ length ss = ap steps_at f in
      let ok : is_ok (turn_from m (succeeded r)) ≡ true =
      ap (λ (n : ℕ). is_ok (with_seat s (finish_answer (perform m (state_after m r.state (times n (step s))) (finish s))))) k
      ∙ ap (λ (o : Option Entry). is_ok (with_seat s (finish_answer (finished_at d s o)))) all.0 in
      not_ok (sym p ∙ ok)

  pub turn_refused : (b : State V) → is_ok (turn_answer m b) ≡ false → (state_after m b (turn_calls m b) ≡ b) × (works take (perform m b take) ≡ 0)
  turn_refused b p = refused_from b (perform m b take) (took_takes b b.ready_line) p

  -- nothing can go on
  abbrev pub Stuck : State V → Type 0
  Stuck d = (works take (perform m d take) ≡ 0) × AllStill d.roll

  submit_none : (name kind : ℕ) (xs : List Access) (o : Outcome V) → works (submit name kind xs) o ≡ 0
  submit_none name kind xs (refused fault) = refl
  submit_none name kind xs (succeeded r) = refl

  step_none : (d : State V) (s : ℕ) (o : Option Entry) → find s d.roll ≡ o → AllStill d.roll → works (step s) (stepped_at m.host d s o) ≡ 0
  step_none d s None f h = refl
  step_none d s (Some e) f h = go e.standing (find_still s d.roll e h f)
    where
      go : (st : Standing) → Still st → works (step s) (stepped m.host d s e.job st) ≡ 0
      go waiting k = refl
      go ready k = refl
      go (running ss) k = absurd k

  finish_none : (d : State V) (s : ℕ) (o : Option Entry) → find s d.roll ≡ o → AllStill d.roll → works (finish s) (finished_at d s o) ≡ 0
  finish_none d s None f h = refl
  finish_none d s (Some e) f h = go e.standing (find_still s d.roll e h f)
    where
      go : (st : Standing) → Still st → works (finish s) (finished d s st) ≡ 0
      go waiting k = refl
      go ready k = refl
      go (running ss) k = absurd k

  pub none_works : (d : State V) → Stuck d → (c : Call) → works c (perform m d c) ≡ 0
  none_works d (t, h) (submit name kind xs) = submit_none name kind xs (perform m d (submit name kind xs))
  none_works d (t, h) take = t
  none_works d (t, h) (step s) = step_none d s (find s d.roll) refl h
  none_works d (t, h) (finish s) = finish_none d s (find s d.roll) refl h
