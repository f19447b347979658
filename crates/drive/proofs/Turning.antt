-- A turn as its parts make it: a take, the steps and a finish; it is refused only where no task is ready. Assumes nothing.
use Rattle.std.proofs.Common.{◌≡◌, ℕ, List, [], ◌∷◌, ◌++◌, length, Some, None, Ok, Err, Option, Result, sym, refl, ap, ◌∙◌}
use Rattle.fault.specs.declared.ManagerFault.{ManagerFault}
use Rattle.fault.specs.declared.ManagerFault.TheVariants.{LineEmpty}
use Rattle.order.specs.Steps.{Step, steps}
use Rattle.roll.specs.Roll.{Standing, waiting, ready, running, Entry, stand, find}
use Rattle.roll.specs.Calls.{Setting, State, take, step, finish, Outcome, refused, succeeded, begun, begun_at, took, stepped_at, finished_at, perform}
use Rattle.roll.specs.Built.{left_by, state_after, times, steps_at, turn_after, turn_calls, turn_from, turn_answer, with_seat, finish_answer, take_answer, triple_of}
use Rattle.host.specs.Meaning.{Fixed, Values}
use Rattle.manager.specs.declared.manager.Manager.{Manager}
use Rattle.manager.specs.Model.{tables_of}
use Rattle.manager.specs.Answers.{state_with, setting_with, state_alone, setting_alone}
use Rattle.drive.specs.Law.{RefusesOnlyEmpty}
use Rattle.drive.proofs.Beside.{take_says, take_leaves, finish_says, finish_leaves}
use Rattle.roll.proofs.Parts.{same_setting, after-++}
use Rattle.drive.proofs.Running.{ok_err, found_changed, left_to, all_done}

-- what a take does: it is refused for want of a ready task, or the seat that it answers is running
abbrev Takes : {V : Type 0} → Outcome V → Type 0
Takes (refused fault) = fault ≡ LineEmpty
Takes (succeeded r) =
    ((triple_of r.seat r.answer).0 ≡ r.seat) × ((e : Entry) × (ss : List Step) × (find r.seat r.state.roll ≡ Some (stand (running ss) e)))

module _ {V : Type 0} (b : State V) where
  -- by the standing of the entry, by the entry that is found, and by the ready line
  begun_takes : (s : ℕ) (line : List ℕ) (e : Entry) (st : Standing) → find s b.roll ≡ Some (stand st e) → Takes (begun b s line e st)
  begun_takes s line e waiting f = refl
  begun_takes s line e ready f = (refl, (e, steps e.job.accesses, found_changed s (running (steps e.job.accesses)) b.roll (stand ready e) f))
  begun_takes s line e (running ss) f = refl

  found_takes : (s : ℕ) (line : List ℕ) (o : Option Entry) → find s b.roll ≡ o → Takes (begun_at b s line o)
  found_takes s line None f = refl
  found_takes s line (Some e) f = begun_takes s line e e.standing f

  took_takes : (line : List ℕ) → Takes (took b line)
  took_takes [] = refl
  took_takes (s ∷ line) = found_takes s line (find s b.roll) refl

module _ {V : Type 0} (m : Setting V) where
  -- a running seat whose steps are done has none left
  ran_all : (s : ℕ) (ss : List Step) (b : State V) (e : Entry) → find s b.roll ≡ Some (stand (running ss) e) →
      find s (state_after m b (times (length ss) (step s))).roll ≡ Some (stand (running []) e)
  ran_all s [] b e f = f
  ran_all s (σ ∷ ss) b e f =
      let d : State V = left_by b (stepped_at m.host b s (Some (stand (running (σ ∷ ss)) e))) in
      let here : left_by b (perform m b (step s)) ≡ d = ap (λ (o : Option Entry). left_by b (stepped_at m.host b s o)) f in
      ap (λ (x : State V). find s (state_after m x (times (length ss) (step s))).roll) here
      ∙ ran_all s ss d e (found_changed s (running ss) b.roll (stand (running (σ ∷ ss)) e) f)

  -- and its finish succeeds
  finishes : (s : ℕ) (b : State V) (e : Entry) → find s b.roll ≡ Some (stand (running []) e) → (fault : ManagerFault) → finish_answer (perform m b (finish s)) ≡ Err fault → ⊥
  finishes s b e f fault p = ok_err _ fault (sym (ap (λ (o : Option Entry). finish_answer (finished_at b s o)) f) ∙ p)

  finishes_after : (s : ℕ) (ss : List Step) (b : State V) (e : Entry) → find s b.roll ≡ Some (stand (running ss) e) → (fault : ManagerFault) →
      finish_answer (perform m (all_done s m b) (finish s)) ≡ Err fault → ⊥
  finishes_after s ss b e f =
      finishes s (all_done s m b) e (ap (λ (o : Option Entry). find s (state_after m b (times (steps_at o) (step s))).roll) f ∙ ran_all s ss b e f)

  -- a turn from its take on: what it answers, where it comes to, and that its finish is not refused
  turned_from : (o : Outcome V) → Takes o → (t : ℕ × ℕ × ℕ) → Ok t ≡ take_answer o → (b d k : State V) → d ≡ left_by b o →
      (q : Result ℕ ManagerFault) → q ≡ finish_answer (perform m (all_done t.0 m d) (finish t.0)) → k ≡ left_by (all_done t.0 m d) (perform m (all_done t.0 m d) (finish t.0)) →
      (with_seat t.0 q ≡ turn_from m o) × (k ≡ state_after m (left_by b o) (turn_after o)) × ((fault : ManagerFault) → q ≡ Err fault → ⊥)
  turned_from (refused fault) h t p b d k d-is q q-is k-is = absurd (ok_err t fault p)
  turned_from (succeeded r) h t p b d k d-is q q-is k-is =
      let s : ℕ = r.seat in
      let seat : t.0 ≡ s = let same : t ≡ triple_of r.seat r.answer = cc in ap (λ (x : ℕ × ℕ × ℕ). x.0) same ∙ h.0 in
      let done : State V = all_done s m r.state in
      let at : all_done t.0 m d ≡ done = ap (λ (x : ℕ). all_done x m d) seat ∙ ap (all_done s m) d-is in
      let out : perform m (all_done t.0 m d) (finish t.0) ≡ perform m done (finish s) =
      ap (λ (x : ℕ). perform m (all_done t.0 m d) (finish x)) seat ∙ ap (λ (x : State V). perform m x (finish s)) at in
      let said : q ≡ finish_answer (perform m done (finish s)) = q-is ∙ ap finish_answer out in (
        ap (λ (x : ℕ). with_seat x q) seat ∙ ap (with_seat s) said,
        k-is ∙ ap (λ (x : State V). left_by x (perform m (all_done t.0 m d) (finish t.0))) at ∙ ap (left_by done) out
            ∙ sym (after-++ m r.state (times (left_to s r.state) (step s)) (finish s ∷ [])),
        λ fault e. finishes_after s h.1.1 r.state h.1.0 h.1.2 fault (sym said ∙ e),
      )

  -- a turn is refused only where no task is ready
  empty_only : (o : Outcome V) → Takes o → (fault : ManagerFault) → turn_from m o ≡ Err fault → fault ≡ LineEmpty
  empty_only (refused f) h fault p = let same : f ≡ fault = cc in sym same ∙ h
  empty_only (succeeded r) h fault p =
      go (finish_answer (perform m (all_done r.seat m r.state) (finish r.seat))) refl p
    where
      go : (q : Result ℕ ManagerFault) → finish_answer (perform m (all_done r.seat m r.state) (finish r.seat)) ≡ q → with_seat r.seat q ≡ Err fault → fault ≡ LineEmpty
      go (Ok n) e p = absurd (ok_err _ fault p)
      go (Err f) e p = absurd (finishes_after r.seat h.1.1 r.state h.1.0 h.1.2 f e)

-- a take, all the steps and a finish are a turn
turned : {V : Type 0} (m : Setting V) (b d e k : State V) (t : ℕ × ℕ × ℕ) (q : Result ℕ ManagerFault) →
    Ok t ≡ take_answer (perform m b take) → d ≡ left_by b (perform m b take) → e ≡ all_done t.0 m d → q ≡ finish_answer (perform m e (finish t.0)) →
    k ≡ left_by e (perform m e (finish t.0)) →
    (with_seat t.0 q ≡ turn_answer m b) × (k ≡ state_after m b (turn_calls m b)) × ((fault : ManagerFault) → q ≡ Err fault → ⊥)
turned {V} m b d e k t q p d-is e-is q-is k-is =
    turned_from m (perform m b take) (took_takes b b.ready_line) t p b d k d-is q (q-is ∙ ap (λ (x : State V). finish_answer (perform m x (finish t.0))) e-is)
    (k-is ∙ ap (λ (x : State V). left_by x (perform m x (finish t.0))) e-is)

-- a refused take is a refused turn
untaken : {V : Type 0} (m : Setting V) (b d : State V) (fault : ManagerFault) → Err fault ≡ take_answer (perform m b take) → d ≡ left_by b (perform m b take) →
    (Err fault ≡ turn_answer m b) × (d ≡ state_after m b (turn_calls m b)) × (fault ≡ LineEmpty)
untaken {V} m b d fault p d-is = go (perform m b take) (took_takes b b.ready_line) p d-is
  where
    go : (o : Outcome V) → Takes o → Err fault ≡ take_answer o → d ≡ left_by b o → (Err fault ≡ turn_from m o) × (d ≡ state_after m (left_by b o) (turn_after o)) × (fault ≡ LineEmpty)
    go (refused f) h p e = let same : fault ≡ f = cc in (ap (λ (x : ManagerFault). Err x) same, e, same ∙ h)
    go (succeeded r) h p e = absurd (ok_err _ fault (sym p))

-- a manager before a turn, after its take, after its steps and after its finish, beside a host: what the calls say comes to a turn
pub turn_of_parts : {V : Type 0} (k₀ k₁ k₂ k₃ : Manager) (h : Fixed V) (w w' : Values V) (t : ℕ × ℕ × ℕ) (q : Result ℕ ManagerFault) →
    Ok t ≡ take_answer (perform (setting_alone k₀) (state_alone k₀) take) → state_alone k₁ ≡ left_by (state_alone k₀) (perform (setting_alone k₀) (state_alone k₀) take) →
    tables_of k₁.inner ≡ tables_of k₀.inner → state_with k₂ w' ≡ all_done t.0 (setting_with k₁ h) (state_with k₁ w) →
    q ≡ finish_answer (perform (setting_alone k₂) (state_alone k₂) (finish t.0)) →
    state_alone k₃ ≡ left_by (state_alone k₂) (perform (setting_alone k₂) (state_alone k₂) (finish t.0)) →
    (with_seat t.0 q ≡ turn_answer (setting_with k₀ h) (state_with k₀ w))
    × (state_with k₃ w' ≡ state_after (setting_with k₀ h) (state_with k₀ w) (turn_calls (setting_with k₀ h) (state_with k₀ w)))
    × ((fault : ManagerFault) → q ≡ Err fault → ⊥)
turn_of_parts {V} k₀ k₁ k₂ k₃ h w w' t q took left same ran said gone =
    let m : Setting V = setting_with k₀ h in
    let still : setting_with k₁ h ≡ m = same_setting same refl in
    turned m (state_with k₀ w) (state_with k₁ w) (state_with k₂ w') (state_with k₃ w') t q (take_says w (state_alone k₀) (setting_alone k₀) m (Ok t) took)
    (take_leaves w (state_alone k₀) (setting_alone k₀) m (state_alone k₁) left) (ran ∙ ap (λ (x : Setting V). all_done t.0 x (state_with k₁ w)) still)
    (finish_says w' (state_alone k₂) (setting_alone k₂) m t.0 q said) (finish_leaves w' (state_alone k₂) (setting_alone k₂) m t.0 (state_alone k₃) gone)

-- and where the take is refused
pub turn_of_none : {V : Type 0} (k₀ k₁ : Manager) (h : Fixed V) (w : Values V) (fault : ManagerFault) →
    Err fault ≡ take_answer (perform (setting_alone k₀) (state_alone k₀) take) → state_alone k₁ ≡ left_by (state_alone k₀) (perform (setting_alone k₀) (state_alone k₀) take) →
    (Err fault ≡ turn_answer (setting_with k₀ h) (state_with k₀ w))
    × (state_with k₁ w ≡ state_after (setting_with k₀ h) (state_with k₀ w) (turn_calls (setting_with k₀ h) (state_with k₀ w))) × (fault ≡ LineEmpty)
turn_of_none {V} k₀ k₁ h w fault took left =
    let m : Setting V = setting_with k₀ h in
    untaken m (state_with k₀ w) (state_with k₁ w) fault (take_says w (state_alone k₀) (setting_alone k₀) m (Err fault) took)
    (take_leaves w (state_alone k₀) (setting_alone k₀) m (state_alone k₁) left)

-- the law
pub refuses_only_empty : (V : Type 0) → RefusesOnlyEmpty V
refuses_only_empty V m b fault p = empty_only m (perform m b take) (took_takes b b.ready_line) fault p
