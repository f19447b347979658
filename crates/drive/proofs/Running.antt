-- The steps that are left to a seat, done one after another. Assumes nothing.
use Rattle.std.proofs.Common.{◌≡◌, ℕ, suc, Bool, true, false, cond, [], ◌∷◌, Some, None, Ok, Err, Option, Result, sym, refl, ap, ◌∙◌, arith}
use Rattle.roll.specs.Roll.{Standing, waiting, ready, running, Entry, Roll, sits, stand, find, change}
use Rattle.roll.specs.Calls.{Setting, State, step, stepped, stepped_at, perform}
use Rattle.roll.specs.Built.{left_by, state_after, times, steps_at}
use Rattle.manager.specs.Answers.{step_answer}

-- an answer is not both
pub ok_err : {A E : Type 0} (x : A) (y : E) → ◌≡◌ {A = Result A E} (Ok x) (Err y) → ⊥
ok_err x y p = let z : ◌≡◌ {A = ℕ} 0 1 = cc in omega arith

-- the entry whose standing was changed is found in that standing
pub found_changed : (s : ℕ) (st : Standing) (roll : Roll) (e : Entry) → find s roll ≡ Some e → find s (change s st roll) ≡ Some (stand st e)
found_changed s st [] e p = let z : ◌≡◌ {A = ℕ} 0 1 = cc in absurd (omega arith)
found_changed s st (x ∷ xs) e p = go (sits s x) refl p (λ q. found_changed s st xs e q)
  where
    go : (b : Bool) → sits s x ≡ b → cond b (Some x) (find s xs) ≡ Some e → (find s xs ≡ Some e → find s (change s st xs) ≡ Some (stand st e)) →
        find s (cond b (stand st x ∷ xs) (x ∷ change s st xs)) ≡ Some (stand st e)
    go true q r more = let same : x ≡ e = cc in rw q (ap (λ (y : Entry). Some (stand st y)) same)
    go false q r more = rw q (more r)

-- how many steps are left to a seat
abbrev pub left_to : {V : Type 0} → ℕ → State V → ℕ
left_to s b = steps_at (find s b.roll)

-- the state after they are done
abbrev pub all_done : {V : Type 0} → ℕ → Setting V → State V → State V
all_done s m b = state_after m b (times (left_to s b) (step s))

module _ {V : Type 0} (s : ℕ) (m : Setting V) (b : State V) where
  -- a step that succeeds: one step less is left, by what is found of the seat
  fewer_at : (o : Option Entry) (p : ℕ × ℕ) → find s b.roll ≡ o → Ok p ≡ step_answer (stepped_at m.host b s o) →
      steps_at o ≡ suc (left_to s (left_by b (stepped_at m.host b s o)))
  fewer_at None p f q = absurd (ok_err p _ q)
  fewer_at (Some e) p f q = go e.standing f q
    where
      go : (st : Standing) → find s b.roll ≡ Some (stand st e) → Ok p ≡ step_answer (stepped m.host b s e.job st) →
          steps_at (Some (stand st e)) ≡ suc (left_to s (left_by b (stepped m.host b s e.job st)))
      go waiting f q = absurd (ok_err p _ q)
      go ready f q = absurd (ok_err p _ q)
      go (running []) f q = absurd (ok_err p _ q)
      go (running (σ ∷ ss)) f q = ap suc (sym (ap steps_at (found_changed s (running ss) b.roll (stand (running (σ ∷ ss)) e) f)))

  -- after a step that succeeds one step less is left, and what is left comes to the same
  pub one_fewer : (p : ℕ × ℕ) → Ok p ≡ step_answer (perform m b (step s)) → (d : State V) → d ≡ left_by b (perform m b (step s)) → left_to s b ≡ suc (left_to s d)
  one_fewer p q d e = fewer_at (find s b.roll) p refl q ∙ ap (λ (x : State V). suc (left_to s x)) (sym e)

  pub same_done : (p : ℕ × ℕ) → Ok p ≡ step_answer (perform m b (step s)) → (d : State V) → d ≡ left_by b (perform m b (step s)) → all_done s m d ≡ all_done s m b
  same_done p q d e =
      ap (λ (x : State V). state_after m x (times (left_to s d) (step s))) e ∙ ap (λ (k : ℕ). state_after m b (times k (step s))) (sym (one_fewer p q d e))
