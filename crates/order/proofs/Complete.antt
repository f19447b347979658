-- The steps that are left to the open tasks, done one task after the other in order; and that a step that may be done next, done
-- now, changes nothing of what they come to. Assumes nothing.
use Rattle.std.proofs.Common.{◌≡◌, ℕ, suc, false, eqb, List, [], ◌∷◌, ◌++◌, length, sym, refl, ap, ◌∙◌, arith}
use Rattle.std.specs.List.{AllByRecursion as All}
use Rattle.task.specs.Access.{conflict}
use Rattle.host.specs.Meaning.{Fixed, Values}
use Rattle.order.specs.Steps.{Step, Job, done}
use Rattle.order.specs.Order.{Open, Each, OutOfTheWay}
use Rattle.order.proofs.Commute.{commute}
use Rattle.order.proofs.Conflicts.{Of, steps_apart}
use Rattle.order.proofs.Left.{Left}

-- an open task of another seat
abbrev pub Elsewhere : {V : Type 0} → ℕ → Open V → Type 0
Elsewhere s o = eqb o.job.seat s ≡ false

-- an open task to which these steps may be left
abbrev pub Leaves : {V : Type 0} → Fixed V → Open V → Type 0
Leaves h o = Left h o.job o.left

-- a list with an element is not empty
some_left : (σ : Step) (ss : List Step) → (σ ∷ ss) ≡ [] → ⊥
some_left σ ss e = let z : suc (length ss) ≡ 0 = ap length e in omega arith

module _ {V : Type 0} (h : Fixed V) where
  -- steps of one task; the steps left to each of the open tasks
  abbrev pub runs : Job → List Step → Values V → Values V
  runs j [] w = w
  runs j (σ ∷ ss) w = runs j ss (done h j σ w)

  abbrev pub complete : List (Open V) → Values V → Values V
  complete [] w = w
  complete (o ∷ os) w = complete os (runs o.job o.left w)

  -- two lists of open tasks, one behind the other
  pub complete_append : (os us : List (Open V)) (w : Values V) → complete (os ++ us) w ≡ complete us (complete os w)
  complete_append [] us w = refl
  complete_append (o ∷ os) us w = complete_append os us (runs o.job o.left w)

  -- where no step is left, nothing changes
  pub complete_none : (os : List (Open V)) (w : Values V) → Each (λ o. o.left ≡ []) os → complete os w ≡ w
  complete_none [] w none = refl
  complete_none (o ∷ os) w none = ap (λ (ss : List Step). complete os (runs o.job ss w)) none.0 ∙ complete_none os w none.1

  module _ (j : Job) (σ : Step) (own : Of j.accesses σ) where
    -- a step before or after the steps left to an earlier task that is out of the way
    past_task : (i : Job) → eqb i.seat j.seat ≡ false → (ss : List Step) → ((ss ≡ [] → ⊥) → conflict i.accesses j.accesses ≡ false) → Left h i ss →
        (w : Values V) → runs i ss (done h j σ w) ≡ done h j σ (runs i ss w)
    past_task i ne [] free left w = refl
    past_task i ne (τ ∷ ss) free left w =
        let apart : conflict i.accesses j.accesses ≡ false = free (some_left τ ss) in
        ap (runs i ss) (sym (commute h i j ne τ σ (steps_apart i.accesses j.accesses apart τ σ left.0.own own) w))
        ∙ past_task i ne ss (λ some. apart) left.2 (done h i τ w)

    -- before or after the steps left to all of them
    past_tasks : (pre : List (Open V)) → All (Elsewhere j.seat) pre → Each (OutOfTheWay j) pre → All (Leaves h) pre →
        (w : Values V) → complete pre (done h j σ w) ≡ done h j σ (complete pre w)
    past_tasks [] ne free left w = refl
    past_tasks (o ∷ pre) ne free left w =
        ap (complete pre) (past_task o.job ne.0 o.left free.0 left.0 w) ∙ past_tasks pre ne.1 free.1 left.1 (runs o.job o.left w)

    -- a step that may be done next, done now
    pub advance : (pre post : List (Open V)) (ss : List Step) (vs : List V) → All (Elsewhere j.seat) pre → Each (OutOfTheWay j) pre → All (Leaves h) pre → (w : Values V) →
        complete (pre ++ (record { job = j; left = ss; reads = vs } ∷ post)) (done h j σ w) ≡ complete (pre ++ (record { job = j; left = σ ∷ ss; reads = vs } ∷ post)) w
    advance pre post ss vs ne free left w =
        complete_append pre (record { job = j; left = ss; reads = vs } ∷ post) (done h j σ w)
        ∙ ap (λ (v : Values V). complete post (runs j ss v)) (past_tasks pre ne free left w)
        ∙ sym (complete_append pre (record { job = j; left = σ ∷ ss; reads = vs } ∷ post) w)
