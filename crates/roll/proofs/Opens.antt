-- The unfinished tasks as open ones of an order of steps. Assumes nothing.
use Rattle.std.proofs.Common.{◌≡◌, ℕ, List, [], ◌∷◌, ◌++◌, refl, ap, ap₂}
use Rattle.std.specs.List.{AllByRecursion as All}
use Rattle.std.proofs.lemmas.Bool.{eqb-false}
use Rattle.host.specs.Meaning.{update}
use Rattle.order.specs.Steps.{Step, Job}
use Rattle.order.specs.Order.{Open, Each, OutOfTheWay}
use Rattle.order.proofs.Update.{update_other}
use Rattle.roll.specs.Roll.{Entry, Roll, blocked, wake}
use Rattle.roll.proofs.Split.{Elsewhere}
use Rattle.roll.proofs.Keeps.{steps_left, Clear, left_rouse}

module _ {V : Type 0} where
  -- a task with the steps that are left to it, and with the list that its seat's task reads in the one-at-a-time run
  abbrev pub opened : (ℕ → List V) → Entry → Open V
  opened reads e = record { job = e.job; left = steps_left e.standing e.job.accesses; reads = reads e.job.seat }

  abbrev pub opens : (ℕ → List V) → Roll → List (Open V)
  opens reads [] = []
  opens reads (e ∷ es) = opened reads e ∷ opens reads es

  -- of two parts of a roll
  pub opens-++ : (reads : ℕ → List V) (xs ys : Roll) → opens reads (xs ++ ys) ≡ opens reads xs ++ opens reads ys
  opens-++ reads [] ys = refl
  opens-++ reads (x ∷ xs) ys = ap (λ (os : List (Open V)). opened reads x ∷ os) (opens-++ reads xs ys)

  -- a waking changes nothing of them
  pub opens_wake : (reads : ℕ → List V) (ds roll : Roll) → opens reads (wake ds roll) ≡ opens reads roll
  opens_wake reads ds [] = refl
  opens_wake reads ds (e ∷ es) =
      let o : List Step → Open V = λ ss. record { job = e.job; left = ss; reads = reads e.job.seat } in
      ap₂ (λ (ss : List Step) (os : List (Open V)). o ss ∷ os) (left_rouse e.job.accesses (blocked ds e.job.accesses) e.standing) (opens_wake reads (e ∷ ds) es)

  -- nor does the list of another seat
  pub opens_elsewhere : (reads : ℕ → List V) (s : ℕ) (vs : List V) (roll : Roll) → All (Elsewhere s) roll → opens (update reads s vs) roll ≡ opens reads roll
  opens_elsewhere reads s vs [] h = refl
  opens_elsewhere reads s vs (e ∷ es) h =
      let o : List V → Open V = λ ws. record { job = e.job; left = steps_left e.standing e.job.accesses; reads = ws } in
      ap₂ (λ (ws : List V) (os : List (Open V)). o ws ∷ os) (update_other reads s vs e.job.seat h.0) (opens_elsewhere reads s vs es h.1)

  -- tasks that do not conflict with a task are out of its way
  pub opens_clear : (reads : ℕ → List V) (j : Job) (roll : Roll) → All (Clear j.accesses) roll → Each (OutOfTheWay j) (opens reads roll)
  opens_clear reads j [] h = tt
  opens_clear reads j (e ∷ es) h = (λ some_left. h.0, opens_clear reads j es h.1)

  -- tasks of other seats have other seats
  pub opens_apart : (reads : ℕ → List V) (s : ℕ) (roll : Roll) → All (Elsewhere s) roll → Each (λ o. o.job.seat ≡ s → ⊥) (opens reads roll)
  opens_apart reads s [] h = tt
  opens_apart reads s (e ∷ es) h = (eqb-false e.job.seat s h.0, opens_apart reads s es h.1)
