-- What the phases have to do with the steps of a task. Assumes nothing.
use Rattle.std.specs.Prelude.{◌≡◌, ℕ, ◌<◌, ◌≤◌, true, List, [], ◌∷◌, length}
use Rattle.task.specs.declared.Access.{Access}
use Rattle.task.specs.Access.{readers}
use Rattle.order.specs.Steps.{bring, put, steps}
use Rattle.seat.specs.declared.Phase.{Phase}
use Rattle.seat.specs.declared.Phase.TheVariants.{Bring, Put, Done}
use Rattle.seat.specs.Phases.{address_at, steps_in, sound_phase, first_phase, after_bring, after_put}

-- the phases of a task go through its steps, one step at a time and in order
pub record PhasesAreTheSteps (xs : List Access) : Type 0 where
  -- the first phase has all steps
  pub first_steps : steps_in xs (first_phase xs) ≡ steps xs
  pub first_sound : sound_phase xs (first_phase xs) ≡ true
  -- a bring phase has the bring of its access to the next position, and then the steps of the phase after it
  pub bring_steps : (i n : ℕ) → sound_phase xs (Bring i n) ≡ true → steps_in xs (Bring i n) ≡ bring (record { number = i; address = address_at xs i }) n ∷ steps_in xs (after_bring xs i n)
  pub bring_sound : (i n : ℕ) → sound_phase xs (Bring i n) ≡ true → sound_phase xs (after_bring xs i n) ≡ true
  -- a put phase has the put of its access, and then the steps of the phase after it, and all values have been brought
  pub put_steps : (i n : ℕ) → sound_phase xs (Put i n) ≡ true → steps_in xs (Put i n) ≡ put (record { number = i; address = address_at xs i }) ∷ steps_in xs (after_put xs i n)
  pub put_brought : (i n : ℕ) → sound_phase xs (Put i n) ≡ true → n ≡ length (readers xs)
  pub put_sound : (i n : ℕ) → sound_phase xs (Put i n) ≡ true → sound_phase xs (after_put xs i n) ≡ true
  -- only a task that is done has no step left
  pub no_steps : (p : Phase) → sound_phase xs p ≡ true → steps_in xs p ≡ [] → p ≡ Done
  -- the access is one of the task's, and no more values are brought than there are accesses
  pub bring_low : (i n : ℕ) → sound_phase xs (Bring i n) ≡ true → (i < length xs) × (n ≤ i)
  pub put_low : (i n : ℕ) → sound_phase xs (Put i n) ≡ true → (i < length xs) × (n ≤ length xs)

-- so it is for every task
abbrev pub AllPhasesAreTheSteps : Type 0
AllPhasesAreTheSteps = (xs : List Access) → PhasesAreTheSteps xs
