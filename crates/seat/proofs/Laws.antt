-- The phases of a task go through its steps, one step at a time and in order. Assumes nothing.
use Rattle.std.proofs.Common.{◌≡◌, ℕ, suc, ◌+◌, ◌<◌, ◌≤◌, true, List, [], ◌∷◌, ◌++◌, length, take, drop, Some, None, Option, sym, refl, ap, ◌∙◌, add-one, arith, length-take, eq-eqb, eqb-true}
use Rattle.std.proofs.lemmas.Bool.{and_parts, and_from}
use Rattle.task.specs.declared.Access.{Access}
use Rattle.task.specs.Access.{Numbered, reads, writes, numbered, readers, writers}
use Rattle.order.specs.Steps.{Step, bring, put, brings, puts, steps}
use Rattle.seat.specs.declared.Phase.{Phase}
use Rattle.seat.specs.declared.Phase.TheVariants.{Bring, Put, Done}
use Rattle.seat.specs.Phases.{reads_at, writes_at, address_at, steps_in, sound_phase, sound_standing, next_from, put_phase, bring_phase, first_phase, after_bring, after_put}
use Rattle.seat.specs.declared.Standing.{Standing}
use Rattle.seat.specs.declared.Standing.TheVariants.{Running}
use Rattle.seat.specs.Laws.{PhasesAreTheSteps}
use Rattle.order.proofs.Left.{numbered_few}
use Rattle.seat.proofs.Next.{Arrives, arrives, passes_low, numbered_here, count_here}

module _ (xs : List Access) where
  -- the steps of the next put phase are the puts from number k on
  put_steps_by : (k n : ℕ) (o : Option ℕ) → Arrives writes k xs o → steps_in xs (put_phase n o) ≡ puts (numbered writes k (drop k xs))
  put_steps_by k n None s = sym (ap puts s.0)
  put_steps_by k n (Some j) s = sym (ap puts s.1)

  -- the steps of the next bring phase are the brings from number k on and all puts
  bring_steps_by : (k n : ℕ) (o : Option ℕ) → Arrives reads k xs o → steps_in xs (bring_phase xs n o) ≡ brings n (numbered reads k (drop k xs)) ++ puts (writers xs)
  bring_steps_by k n None s = put_steps_by 0 n _ (arrives writes 0 xs) ∙ sym (ap (λ (l : List Numbered). brings n l ++ puts (writers xs)) s.0)
  bring_steps_by k n (Some j) s = sym (ap (λ (l : List Numbered). brings n l ++ puts (writers xs)) s.1)

  -- the next put phase is sound where all values have been brought
  put_sound_by : (k n : ℕ) (o : Option ℕ) → n ≡ length (readers xs) → Arrives writes k xs o → sound_phase xs (put_phase n o) ≡ true
  put_sound_by k n None e s = refl
  put_sound_by k n (Some j) e s = and_from _ _ s.0 (eq-eqb _ _ e)

  -- the next bring phase is sound where the values of the accesses before number k have been brought
  bring_sound_by : (k n : ℕ) (o : Option ℕ) → n ≡ length (numbered reads 0 (take k xs)) → Arrives reads k xs o → sound_phase xs (bring_phase xs n o) ≡ true
  bring_sound_by k n None e s = put_sound_by 0 n _ (e ∙ s.1) (arrives writes 0 xs)
  bring_sound_by k n (Some j) e s = and_from _ _ s.0 (eq-eqb _ _ (e ∙ sym s.2))

  -- what a sound bring phase says
  bring_is : (i n : ℕ) → sound_phase xs (Bring i n) ≡ true → (reads_at xs i ≡ true) × (n ≡ length (numbered reads 0 (take i xs)))
  bring_is i n h = let q = and_parts _ _ h in (q.0, eqb-true _ _ q.1)

  -- and of a sound put phase
  put_is : (i n : ℕ) → sound_phase xs (Put i n) ≡ true → (writes_at xs i ≡ true) × (n ≡ length (readers xs))
  put_is i n h = let q = and_parts _ _ h in (q.0, eqb-true _ _ q.1)

  -- a sound bring phase has one of the task's accesses, and no more values than there are accesses before it
  pub bring_low : (i n : ℕ) → sound_phase xs (Bring i n) ≡ true → (i < length xs) × (n ≤ i)
  bring_low i n h =
      let q = bring_is i n h in
      let lt : i < length xs = passes_low reads xs i q.0 in
      let long : length (take i xs) ≡ i = simp length-take (omega arith) in
      (lt, omega (arith, q.1, long, numbered_few reads 0 (take i xs)))

  -- a sound put phase has one of the task's accesses, and no more values than there are accesses
  pub put_low : (i n : ℕ) → sound_phase xs (Put i n) ≡ true → (i < length xs) × (n ≤ length xs)
  put_low i n h = let q = put_is i n h in (passes_low writes xs i q.0, omega (arith, q.1, numbered_few reads 0 xs))

  -- the phase after a bring, by the number of the access after it
  pub bring_phase-add : (i n : ℕ) → bring_phase xs (n + 1) (next_from reads (i + 1) (drop (i + 1) xs)) ≡ after_bring xs i n
  bring_phase-add i n = simp add-one

  -- the phase after a put
  pub put_phase-add : (i n : ℕ) → put_phase n (next_from writes (i + 1) (drop (i + 1) xs)) ≡ after_put xs i n
  put_phase-add i n = simp add-one

  -- the first phase has all steps
  pub first_steps : steps_in xs (first_phase xs) ≡ steps xs
  first_steps = bring_steps_by 0 0 _ (arrives reads 0 xs)

  -- and is sound
  pub first_sound : sound_phase xs (first_phase xs) ≡ true
  first_sound = bring_sound_by 0 0 _ refl (arrives reads 0 xs)

  -- a bring phase has its bring, and then the steps of the phase after it
  pub bring_steps : (i n : ℕ) → sound_phase xs (Bring i n) ≡ true → steps_in xs (Bring i n) ≡ bring (record { number = i; address = address_at xs i }) n ∷ steps_in xs (after_bring xs i n)
  bring_steps i n h =
      ap (λ (l : List Numbered). brings n l ++ puts (writers xs)) (numbered_here reads xs i (bring_is i n h).0)
      ∙ ap (λ (l : List Step). bring (record { number = i; address = address_at xs i }) n ∷ l) (sym (bring_steps_by (suc i) (suc n) _ (arrives reads (suc i) xs)))

  -- which is sound
  pub bring_sound : (i n : ℕ) → sound_phase xs (Bring i n) ≡ true → sound_phase xs (after_bring xs i n) ≡ true
  bring_sound i n h =
      let q = bring_is i n h in
      bring_sound_by (suc i) (suc n) _ (ap suc q.1 ∙ sym (count_here reads xs i q.0)) (arrives reads (suc i) xs)

  -- a put phase has its put, and then the steps of the phase after it
  pub put_steps : (i n : ℕ) → sound_phase xs (Put i n) ≡ true → steps_in xs (Put i n) ≡ put (record { number = i; address = address_at xs i }) ∷ steps_in xs (after_put xs i n)
  put_steps i n h =
      ap puts (numbered_here writes xs i (put_is i n h).0)
      ∙ ap (λ (l : List Step). put (record { number = i; address = address_at xs i }) ∷ l) (sym (put_steps_by (suc i) n _ (arrives writes (suc i) xs)))

  -- all values have been brought in it
  pub put_brought : (i n : ℕ) → sound_phase xs (Put i n) ≡ true → n ≡ length (readers xs)
  put_brought i n h = (put_is i n h).1

  -- and the phase after it is sound
  pub put_sound : (i n : ℕ) → sound_phase xs (Put i n) ≡ true → sound_phase xs (after_put xs i n) ≡ true
  put_sound i n h = put_sound_by (suc i) n _ (put_brought i n h) (arrives writes (suc i) xs)

  -- only a task that is done has no step left
  pub no_steps : (p : Phase) → sound_phase xs p ≡ true → steps_in xs p ≡ [] → p ≡ Done
  no_steps (Bring i n) h e = let s = bring_steps i n h in absurd cc
  no_steps (Put i n) h e = let s = put_steps i n h in absurd cc
  no_steps Done h e = refl

  -- all of these together
  pub phases_are_the_steps : PhasesAreTheSteps xs
  phases_are_the_steps = record {
    first_steps = first_steps;
    first_sound = first_sound;
    bring_steps = bring_steps;
    bring_sound = bring_sound;
    put_steps = put_steps;
    put_brought = put_brought;
    put_sound = put_sound;
    no_steps = no_steps;
    bring_low = bring_low;
    put_low = put_low;
  }

  -- a running task in a sound phase stands soundly
  pub runs_soundly : (st : Standing) (p q : Phase) → st ≡ Running p → p ≡ q → sound_phase xs q ≡ true → sound_standing xs st ≡ true
  runs_soundly st p q e f h = ap (sound_standing xs) (e ∙ ap Running f) ∙ h
