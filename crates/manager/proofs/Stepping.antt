-- The next step of a seat's record, as its entry on the roll has it. Assumes nothing.
--   bring_next, put_next    a record that has a bring or a put to do, before and after its step
use Rattle.std.proofs.Common.{◌≡◌, ℕ, true, List, ◌∷◌, length, Some, None, sym, refl, ap, ◌∙◌}
use Rattle.task.specs.declared.Access.{Access}
use Rattle.task.specs.Access.{readers}
use Rattle.order.specs.Steps.{Step, bring, put}
use Rattle.roll.specs.Roll.{running}
use Rattle.seat.specs.declared.Phase.TheVariants.{Bring, Put, Done}
use Rattle.seat.specs.declared.Standing.{Standing}
use Rattle.seat.specs.declared.Standing.TheVariants.{Free, Waiting, Ready, Running}
use Rattle.seat.specs.declared.Event.TheVariants.{Stepped}
use Rattle.seat.specs.declared.NextStep.{NextStep}
use Rattle.seat.specs.declared.NextStep.TheVariants.{Bring as BringNext, Put as PutNext}
use Rattle.seat.specs.Phases.{address_at, steps_in, sound_standing, after_bring, after_put, moved, or_else, next_of, standing_of}
use Rattle.seat.proofs.Laws.{bring_steps, put_steps, put_brought}

-- a seat's standing on the roll has this step next, and with the step done these are left
pub record Next (xs : List Access) (st : Standing) (σ : Step) : Type 0 where
  pub rest : List Step
  pub before : standing_of xs st ≡ running (σ ∷ rest)
  pub after : standing_of xs (or_else (moved xs st Stepped) st) ≡ running rest

-- two options or steps that differ are not equal
no_step : {P : Type 0} (σ : NextStep) → Some σ ≡ None → P
no_step σ h = absurd cc

other_step : {P : Type 0} (a d p i e n : ℕ) → Some (BringNext a d p) ≡ Some (PutNext i e n) → P
other_step a d p i e n h = absurd cc

-- a record whose next step is a bring
pub bring_next : (xs : List Access) (st : Standing) (a d p : ℕ) → sound_standing xs st ≡ true → Some (BringNext a d p) ≡ next_of xs st → Next xs st (bring (record { number = a; address = d }) p)
bring_next xs Free a d p h e = no_step _ e
bring_next xs Waiting a d p h e = no_step _ e
bring_next xs Ready a d p h e = no_step _ e
bring_next xs (Running (Bring i n)) a d p h e =
    let same : bring (record { number = i; address = address_at xs i }) n ≡ bring (record { number = a; address = d }) p = cc in
    record {
      rest = steps_in xs (after_bring xs i n);
      before = ap running (bring_steps xs i n h ∙ ap (λ (σ : Step). σ ∷ steps_in xs (after_bring xs i n)) same);
      after = refl;
    }
bring_next xs (Running (Put i n)) a d p h e = other_step a d p i (address_at xs i) n e
bring_next xs (Running Done) a d p h e = no_step _ e

-- a record whose next step is a put; as many values have been brought as the task reads
pub put_next : (xs : List Access) (st : Standing) (a d n : ℕ) → sound_standing xs st ≡ true → Some (PutNext a d n) ≡ next_of xs st → Next xs st (put (record { number = a; address = d })) × (n ≡ length (readers xs))
put_next xs Free a d p h e = no_step _ e
put_next xs Waiting a d p h e = no_step _ e
put_next xs Ready a d p h e = no_step _ e
put_next xs (Running (Bring i n)) a d p h e = other_step i (address_at xs i) n a d p (sym e)
put_next xs (Running (Put i n)) a d p h e =
    let same : put (record { number = i; address = address_at xs i }) ≡ put (record { number = a; address = d }) = cc in
    let count : p ≡ n = cc in (
      record {
        rest = steps_in xs (after_put xs i n);
        before = ap running (put_steps xs i n h ∙ ap (λ (σ : Step). σ ∷ steps_in xs (after_put xs i n)) same);
        after = refl;
      },
      count ∙ put_brought xs i n h,
    )
put_next xs (Running Done) a d p h e = no_step _ e
