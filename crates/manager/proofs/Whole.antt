-- That the fields agree with one another can be shown in one way only, so that a manager is told by its fields. Assumes nothing.
use Rattle.std.proofs.Common.{◌≡◌, subst}
use base.Stored.{coded_ℕ, coded_bool}
use native.Mathlib.Bridge.{le_prop}
use denote.Struct.Props.{≡_prop}
use Rattle.claims.specs.Queues.{bares}
use Rattle.tracker.proofs.Propositions.{tracked_prop}
use Rattle.manager.specs.declared.inner.Inner.{Inner}
use Rattle.manager.specs.declared.manager.Manager.{Manager}
use Rattle.manager.specs.Model.{roll_of}
use Rattle.manager.specs.Sound.{Seated, Sound}

-- the parts that hold also while a finish is under way
seated_prop : (i : Inner) → IsProp (Seated i)
seated_prop i p q = λ j. record {
  full = ≡_prop coded_ℕ _ _ p.full q.full j;
  few_seats = le_prop p.few_seats q.few_seats j;
  few_versions = le_prop p.few_versions q.few_versions j;
  listed_seats = λ s. ≡_prop coded_bool _ _ (p.listed_seats s) (q.listed_seats s) j;
  within = λ s f. le_prop (p.within s f) (q.within s f) j;
  freed = λ s. ≡_prop coded_ℕ _ _ (p.freed s) (q.freed s) j;
  lined = λ s. ≡_prop coded_ℕ _ _ (p.lined s) (q.lined s) j;
  tracked = tracked_prop i.tracker (bares (roll_of i)) p.tracked q.tracked j;
}

-- all of it
sound_prop : (i : Inner) → IsProp (Sound i)
sound_prop i p q = λ j. record {
  seated = seated_prop i p.seated q.seated j;
  waits = λ s f. ≡_prop coded_bool _ _ (p.waits s f) (q.waits s f) j;
}

-- managers with equal fields are equal
pub same_manager : (i j : Inner) (p : Sound i) (q : Sound j) → i ≡ j → ◌≡◌ {A = Manager} (record { inner = i; sound = p }) (record { inner = j; sound = q })
same_manager i j p q e =
    subst (λ (k : Inner). (r : Sound k) → ◌≡◌ {A = Manager} (record { inner = i; sound = p }) (record { inner = k; sound = r })) e (λ r. λ n. record { inner = i; sound = sound_prop i p r n }) q
