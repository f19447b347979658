-- Two rolls with the same seats and accesses, entry by entry, have the same claims and use as much of the tables. Assumes nothing.
-- For each word W, `W-bares` says that a roll has the same W with nothing but its seats and accesses, and `W-alike` says it of two rolls
-- that are the same in these.
use Rattle.std.proofs.Common.{◌≡◌, ℕ, suc, ◌+◌, Bool, true, false, cond, not, ◌&&◌, ◌||◌, eqb, List, [], ◌∷◌, ◌++◌, length, sym, refl, ap, ◌∙◌, subst, ap₂}
use mathlib.Core.Path.{fun_ext}
use Rattle.task.specs.declared.Access.{Access}
use Rattle.task.specs.Access.{writes, conflict}
use Rattle.admission.specs.Admission.{occurs}
use Rattle.roll.specs.Roll.{Roll, Standing, blocked, sits, stand, change, wake, without}
use Rattle.roll.specs.Tables.{Tables, tally, live, needs, used, fresh, occupied}
use Rattle.claims.specs.Claims.{against, canon}
use Rattle.claims.specs.Queues.{bare, bares, on, queue, Apart, AllApart, map_of, hit_count, AbsentSeat}

-- two rolls, one after the other
pub bares-++ : (v u : Roll) → bares (v ++ u) ≡ bares v ++ bares u
bares-++ [] u = refl
bares-++ (e ∷ v) u = ap (λ w. bare e.job.seat e.job.accesses ∷ w) (bares-++ v u)

-- a task in another standing
pub bares_change : (s : ℕ) (st : Standing) (v : Roll) → bares (change s st v) ≡ bares v
bares_change s st [] = refl
bares_change s st (e ∷ v) = by (sits s e) (bares_change s st v)
  where
    by : (b : Bool) → bares (change s st v) ≡ bares v → bares (cond b (stand st e ∷ v) (e ∷ change s st v)) ≡ bares (e ∷ v)
    by true h = refl
    by false h = ap (λ w. bare e.job.seat e.job.accesses ∷ w) h

-- tasks that become ready
pub bares_wake : (earlier v : Roll) → bares (wake earlier v) ≡ bares v
bares_wake earlier [] = refl
bares_wake earlier (e ∷ v) = ap (λ w. bare e.job.seat e.job.accesses ∷ w) (bares_wake (e ∷ earlier) v)

-- the roll without a seat
pub bares_without : (s : ℕ) (v : Roll) → bares (without s v) ≡ without s (bares v)
bares_without s [] = refl
bares_without s (e ∷ v) = by (sits s e) (bares_without s v)
  where
    by : (b : Bool) → bares (without s v) ≡ without s (bares v) →
        bares (cond b v (e ∷ without s v)) ≡ cond b (bares v) (bare e.job.seat e.job.accesses ∷ without s (bares v))
    by true h = refl
    by false h = ap (λ w. bare e.job.seat e.job.accesses ∷ w) h

-- the roll of nothing but seats and accesses stays as it is
pub bares_twice : (v : Roll) → bares (bares v) ≡ bares v
bares_twice [] = refl
bares_twice (e ∷ v) = ap (λ w. bare e.job.seat e.job.accesses ∷ w) (bares_twice v)

-- the claims on an address
pub queue_bares : (a : ℕ) (v : Roll) → queue a v ≡ queue a (bares v)
queue_bares a [] = refl
queue_bares a (e ∷ v) = ap (λ q. on a e.job.seat e.job.accesses ++ q) (queue_bares a v)

-- what the roll makes of each address
pub map_bares : (v : Roll) → map_of v ≡ map_of (bares v)
map_bares v = fun_ext (λ a. ap canon (queue_bares a v))

-- whether it blocks a task
pub blocked_bares : (v : Roll) (xs : List Access) → blocked v xs ≡ blocked (bares v) xs
blocked_bares [] xs = refl
blocked_bares (e ∷ v) xs = ap (λ b. conflict e.job.accesses xs || b) (blocked_bares v xs)

-- its live addresses
pub live_bares : (v : Roll) (a : ℕ) → live v a ≡ live (bares v) a
live_bares [] a = refl
live_bares (e ∷ v) a = ap (λ b. occurs a e.job.accesses || b) (live_bares v a)

-- the versions that a submission needs
pub needs_bares : (v : Roll) (xs : List Access) → needs v xs ≡ needs (bares v) xs
needs_bares v [] = refl
needs_bares v (x ∷ xs) = ap₂ (λ b n. tally (writes x || not b) + n) (live_bares v x.address) (needs_bares v xs)

-- the versions in use
pub used_bares : (e v : Roll) → used e v ≡ used (bares e) (bares v)
used_bares e [] = refl
used_bares e (t ∷ v) = ap₂ ◌+◌ (needs_bares e t.job.accesses) (used_bares (t ∷ e) v)

-- the new addresses of a set
pub fresh_bares : (z : Tables) (v : Roll) (set : ℕ) (xs : List Access) → fresh z v set xs ≡ fresh z (bares v) set xs
fresh_bares z v set [] = refl
fresh_bares z v set (x ∷ xs) = ap₂ (λ b n. tally (eqb (z.set_of x.address) set && not b) + n) (live_bares v x.address) (fresh_bares z v set xs)

-- the live addresses of a set
pub occupied_bares : (z : Tables) (set : ℕ) (e v : Roll) → occupied z set e v ≡ occupied z set (bares e) (bares v)
occupied_bares z set e [] = refl
occupied_bares z set e (t ∷ v) = ap₂ ◌+◌ (fresh_bares z e set t.job.accesses) (occupied_bares z set (t ∷ e) v)

-- how many accesses conflict with a task of the roll
pub hit_count_bares : (v : Roll) (xs : List Access) → hit_count v xs ≡ hit_count (bares v) xs
hit_count_bares v [] = refl
hit_count_bares v (x ∷ xs) = ap₂ (λ q n. tally (against (writes x) q) + n) (queue_bares x.address v) (hit_count_bares v xs)

-- that no task has an address twice
pub AllApart-bares : (v : Roll) → AllApart v ≡ AllApart (bares v)
AllApart-bares [] = refl
AllApart-bares (e ∷ v) = ap (λ (P : Type 0). Apart e.job.accesses × P) (AllApart-bares v)

-- that no task has the seat
pub AbsentSeat-bares : (t : ℕ) (v : Roll) → AbsentSeat t v ≡ AbsentSeat t (bares v)
AbsentSeat-bares t [] = refl
AbsentSeat-bares t (e ∷ v) = ap (λ (P : Type 0). (eqb e.job.seat t ≡ false) × P) (AbsentSeat-bares t v)

-- how many tasks there are
pub length_bares : (v : Roll) → length v ≡ length (bares v)
length_bares [] = refl
length_bares (e ∷ v) = ap suc (length_bares v)

-- and so of two rolls
module _ (v u : Roll) (same : bares v ≡ bares u) where
  pub queue_alike : (a : ℕ) → queue a v ≡ queue a u
  queue_alike a = queue_bares a v ∙ ap (queue a) same ∙ sym (queue_bares a u)

  pub map_alike : map_of v ≡ map_of u
  map_alike = map_bares v ∙ ap map_of same ∙ sym (map_bares u)

  pub blocked_alike : (xs : List Access) → blocked v xs ≡ blocked u xs
  blocked_alike xs = blocked_bares v xs ∙ ap (λ (w : Roll). blocked w xs) same ∙ sym (blocked_bares u xs)

  pub live_alike : (a : ℕ) → live v a ≡ live u a
  live_alike a = live_bares v a ∙ ap (λ (w : Roll). live w a) same ∙ sym (live_bares u a)

  pub needs_alike : (xs : List Access) → needs v xs ≡ needs u xs
  needs_alike xs = needs_bares v xs ∙ ap (λ (w : Roll). needs w xs) same ∙ sym (needs_bares u xs)

  pub used_alike : used [] v ≡ used [] u
  used_alike = used_bares [] v ∙ ap (used []) same ∙ sym (used_bares [] u)

  pub fresh_alike : (z : Tables) (set : ℕ) (xs : List Access) → fresh z v set xs ≡ fresh z u set xs
  fresh_alike z set xs = fresh_bares z v set xs ∙ ap (λ (w : Roll). fresh z w set xs) same ∙ sym (fresh_bares z u set xs)

  pub occupied_alike : (z : Tables) (set : ℕ) → occupied z set [] v ≡ occupied z set [] u
  occupied_alike z set = occupied_bares z set [] v ∙ ap (occupied z set []) same ∙ sym (occupied_bares z set [] u)

  pub hit_count_alike : (xs : List Access) → hit_count v xs ≡ hit_count u xs
  hit_count_alike xs = hit_count_bares v xs ∙ ap (λ (w : Roll). hit_count w xs) same ∙ sym (hit_count_bares u xs)

  pub AllApart-alike : AllApart v → AllApart u
  AllApart-alike h = subst (λ (P : Type 0). P) (AllApart-bares v ∙ ap AllApart same ∙ sym (AllApart-bares u)) h

  pub AbsentSeat-alike : (t : ℕ) → AbsentSeat t v → AbsentSeat t u
  AbsentSeat-alike t h = subst (λ (P : Type 0). P) (AbsentSeat-bares t v ∙ ap (AbsentSeat t) same ∙ sym (AbsentSeat-bares t u)) h

  pub length_alike : length v ≡ length u
  length_alike = length_bares v ∙ ap length same ∙ sym (length_bares u)
