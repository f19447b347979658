-- What a submission that does not stall leaves room for. Assumes nothing.
use Rattle.std.proofs.Common.{◌≡◌, ℕ, zero, suc, ◌+◌, ◌-◌, ◌%◌, ◌<◌, ◌≤◌, Bool, true, false, cond, not, ◌&&◌, ◌||◌, eqb, ltb, List, [], ◌∷◌, length, get_or, take, Some, None, Option, refl, ap, ◌∙◌, arith}
use Rattle.std.proofs.lemmas.Bool.{eq-eqb, ltb-false}
use Rattle.std.proofs.lemmas.List.{take_more}
use Rattle.fault.specs.declared.TableFault.TheVariants.{TooFewVersions}
use Rattle.task.specs.declared.Access.{Access}
use Rattle.task.specs.declared.Direction.TheVariants.{In}
use Rattle.task.specs.Access.{writes}
use Rattle.admission.specs.Admission.{first_from}
use Rattle.admission.proofs.Sound.{nowhere}
use Rattle.roll.specs.Roll.{Roll}
use Rattle.roll.specs.Tables.{Tables, tally, used, needs, live, fresh, occupied, missing, crowded, full_set, stall, ways}
use Rattle.claims.specs.Queues.{bare}
use Rattle.claims.proofs.Joins.{plus}
use Rattle.claims.proofs.Sets.{used_enter, occupied_enter}
use Rattle.tracker.specs.Tracked.{sized}
use Rattle.tracker.proofs.Tracking.{needs_more, fresh_more}

-- the access read past the end of a list
abbrev pub unread : Access
unread = record { address = 0; direction = In }

-- how many versions there are does not matter to the new addresses of a set
pub fresh_sized : (n : ℕ) (v : Roll) (set : ℕ) (xs : List Access) → fresh (sized 0 n) v set xs ≡ fresh (sized 0 0) v set xs
fresh_sized n v set [] = refl
fresh_sized n v set (x ∷ xs) = ap (λ k. tally (eqb (x.address % 64) set && not (live v x.address)) + k) (fresh_sized n v set xs)

-- nor to the live ones
pub occupied_sized : (n : ℕ) (set : ℕ) (e v : Roll) → occupied (sized 0 n) set e v ≡ occupied (sized 0 0) set e v
occupied_sized n set e [] = refl
occupied_sized n set e (x ∷ v) =
    let p = fresh_sized n e set x.job.accesses in
    let q = occupied_sized n set (x ∷ e) v in
    omega (arith, p, q)

-- where no number passes the test, none does
pub first_none : (p : ℕ → Bool) (i n : ℕ) → first_from p i n ≡ None → (z : ℕ) → i ≤ z → z < i + n → p z ≡ false
first_none p i n h z lo hi =
    let e : z ≡ i + (z - i) = omega arith in
    ap p e ∙ nowhere p n i h (z - i) (omega arith)

-- a set that is not crowded
pub not_crowded : (count : ℕ → ℕ) → crowded count ≡ None → (z : ℕ) → z < 64 → count z ≤ 8
not_crowded count h z lt = ltb-false 8 (count z) (first_none (λ set. ltb ways (count set)) 0 64 h z (omega arith) (omega arith))

-- a submission that does not stall: there are enough versions, and room in each set
pub no_stall : (n : ℕ) (v : Roll) (xs : List Access) → stall (sized 0 n) v (0 ∷ []) xs ≡ None →
    (needs v xs ≤ n - used [] v) × ((z : ℕ) → z < 64 → occupied (sized 0 0) z [] v + fresh (sized 0 0) v z xs ≤ 8)
no_stall n v xs h = by (ltb 0 (missing (sized 0 n) v xs)) refl h
  where
    none_full : (o : Option ℕ) → full_set o ≡ None → o ≡ None
    none_full None e = refl
    none_full (Some z) e = cc

    by : (b : Bool) → ltb 0 (missing (sized 0 n) v xs) ≡ b →
        cond b (Some (TooFewVersions (missing (sized 0 n) v xs))) (full_set (crowded (λ set. occupied (sized 0 n) set [] v + fresh (sized 0 n) v set xs))) ≡ None →
        (needs v xs ≤ n - used [] v) × ((z : ℕ) → z < 64 → occupied (sized 0 0) z [] v + fresh (sized 0 0) v z xs ≤ 8)
    by true e k = absurd cc
    by false e k = (
      let m = ltb-false 0 (needs v xs - (n - used [] v)) e in omega (arith, m),
      λ z zl. let c = not_crowded (λ set. occupied (sized 0 n) set [] v + fresh (sized 0 n) v set xs) (none_full (crowded (λ set. occupied (sized 0 n) set [] v + fresh (sized 0 n) v set xs)) k) z zl in
          let p = fresh_sized n v z xs in let q = occupied_sized n z [] v in omega (arith, c, p, q),
    )

-- the first accesses need no more versions than all
needs_take : (v : Roll) (xs : List Access) (i : ℕ) → needs v (take i xs) ≤ needs v xs
needs_take v [] zero = omega arith
needs_take v [] (suc i) = omega arith
needs_take v (x ∷ xs) zero = omega arith
needs_take v (x ∷ xs) (suc i) = let k = needs_take v xs i in omega (arith, k)

-- and have no more new addresses of a set
fresh_take : (z : Tables) (v : Roll) (set : ℕ) (xs : List Access) (i : ℕ) → fresh z v set (take i xs) ≤ fresh z v set xs
fresh_take z v set [] zero = omega arith
fresh_take z v set [] (suc i) = omega arith
fresh_take z v set (x ∷ xs) zero = omega arith
fresh_take z v set (x ∷ xs) (suc i) = let k = fresh_take z v set xs i in omega (arith, k)

-- there is a version for the next access, if it needs one
pub version_at : (n : ℕ) (v : Roll) (s : ℕ) (xs : List Access) (i : ℕ) → i < length xs → n ≤ 512 → stall (sized 0 n) v (0 ∷ []) xs ≡ None →
    (writes (get_or xs i unread) || not (live v (get_or xs i unread).address)) ≡ true → used [] (plus v s (take i xs)) < 60000
version_at n v s xs i lt few h y =
    let x = get_or xs i unread in
    let r = no_stall n v xs h in
    let a = r.0 in
    let m : needs v (take (i + 1) xs) ≡ needs v (take i xs) + tally (writes x || not (live v x.address)) = ap (needs v) (take_more xs i unread lt) ∙ needs_more v (take i xs) x in
    let one : tally (writes x || not (live v x.address)) ≡ 1 = ap tally y in
    let k = needs_take v xs (i + 1) in
    let u = used_enter v (bare s (take i xs)) in
    omega (arith, a, m, one, k, u, few)

-- there is room for the next access's address, if it is new
pub room_at : (n : ℕ) (v : Roll) (s : ℕ) (xs : List Access) (i : ℕ) → i < length xs → stall (sized 0 n) v (0 ∷ []) xs ≡ None →
    live v (get_or xs i unread).address ≡ false → occupied (sized 0 0) ((get_or xs i unread).address % 64) [] (plus v s (take i xs)) < 8
room_at n v s xs i lt h dead =
    let x = get_or xs i unread in
    let z = x.address % 64 in
    let a = (no_stall n v xs h).1 z (omega arith) in
    let m : fresh (sized 0 0) v z (take (i + 1) xs) ≡ fresh (sized 0 0) v z (take i xs) + tally (eqb z z && not (live v x.address)) =
    ap (fresh (sized 0 0) v z) (take_more xs i unread lt) ∙ fresh_more (sized 0 0) v z (take i xs) x in
    let one : tally (eqb z z && not (live v x.address)) ≡ 1 = ap (λ b. tally (b && not (live v x.address))) (eq-eqb z z refl) ∙ ap (λ b. tally (not b)) dead in
    let k = fresh_take (sized 0 0) v z xs (i + 1) in
    let u = occupied_enter (sized 0 0) z v (bare s (take i xs)) in
    omega (arith, a, m, one, k, u)
