-- The lowest of some sets that is crowded, and counting the accesses of a list by going through it. Assumes nothing.
--
--   crowded_none, crowded_some, crowded_alike    whether a set is crowded
--   crowded_adds                                 the lowest crowded set, when one count grows
--   needs_more, fresh_more and so on             a count along a list, with what is left of the list
--   any_crowds                                   counting by a closure that changes the counts
--   stall_short, stall_full                      too few versions; the lowest set without room
use Rattle.std.proofs.Common.{◌≡◌, ℕ, zero, suc, ◌+◌, ◌-◌, ◌%◌, ◌<◌, ◌≤◌, min, Bool, true, false, cond, not, ◌&&◌, ◌||◌, eqb, ltb, List, [], ◌∷◌, length, get_or, drop, is_some, ◌++◌, map, subst, Some, None, Option, sym, refl, ap, ◌∙◌, ap₂, ⊎_elim, arith}
use Rattle.std.proofs.Math.Bool.{and-true}
use denote.Ref.{Bor}
use denote.Param.Members.{Mut, Called}
use Rattle.std.proofs.Common.{Iter}
use Rattle.std.specs.Iterator.{Yields, ChecksAny}
use Rattle.std.proofs.lemmas.Fn.{chained_keeps, fronts}
use Rattle.std.specs.Option.{option_map_or, MatchOption}
use Rattle.std.proofs.lemmas.Bool.{cases_Bool, cases_eq, both_ways, lt-ltb, le-ltb, ltb-false, ltb-true, cond_both, cond-true, cond-false, ne_eqb}
use Rattle.std.proofs.lemmas.List.{map-append, at_drop_more, at_drop_all}
use Rattle.fault.specs.declared.TableFault.TheVariants.{TooFewVersions}
use Rattle.task.specs.declared.Access.{Access}
use Rattle.task.specs.Access.{writes}
use Rattle.task.proofs.Some.{blank}
use Rattle.admission.specs.Admission.{first_from}
use Rattle.roll.specs.Roll.{Roll}
use Rattle.roll.specs.Tables.{tally, live, needs, used, fresh, occupied, crowded, missing, full_set, stall}
use Rattle.tracker.specs.Tracked.{sized}
use Rattle.tracker.proofs.Tables.{tally_most}
use Rattle.tracker.proofs.Tracking.{fresh_more as fresh_push}
use Rattle.tracker.proofs.Room.{fresh_sized, occupied_sized}

-- tests that agree hold first at the same number
first_alike : (p q : ℕ → Bool) (i n : ℕ) → ((k : ℕ) → k < i + n → p k ≡ q k) → first_from p i n ≡ first_from q i n
first_alike p q i zero h = refl
first_alike p q i (suc n) h =
    ap₂ (λ (b : Bool) (r : Option ℕ). cond b (Some i) r) (h i (omega arith)) (first_alike p q (suc i) n (λ k lt. h k (omega arith)))

-- a test that fails at each number holds at none
first_none : (p : ℕ → Bool) (i n : ℕ) → ((k : ℕ) → k < i + n → p k ≡ false) → first_from p i n ≡ None
first_none p i zero h = refl
first_none p i (suc n) h = cond-false (p i) (Some i) (first_from p (suc i) n) (h i (omega arith)) ∙ first_none p (suc i) n (λ k lt. h k (omega arith))

-- one of two answers, of which one is there
either_some : (b : Bool) (i : ℕ) (r : Option ℕ) → (b ≡ false → is_some r ≡ true) → is_some (cond b (Some i) r) ≡ true
either_some true i r h = refl
either_some false i r h = h refl

-- a test that holds at one of some numbers holds at a first
first_some : (p : ℕ → Bool) (i n k : ℕ) → i ≤ k → k < i + n → p k ≡ true → is_some (first_from p i n) ≡ true
first_some p i zero k low high t = absurd (omega (arith, low, high))
first_some p i (suc n) k low high t =
    either_some (p i) i (first_from p (suc i) n) (λ f. ⊎_elim
    (λ (e : i ≡ k). absurd (both_ways (p k) (sym (ap p e) ∙ f) t))
    (λ (ne : i ≡ k → ⊥). first_some p (suc i) n k (omega (arith, low, ne)) (omega arith) t)
    (cases_eq i k))

-- no set is crowded if no count is above the ways
pub crowded_none : (count : ℕ → ℕ) → ((z : ℕ) → z < 64 → count z ≤ 8) → crowded count ≡ None
crowded_none count h = first_none (λ z. ltb 8 (count z)) 0 64 (λ z lt. le-ltb 8 (count z) (h z lt))

-- some set is, if one count is
pub crowded_some : (count : ℕ → ℕ) (z : ℕ) → z < 64 → 8 < count z → is_some (crowded count) ≡ true
crowded_some count z lt h = first_some (λ z. ltb 8 (count z)) 0 64 z (omega arith) lt (lt-ltb 8 (count z) h)

-- equal counts have the same lowest crowded set
pub crowded_alike : (f g : ℕ → ℕ) → ((z : ℕ) → z < 64 → f z ≡ g z) → crowded f ≡ crowded g
crowded_alike f g h = first_alike (λ z. ltb 8 (f z)) (λ z. ltb 8 (g z)) 0 64 (λ z lt. ap (ltb 8) (h z lt))

-- the first number at which a test holds, if it is not below s, is no lower than s
first_above : (p : ℕ → Bool) (s i n : ℕ) → s ≤ i → option_map_or (λ z. min z s) (first_from p i n) s ≡ s
first_above p s i zero le = refl
first_above p s i (suc n) le =
    cond_both (p i) (Some i) (first_from p (suc i) n) (λ (o : Option ℕ). option_map_or (λ z. min z s) o s ≡ s)
    (λ _. omega (arith, le))
    (λ _. first_above p s (suc i) n (omega (arith, le)))

-- a test that holds at s too holds first at s, or where it held first before
first_lower : (p q : ℕ → Bool) (s i n : ℕ) → i ≤ s → s < i + n → ((k : ℕ) → (k ≡ s → ⊥) → q k ≡ p k) → q s ≡ true →
    first_from q i n ≡ Some (option_map_or (λ z. min z s) (first_from p i n) s)
first_lower p q s i zero low high same hit = absurd (omega (arith, low, high))
first_lower p q s i (suc n) low high same hit = ⊎_elim
    (λ (e : i ≡ s).
    cond-true (q i) (Some i) (first_from q (suc i) n) (ap q e ∙ hit) ∙ ap Some e
    ∙ ap Some (sym (first_above p s i (suc n) (omega (arith, e)))))
    (λ (ne : i ≡ s → ⊥).
    ap (λ b. cond b (Some i) (first_from q (suc i) n)) (same i ne)
    ∙ step (p i) (first_from p (suc i) n) (first_from q (suc i) n) (first_lower p q s (suc i) n (omega (arith, low, ne)) (omega (arith, high)) same hit))
    (cases_eq i s)
  where
    step : (b : Bool) (r r' : Option ℕ) → r' ≡ Some (option_map_or (λ z. min z s) r s) → cond b (Some i) r' ≡ Some (option_map_or (λ z. min z s) (cond b (Some i) r) s)
    step true r r' e = let least : i ≡ min i s = omega (arith, low) in ap Some least
    step false r r' e = e

-- one more of a set whose count follows: the lowest crowded set is that set, if it is crowded now and none below it was
pub crowded_adds : (f : ℕ → ℕ) (ns ns' : List ℕ) (s l : ℕ) (full full' : Option ℕ) → s < 64 → l ≡ f s →
    ((z : ℕ) → get_or ns' z 0 ≡ get_or ns z 0 + tally (eqb s z)) → full ≡ crowded (λ z. f z + get_or ns z 0) →
    full' ≡ cond (ltb 8 (l + get_or ns' s 0)) (Some (option_map_or (λ z. min z s) full s)) full → full' ≡ crowded (λ z. f z + get_or ns' z 0)
crowded_adds f ns ns' s l full full' low at more was e =
    e ∙ ap (λ n. cond (ltb 8 (n + get_or ns' s 0)) (Some (option_map_or (λ z. min z s) full s)) full) at
    ∙ ap (λ (o : Option ℕ). cond (ltb 8 (f s + get_or ns' s 0)) (Some (option_map_or (λ z. min z s) o s)) o) was
    ∙ ⊎_elim
    (λ (hit : ltb 8 (f s + get_or ns' s 0) ≡ true).
    cond-true _ _ _ hit ∙ sym (first_lower p q s 0 64 (omega arith) low same hit))
    (λ (miss : ltb 8 (f s + get_or ns' s 0) ≡ false).
    cond-false _ _ _ miss ∙ first_alike p q 0 64 (λ k lt. ⊎_elim
    (λ (here : k ≡ s). ap p here ∙ le-ltb 8 (f s + get_or ns s 0) (fewer miss) ∙ sym miss ∙ ap q (sym here))
    (λ ne. sym (same k ne))
    (cases_eq k s)))
    (cases_Bool (ltb 8 (f s + get_or ns' s 0)))
  where
    p : ℕ → Bool
    p z = ltb 8 (f z + get_or ns z 0)

    q : ℕ → Bool
    q z = ltb 8 (f z + get_or ns' z 0)

    same : (k : ℕ) → (k ≡ s → ⊥) → q k ≡ p k
    same k ne = let m = more k in let z : tally (eqb s k) ≡ 0 = ap tally (ne_eqb s k (λ e. ne (sym e))) in let e : get_or ns' k 0 ≡ get_or ns k 0 = omega (arith, m, z) in ap (λ n. ltb 8 (f k + n)) e

    fewer : ltb 8 (f s + get_or ns' s 0) ≡ false → f s + get_or ns s 0 ≤ 8
    fewer miss = let b = ltb-false 8 (f s + get_or ns' s 0) miss in let m = more s in omega (arith, b, m)

-- at most each access needs a version
pub needs_most : (v : Roll) (xs : List Access) → needs v xs ≤ length xs
needs_most v [] = omega arith
needs_most v (x ∷ xs) =
    let k = needs_most v xs in
    let e = tally_most (writes x || not (live v x.address)) in
    omega (arith, k, e)

-- and has a new address of a set
pub fresh_most : (v : Roll) (z : ℕ) (xs : List Access) → fresh (sized 0 0) v z xs ≤ length xs
fresh_most v z [] = omega arith
fresh_most v z (x ∷ xs) =
    let k = fresh_most v z xs in
    let e = tally_most (eqb (x.address % 64) z && not (live v x.address)) in
    omega (arith, k, e)

-- a count along a list, one access further
pub needs_more : (v : Roll) (xs : List Access) (i m m' : ℕ) → i < length xs →
    m + needs v (drop i xs) ≡ needs v xs → m' ≡ m + tally (writes (get_or xs i blank) || not (live v (get_or xs i blank).address)) →
    m' + needs v (drop (i + 1) xs) ≡ needs v xs
needs_more v xs i m m' lt so_far e =
    let s : needs v (drop i xs) ≡ tally (writes (get_or xs i blank) || not (live v (get_or xs i blank).address)) + needs v (drop (i + 1) xs) =
    at_drop_more (needs v) xs i blank lt in
    omega (arith, so_far, e, s)

-- and of the new addresses of a set
pub fresh_more : (v : Roll) (z : ℕ) (xs : List Access) (i m m' : ℕ) → i < length xs →
    m + fresh (sized 0 0) v z (drop i xs) ≡ fresh (sized 0 0) v z xs → m' ≡ m + tally (eqb ((get_or xs i blank).address % 64) z && not (live v (get_or xs i blank).address)) →
    m' + fresh (sized 0 0) v z (drop (i + 1) xs) ≡ fresh (sized 0 0) v z xs
fresh_more v z xs i m m' lt so_far e =
    let s : fresh (sized 0 0) v z (drop i xs) ≡ tally (eqb ((get_or xs i blank).address % 64) z && not (live v (get_or xs i blank).address)) + fresh (sized 0 0) v z (drop (i + 1) xs) =
    at_drop_more (fresh (sized 0 0) v z) xs i blank lt in
    omega (arith, so_far, e, s)

-- a count along a list, at its end
pub needs_all : (v : Roll) (xs : List Access) (i m : ℕ) → length xs ≤ i → m + needs v (drop i xs) ≡ needs v xs → m ≡ needs v xs
needs_all v xs i m le so_far = let e : needs v (drop i xs) ≡ 0 = at_drop_all (needs v) xs i le in omega (arith, so_far, e)

-- and of the new addresses of a set
pub fresh_all : (v : Roll) (z : ℕ) (xs : List Access) (i m : ℕ) → length xs ≤ i → m + fresh (sized 0 0) v z (drop i xs) ≡ fresh (sized 0 0) v z xs → m ≡ fresh (sized 0 0) v z xs
fresh_all v z xs i m le so_far = let e : fresh (sized 0 0) v z (drop i xs) ≡ 0 = at_drop_all (fresh (sized 0 0) v z) xs i le in omega (arith, so_far, e)

-- a count along a list is never above that of the whole list
pub fresh_so_far : (v : Roll) (z : ℕ) (xs : List Access) (i m : ℕ) → m + fresh (sized 0 0) v z (drop i xs) ≡ fresh (sized 0 0) v z xs → m ≤ length xs
fresh_so_far v z xs i m so_far = let k = fresh_most v z xs in omega (arith, so_far, k)

-- a count of the accesses of a set, one access further
pub counted : (xs : List Access) (i z m m' s : ℕ) → s ≡ (get_or xs i blank).address % 64 → i < length xs →
    m + fresh (sized 0 0) [] z (drop i xs) ≡ fresh (sized 0 0) [] z xs → m' ≡ m + tally (eqb s z) → m' + fresh (sized 0 0) [] z (drop (i + 1) xs) ≡ fresh (sized 0 0) [] z xs
counted xs i z m m' s e lt so_far c = fresh_more [] z xs i m m' lt so_far (c ∙ ap (λ b. m + tally b) (ap (λ n. eqb n z) e ∙ sym (and-true (eqb ((get_or xs i blank).address % 64) z))))

-- the accesses of a list are counted, and no set has more than 8
abbrev Counts : List ℕ → List Access → Type 0
Counts ns ys = (z : ℕ) → z < 64 → (get_or ns z 0 ≤ 8) × (get_or ns z 0 ≡ fresh (sized 0 0) [] z ys)

-- counts to which one access of a set is added
abbrev Adds : List ℕ → List ℕ → Access → Type 0
Adds ns ns' x = get_or ns (x.address % 64) 0 < 255 → (z : ℕ) → get_or ns' z 0 ≡ get_or ns z 0 + tally (eqb (x.address % 64) z)

-- one access more, which is not one too many
counts_more : (ns ns' : List ℕ) (ys : List Access) (x : Access) → Counts ns ys → Adds ns ns' x → get_or ns' (x.address % 64) 0 ≤ 8 → Counts ns' (ys ++ (x ∷ []))
counts_more ns ns' ys x h adds few z lt =
    let own = (h (x.address % 64) (omega arith)).0 in
    let m = adds (omega (arith, own)) z in
    let w = h z lt in
    let k = fresh_push (sized 0 0) [] z ys x in
    let b : tally (eqb (x.address % 64) z && true) ≡ tally (eqb (x.address % 64) z) = ap tally (and-true (eqb (x.address % 64) z)) in (
      ⊎_elim
          (λ (e : x.address % 64 ≡ z). subst (λ n. get_or ns' n 0 ≤ 8) e few)
          (λ ne. let no : tally (eqb (x.address % 64) z) ≡ 0 = ap tally (ne_eqb (x.address % 64) z ne) in omega (arith, m, w.0, no))
          (cases_eq (x.address % 64) z),
      omega (arith, m, w.1, k, b),
    )

-- the new addresses of two lists
fresh-++ : (z : ℕ) (xs ys : List Access) → fresh (sized 0 0) [] z (xs ++ ys) ≡ fresh (sized 0 0) [] z xs + fresh (sized 0 0) [] z ys
fresh-++ z [] ys = omega arith
fresh-++ z (x ∷ xs) ys = let k = fresh-++ z xs ys in omega (arith, k)

-- what a slice's iterator gave, and what is left
gave : (xs : List (Bor Access)) (s t : Iter Access) → Yields fronts s xs t → s.rest.now ≡ map (λ x. x.now) xs ++ t.rest.now
gave [] s t y = ap (λ (i : Iter Access). i.rest.now) y
gave (x ∷ xs) s t y = y.1 ∙ ap (λ (l : List Access). x.now ∷ l) (gave xs y.0 t y.2)

-- counting by a closure that changes the counts, until a set has one too many
pub any_crowds : {F : Type 0} (g : Mut F (Bor Access × Unit {0}) Bool) (counts : F → List ℕ) (s u : Iter Access) (f : F) (r : Bool) →
    ChecksAny fronts g s f r u →
    ((q : F) (x : Bor Access) (b : Bool) (v : F) → Called g q (x, tt) b v → (b ≡ ltb 8 (get_or (counts v) (x.now.address % 64) 0)) × Adds (counts q) (counts v) x.now) →
    ((z : ℕ) → z < 64 → get_or (counts f) z 0 ≡ 0) → r ≡ is_some (crowded (λ z. fresh (sized 0 0) [] z s.rest.now))
any_crowds {F} g counts s u f r ran says none = by ran.1 ran.3.2 ran.5
  where
    xs : List Access
    xs = map (λ x. x.now) ran.0

    t : Iter Access
    t = ran.3.0

    counted_so_far : Counts (counts ran.2) xs
    counted_so_far =
        chained_keeps (λ p x q. Called g p (x, tt) false q) (λ ys q. Counts (counts q) (map (λ x. x.now) ys))
        (λ ys q x v h k.
        let c = says q x false v k in
        subst (Counts (counts v)) (sym (map-append (λ (y : Bor Access). y.now) ys (x ∷ [])))
        (counts_more (counts q) (counts v) (map (λ y. y.now) ys) x.now h c.1 (ltb-false 8 (get_or (counts v) (x.now.address % 64) 0) (sym c.0))))
        ran.0 f ran.2 (λ z lt. let e = none z lt in (omega (arith, e), none z lt)) ran.4

    split : (z : ℕ) → fresh (sized 0 0) [] z s.rest.now ≡ fresh (sized 0 0) [] z xs + fresh (sized 0 0) [] z t.rest.now
    split z = ap (fresh (sized 0 0) [] z) (gave ran.0 s t ran.3.1) ∙ fresh-++ z xs t.rest.now

    by : (o : Option (Bor Access)) → fronts t o u → MatchOption o (r ≡ false) (λ x. (r ≡ true) × ((h : F) × Called g ran.2 (x, tt) true h)) →
        r ≡ is_some (crowded (λ z. fresh (sized 0 0) [] z s.rest.now))
    by None left e =
        e ∙ sym (ap is_some (crowded_none (λ z. fresh (sized 0 0) [] z s.rest.now) (λ z lt.
        let c = counted_so_far z lt in
        let p = split z in
        let m = fresh_most [] z t.rest.now in
        let l = left.0 in
        omega (arith, c.0, c.1, p, m, l))))
    by (Some x) left e =
        let z = x.now.address % 64 in
        let c = says ran.2 x true e.1.0 e.1.1 in
        let w = counted_so_far z (omega arith) in
        let m = c.1 (omega (arith, w.0)) z in
        let p = split z in
        let over = ltb-true 8 (get_or (counts e.1.0) z 0) (sym c.0) in
        let q : fresh (sized 0 0) [] z t.rest.now ≡ tally (eqb z z && true) + fresh (sized 0 0) [] z u.rest.now = ap (fresh (sized 0 0) [] z) left in
        let b : tally (eqb z z && true) ≡ tally (eqb z z) = ap tally (and-true (eqb z z)) in
        e.0 ∙ sym (crowded_some (λ k. fresh (sized 0 0) [] k s.rest.now) z (omega arith) (omega (arith, w.1, m, p, over, q, b)))

-- what is missing, of the versions that are needed and those that are free
pub missing_is : (n wanted taken free m : ℕ) (v : Roll) (xs : List Access) → wanted ≡ needs v xs → taken ≡ used [] v → free ≡ n - taken → m ≡ wanted - free →
    m ≡ missing (sized 0 n) v xs
missing_is n wanted taken free m v xs w t f e = e ∙ ap₂ ◌-◌ w (f ∙ ap (λ k. n - k) t)

-- versions are missing
pub stall_short : (n : ℕ) (v : Roll) (xs : List Access) (m : ℕ) → m ≡ missing (sized 0 n) v xs → 0 < m → Some (TooFewVersions m) ≡ stall (sized 0 n) v (0 ∷ []) xs
stall_short n v xs m e p =
    ap (λ k. Some (TooFewVersions k)) e
    ∙ sym (cond-true (ltb 0 (missing (sized 0 n) v xs)) (Some (TooFewVersions (missing (sized 0 n) v xs))) (full_set (crowded (λ z. occupied (sized 0 n) z [] v + fresh (sized 0 n) v z xs)))
    (lt-ltb 0 (missing (sized 0 n) v xs) (omega (arith, e, p))))

-- none is, so a set has no room, or every set has
pub stall_full : (n : ℕ) (v : Roll) (xs : List Access) (m : ℕ) (r : Option ℕ) → m ≡ missing (sized 0 n) v xs → m ≤ 0 →
    r ≡ crowded (λ z. occupied (sized 0 0) z [] v + fresh (sized 0 0) v z xs) → full_set r ≡ stall (sized 0 n) v (0 ∷ []) xs
stall_full n v xs m r e p h =
    ap full_set (h ∙ crowded_alike (λ z. occupied (sized 0 0) z [] v + fresh (sized 0 0) v z xs) (λ z. occupied (sized 0 n) z [] v + fresh (sized 0 n) v z xs)
    (λ z lt. sym (ap₂ ◌+◌ (occupied_sized n z [] v) (fresh_sized n v z xs))))
    ∙ sym (cond-false (ltb 0 (missing (sized 0 n) v xs)) (Some (TooFewVersions (missing (sized 0 n) v xs))) (full_set (crowded (λ z. occupied (sized 0 n) z [] v + fresh (sized 0 n) v z xs)))
    (le-ltb 0 (missing (sized 0 n) v xs) (omega (arith, e, p))))
