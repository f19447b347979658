-- Numbers in a list, each once, and the seats among what stands at places. Assumes nothing.
use Rattle.std.proofs.Common.{◌≡◌, ℕ, zero, suc, ◌+◌, ◌<◌, ◌≤◌, Bool, true, false, cond, ◌||◌, eqb, List, [], ◌∷◌, ◌++◌, length, sym, refl, ap, ◌∙◌, inl, inr, arith}
use Rattle.std.proofs.lemmas.Bool.{eqb-true, eqb-false, eq-eqb, ne_eqb, or_parts, or_left, or_right, or_from, both_ways, cases_Bool}
use Rattle.acceptance.specs.Listed.{member, removed}

-- each number stands in the list once
abbrev pub Once : List ℕ → Type 0
Once [] = Unit {0}
Once (x ∷ xs) = (member x xs ≡ false) × Once xs

pub member_append : (s : ℕ) (xs ys : List ℕ) → member s (xs ++ ys) ≡ (member s xs || member s ys)
member_append s [] ys = refl
member_append s (x ∷ xs) ys =
    elim (eqb s x) as (λ v. (v || member s (xs ++ ys)) ≡ ((v || member s xs) || member s ys)) [ true ↦ refl | false ↦ member_append s xs ys ]

-- the middle of a list in which each number stands once is neither before nor behind it
pub once_middle : (s : ℕ) (pre post : List ℕ) → Once (pre ++ (s ∷ post)) → (member s pre ≡ false) × (member s post ≡ false)
once_middle s [] post o = (refl, o.0)
once_middle s (x ∷ pre) post o =
    let rest = once_middle s pre post o.1 in
    let parts = or_parts (member x pre) (member x (s ∷ post)) (sym (member_append x pre (s ∷ post)) ∙ o.0) in
    let other : eqb x s ≡ false = (or_parts (eqb x s) (member x post) parts.1).0 in
    (or_from (eqb s x) (member s pre) (ne_eqb s x (λ e. eqb-false x s other (sym e))) rest.0, rest.1)

pub member_middle : (s : ℕ) (pre post : List ℕ) → member s (pre ++ (s ∷ post)) ≡ true
member_middle s pre post = member_append s pre (s ∷ post) ∙ or_right (member s pre) (member s (s ∷ post)) (or_left (eqb s s) (member s post) (eq-eqb s s refl))

-- what stands before the first occurrence is one list
pub same_front : (s : ℕ) (pre pre' post post' : List ℕ) → member s pre ≡ false → member s pre' ≡ false → pre ++ (s ∷ post) ≡ pre' ++ (s ∷ post') → pre ≡ pre'
same_front s [] [] post post' h k e = refl
same_front s [] (y ∷ pre') post post' h k e = let same : s ≡ y = cc in absurd (eqb-false s y (or_parts (eqb s y) (member s pre') k).0 same)
same_front s (x ∷ pre) [] post post' h k e = let same : s ≡ x = cc in absurd (eqb-false s x (or_parts (eqb s x) (member s pre) h).0 same)
same_front s (x ∷ pre) (y ∷ pre') post post' h k e =
    let first : x ≡ y = cc in
    let others : pre ++ (s ∷ post) ≡ pre' ++ (s ∷ post') = cc in
    let rest = same_front s pre pre' post post' (or_parts (eqb s x) (member s pre) h).1 (or_parts (eqb s y) (member s pre') k).1 others in
    cc

-- the first occurrence is removed
pub removed_middle : (s : ℕ) (pre post : List ℕ) → member s pre ≡ false → removed s (pre ++ (s ∷ post)) ≡ pre ++ post
removed_middle s [] post h = rw (eq-eqb s s refl)
removed_middle s (x ∷ pre) post h =
    let parts = or_parts (eqb s x) (member s pre) h in
    rw parts.0 (ap (λ (l : List ℕ). x ∷ l) (removed_middle s pre post parts.1))

-- what is left after a removal was there before
pub member_removed : (t s : ℕ) (xs : List ℕ) → member t xs ≡ false → member t (removed s xs) ≡ false
member_removed t s [] h = refl
member_removed t s (x ∷ xs) h =
    let parts = or_parts (eqb t x) (member t xs) h in
    elim (eqb s x) as (λ v. member t (cond v xs (x ∷ removed s xs)) ≡ false) [
      | true ↦ parts.1
      | false ↦ or_from (eqb t x) (member t (removed s xs)) parts.0 (member_removed t s xs parts.1)
    ]

pub once_removed : (s : ℕ) (xs : List ℕ) → Once xs → Once (removed s xs)
once_removed s [] o = tt
once_removed s (x ∷ xs) o =
    elim (eqb s x) as (λ v. Once (cond v xs (x ∷ removed s xs))) [
      | true ↦ o.1
      | false ↦ (member_removed x s xs o.0, once_removed s xs o.1)
    ]

-- a number that stood once is gone
removed_gone_at : (s x : ℕ) (xs : List ℕ) → member x xs ≡ false → member s (removed s xs) ≡ false → (v : Bool) → eqb s x ≡ v → member s (cond v xs (x ∷ removed s xs)) ≡ false
removed_gone_at s x xs o rest true e = rw (eqb-true s x e) o
removed_gone_at s x xs o rest false e = or_from (eqb s x) (member s (removed s xs)) e rest

pub removed_gone : (s : ℕ) (xs : List ℕ) → Once xs → member s (removed s xs) ≡ false
removed_gone s [] o = refl
removed_gone s (x ∷ xs) o = removed_gone_at s x xs o.0 (removed_gone s xs o.1) (eqb s x) refl

pub length_removed : (s : ℕ) (xs : List ℕ) → length xs ≤ length (removed s xs) + 1
length_removed s [] = omega arith
length_removed s (x ∷ xs) =
    let rest = length_removed s xs in
    elim (eqb s x) as (λ v. suc (length xs) ≤ length (cond v xs (x ∷ removed s xs)) + 1) [ true ↦ omega arith | false ↦ omega arith ]

was_member : (t s : ℕ) (xs : List ℕ) → member t (removed s xs) ≡ true → member t xs ≡ true
was_member t s xs h = elim (cases_Bool (member t xs)) [ inl y ↦ y | inr n ↦ absurd (both_ways (member t (removed s xs)) (member_removed t s xs n) h) ]

few_low : (n t : ℕ) (xs : List ℕ) → member n (removed n xs) ≡ false → member t (removed n xs) ≡ true → t < suc n → t < n
few_low n t xs gone h lt =
    let other : t ≡ n → ⊥ = λ e. both_ways (member n (removed n xs)) gone (rw e at h) in
    omega arith

-- of numbers below n, each once, there are at most n
pub few : (n : ℕ) (xs : List ℕ) → Once xs → ((t : ℕ) → member t xs ≡ true → t < n) → length xs ≤ n
few zero [] o low = omega arith
few zero (x ∷ xs) o low = omega (arith, low x (or_left (eqb x x) (member x xs) (eq-eqb x x refl)))
few (suc n) xs o low =
    let gone = removed_gone n xs o in
    let rest = few n (removed n xs) (once_removed n xs o) (λ t h. few_low n t xs gone h (low t (was_member t n xs h))) in
    omega (arith, length_removed n xs)
