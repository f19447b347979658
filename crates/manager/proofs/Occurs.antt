-- How often a number stands in a list, and how long a list is in which each number stands at most once. Assumes nothing.
--
--   occurrences-++           of two lists, one after the other
--   occurrences_member, occurrences_absent   a number that is in the list occurs in it, and any other does not
--   fits_more                numbers below 256, each once, of which one is missing: there are fewer than 256
--   line_room                the same for a list with each number that passes a test once
use Rattle.std.proofs.Common.{◌≡◌, ℕ, zero, suc, ◌+◌, ◌<◌, ◌≤◌, Bool, true, false, cond, not, ◌||◌, eqb, List, [], ◌∷◌, ◌++◌, length, sym, refl, ap, ◌∙◌, inl, inr, arith}
use Rattle.std.proofs.lemmas.Bool.{eqb-true, eqb-false, eq-eqb, ne_eqb, not-false, cases_eq}
use Rattle.roll.specs.Tables.{tally}
use Rattle.acceptance.specs.Listed.{member, removed}
use Rattle.roll.proofs.Split.{once_itself}
use Rattle.tracker.proofs.Tables.{tally_most}
use Rattle.manager.specs.Lines.{occurrences}

-- two lists, one after the other
pub occurrences-++ : (s : ℕ) (xs ys : List ℕ) → occurrences s (xs ++ ys) ≡ occurrences s xs + occurrences s ys
occurrences-++ s [] ys = omega arith
occurrences-++ s (x ∷ xs) ys = let rest = occurrences-++ s xs ys in omega arith

-- one more at the end
pub occurrences_push : (s : ℕ) (xs : List ℕ) (y : ℕ) → occurrences s (xs ++ (y ∷ [])) ≡ occurrences s xs + tally (eqb y s)
occurrences_push s xs y = let sum = occurrences-++ s xs (y ∷ []) in omega arith

-- a test that counts holds
pub counted : (b : Bool) → 1 ≤ tally b → b ≡ true
counted true h = refl
counted false h = absurd (omega arith)

-- a number is not another
pub tally_other : (s t : ℕ) → (s ≡ t → ⊥) → tally (eqb s t) ≡ 0
tally_other s t ne = rw (ne_eqb s t ne)

-- a list without the first occurrence of a number has it once less, and every other number as often
occurrences_removed_at : (n x : ℕ) (xs : List ℕ) → occurrences n (removed n xs) + tally (member n xs) ≡ occurrences n xs → (v : Bool) → eqb n x ≡ v →
    occurrences n (cond v xs (x ∷ removed n xs)) + tally (v || member n xs) ≡ tally (eqb x n) + occurrences n xs
occurrences_removed_at n x xs rest true e = let one : tally (eqb x n) ≡ 1 = rw (eq-eqb x n (sym (eqb-true n x e))) in omega arith
occurrences_removed_at n x xs rest false e = omega arith

pub occurrences_removed : (n : ℕ) (xs : List ℕ) → occurrences n (removed n xs) + tally (member n xs) ≡ occurrences n xs
occurrences_removed n [] = refl
occurrences_removed n (x ∷ xs) = occurrences_removed_at n x xs (occurrences_removed n xs) (eqb n x) refl

occurrences_other_at : (t n x : ℕ) (xs : List ℕ) → (t ≡ n → ⊥) → occurrences t (removed n xs) ≡ occurrences t xs → (v : Bool) → eqb n x ≡ v →
    occurrences t (cond v xs (x ∷ removed n xs)) ≡ tally (eqb x t) + occurrences t xs
occurrences_other_at t n x xs ne rest true e = let none : tally (eqb x t) ≡ 0 = tally_other x t (λ q. ne (sym q ∙ sym (eqb-true n x e))) in omega arith
occurrences_other_at t n x xs ne rest false e = omega arith

pub occurrences_other : (t n : ℕ) (xs : List ℕ) → (t ≡ n → ⊥) → occurrences t (removed n xs) ≡ occurrences t xs
occurrences_other t n [] ne = refl
occurrences_other t n (x ∷ xs) ne = occurrences_other_at t n x xs ne (occurrences_other t n xs ne) (eqb n x) refl

-- it is shorter by one if the number was there
length_removed_at : (n x : ℕ) (xs : List ℕ) → length (removed n xs) + tally (member n xs) ≡ length xs → (v : Bool) →
    length (cond v xs (x ∷ removed n xs)) + tally (v || member n xs) ≡ suc (length xs)
length_removed_at n x xs rest true = omega arith
length_removed_at n x xs rest false = omega arith

pub length_removed : (n : ℕ) (xs : List ℕ) → length (removed n xs) + tally (member n xs) ≡ length xs
length_removed n [] = refl
length_removed n (x ∷ xs) = length_removed_at n x xs (length_removed n xs) (eqb n x)

-- a number is in the list exactly if it occurs
member_at : (n x : ℕ) (xs : List ℕ) → member n xs ≡ not (eqb (occurrences n xs) 0) → (v : Bool) → eqb n x ≡ v →
    (v || member n xs) ≡ not (eqb (tally (eqb x n) + occurrences n xs) 0)
member_at n x xs rest true e =
    let one : tally (eqb x n) ≡ 1 = rw (eq-eqb x n (sym (eqb-true n x e))) in
    ap not (sym (ne_eqb (tally (eqb x n) + occurrences n xs) 0 (λ q. omega arith)))
member_at n x xs rest false e =
    let none : tally (eqb x n) ≡ 0 = tally_other x n (λ q. eqb-false n x e (sym q)) in
    let same : tally (eqb x n) + occurrences n xs ≡ occurrences n xs = omega arith in
    rest ∙ ap (λ k. not (eqb k 0)) (sym same)

pub occurrences_member : (n : ℕ) (xs : List ℕ) → member n xs ≡ not (eqb (occurrences n xs) 0)
occurrences_member n [] = refl
occurrences_member n (x ∷ xs) = member_at n x xs (occurrences_member n xs) (eqb n x) refl

pub occurrences_absent : (n : ℕ) (xs : List ℕ) → member n xs ≡ false → occurrences n xs ≡ 0
occurrences_absent n xs h = eqb-true (occurrences n xs) 0 (not-false (eqb (occurrences n xs) 0) (sym (occurrences_member n xs) ∙ h))

-- the first of a list occurs
head_occurs : (x : ℕ) (xs : List ℕ) → 1 ≤ occurrences x (x ∷ xs)
head_occurs x xs = let one = once_itself x in omega arith

-- a removal leaves no number more often
pub occurrences_fewer : (t n : ℕ) (xs : List ℕ) → occurrences t (removed n xs) ≤ occurrences t xs
occurrences_fewer t n xs =
    elim (cases_eq t n) [
      | inl same ↦ rw same (omega (arith, occurrences_removed n xs))
      | inr other ↦ omega (arith, occurrences_other t n xs other)
    ]

-- a number that occurs at most once does not after its removal
gone : (n : ℕ) (xs : List ℕ) → occurrences n xs ≤ 1 → (b : Bool) → occurrences n (removed n xs) + tally b ≡ occurrences n xs → b ≡ not (eqb (occurrences n xs) 0) →
    occurrences n (removed n xs) ≡ 0
gone n xs once true e h = omega arith
gone n xs once false e h = let none = eqb-true (occurrences n xs) 0 (not-false (eqb (occurrences n xs) 0) (sym h)) in omega arith

pub occurrences_gone : (n : ℕ) (xs : List ℕ) → occurrences n xs ≤ 1 → occurrences n (removed n xs) ≡ 0
occurrences_gone n xs once = gone n xs once (member n xs) (occurrences_removed n xs) (occurrences_member n xs)

-- without the greatest number, all others are less
few_step : (n : ℕ) (xs : List ℕ) → ((t : ℕ) → occurrences t xs ≤ 1) → ((t : ℕ) → suc n ≤ t → occurrences t xs ≡ 0) → (t : ℕ) → n ≤ t →
    occurrences t (removed n xs) ≡ 0
few_step n xs once low t le =
    elim (cases_eq t n) [
      | inl same ↦ rw same (occurrences_gone n xs (once n))
      | inr other ↦ occurrences_other t n xs other ∙ low t (omega arith)
    ]

-- of numbers below n, each at most once, there are at most n
pub few : (n : ℕ) (xs : List ℕ) → ((t : ℕ) → occurrences t xs ≤ 1) → ((t : ℕ) → n ≤ t → occurrences t xs ≡ 0) → length xs ≤ n
few zero [] once low = omega arith
few zero (x ∷ xs) once low = omega (arith, low x (omega arith), head_occurs x xs)
few (suc n) xs once low =
    let fewer : (t : ℕ) → occurrences t (removed n xs) ≤ 1 = λ t. omega (arith, occurrences_fewer t n xs, once t) in
    let shorter = few n (removed n xs) fewer (few_step n xs once low) in
    omega (arith, length_removed n xs, tally_most (member n xs))

-- of numbers below 256, each at most once, of which one does not occur, there are fewer than 256
one_more : (s : ℕ) (xs : List ℕ) → occurrences s xs ≡ 0 → ((t : ℕ) → occurrences t xs ≤ 1) → (t : ℕ) → tally (eqb s t) + occurrences t xs ≤ 1
one_more s xs none once t =
    elim (cases_eq t s) [
      | inl same ↦ rw same (omega (arith, tally_most (eqb s s)))
      | inr other ↦ omega (arith, tally_other s t (λ e. other (sym e)), once t)
    ]

pub fits_more : (xs : List ℕ) → ((t : ℕ) → occurrences t xs ≤ 1) → ((t : ℕ) → 256 ≤ t → occurrences t xs ≡ 0) →
    (s : ℕ) → s < 256 → occurrences s xs ≡ 0 → length xs < 256
fits_more xs once low s lt none =
    let most = few 256 (s ∷ xs) (one_more s xs none once) (λ t le. omega (arith, tally_other s t (λ e. omega arith), low t le)) in
    omega arith

-- so a line with each number that passes a test once has fewer, where none passes from 256 on and one below it does not
pub line_room : (xs : List ℕ) (p : ℕ → Bool) → ((t : ℕ) → occurrences t xs ≡ tally (p t)) → ((t : ℕ) → 256 ≤ t → p t ≡ false) →
    (s : ℕ) → s < 256 → p s ≡ false → length xs < 256
line_room xs p each low s lt none =
    fits_more xs (λ t. omega (arith, each t, tally_most (p t))) (λ t le. each t ∙ ap tally (low t le)) s lt (each s ∙ ap tally none)
