-- The next access that passes a test: what is found, how many accesses pass before it, and how a search by position finds it. Assumes nothing.
use Rattle.std.proofs.Common.{◌≡◌, ℕ, zero, suc, ◌+◌, ◌<◌, Bool, true, false, cond, List, [], ◌∷◌, ◌++◌, length, get_or, take, drop, Some, None, Option, option_map, sym, refl, ap, ◌∙◌, suc-add, zero-add, arith, take-append-drop, drop-cons, take-suc, drop-drop, take-add}
use Rattle.std.specs.List.{position_from}
use Rattle.task.specs.declared.Access.{Access}
use Rattle.task.specs.Access.{Numbered, keep, numbered}
use Rattle.seat.specs.Phases.{blank, first_passes, next_from}

-- an element kept before two lists of one length
keep_same : (b : Bool) (u v : Numbered) (us vs : List Numbered) → length us ≡ length vs → length (keep b u us) ≡ length (keep b v vs)
keep_same true u v us vs e = ap suc e
keep_same false u v us vs e = e

-- how many accesses pass does not depend on the first number
pub same_count : (p : Access → Bool) (i j : ℕ) (xs : List Access) → length (numbered p i xs) ≡ length (numbered p j xs)
same_count p i j [] = refl
same_count p i j (x ∷ xs) = keep_same (p x) _ _ _ _ (same_count p (suc i) (suc j) xs)

-- an element kept before a list that is longer by n
keep_more : (b : Bool) (u : Numbered) (us vs : List Numbered) (n : ℕ) → length us ≡ length vs + n → length (keep b u us) ≡ length (keep b u vs) + n
keep_more true u us vs n e = ap suc e ∙ sym (suc-add (length vs) n)
keep_more false u us vs n e = e

-- the accesses of two lists that pass are those of the first and those of the second
pub count_append : (p : Access → Bool) (i : ℕ) (xs ys : List Access) → length (numbered p i (xs ++ ys)) ≡ length (numbered p i xs) + length (numbered p 0 ys)
count_append p i [] ys = same_count p i 0 ys ∙ sym (zero-add (length (numbered p 0 ys)))
count_append p i (x ∷ xs) ys = keep_more (p x) _ (numbered p (suc i) (xs ++ ys)) (numbered p (suc i) xs) _ (count_append p (suc i) xs ys)

-- an access that passes is one of the list
pub passes_low : (p : Access → Bool) (xs : List Access) (i : ℕ) → first_passes p (drop i xs) ≡ true → i < length xs
passes_low p [] zero h = absurd cc
passes_low p [] (suc i) h = absurd cc
passes_low p (x ∷ xs) zero h = omega arith
passes_low p (x ∷ xs) (suc i) h = omega (arith, passes_low p xs i h)

-- what a search through a list says: nothing passes, or the access m places on does, and none before it
abbrev Says : (Access → Bool) → ℕ → List Access → Option ℕ → Type 0
Says p k ys None = numbered p k ys ≡ []
Says p k ys (Some j) =
    (m : ℕ) × (j ≡ k + m) × (first_passes p (drop m ys) ≡ true) × (numbered p k ys ≡ numbered p j (drop m ys)) × (length (numbered p 0 (take m ys)) ≡ 0)

-- an access that does not pass stands before the list
says_later : (p : Access → Bool) (k : ℕ) (x : Access) (xs : List Access) (o : Option ℕ) → p x ≡ false → Says p (suc k) xs o → Says p k (x ∷ xs) o
says_later p k x xs None e s = rw e s
says_later p k x xs (Some j) e s =
    (suc s.0, omega (arith, s.1), s.2, rw e s.3, rw e (same_count p 1 0 (take s.0 xs) ∙ s.4))

-- an access that passes or not stands before the list
says_by : (p : Access → Bool) (k : ℕ) (x : Access) (xs : List Access) (b : Bool) → p x ≡ b → Says p (suc k) xs (next_from p (suc k) xs) → Says p k (x ∷ xs) (cond b (Some k) (next_from p (suc k) xs))
says_by p k x xs true e s = (0, omega arith, e, refl, refl)
says_by p k x xs false e s = says_later p k x xs _ e s

-- every search says this
says : (p : Access → Bool) (k : ℕ) (ys : List Access) → Says p k ys (next_from p k ys)
says p k [] = refl
says p k (x ∷ xs) = says_by p k x xs (p x) refl (says p (suc k) xs)

-- what a search through the accesses from number k on says of the whole list
abbrev pub Arrives : (Access → Bool) → ℕ → List Access → Option ℕ → Type 0
Arrives p k xs None = (numbered p k (drop k xs) ≡ []) × (length (numbered p 0 (take k xs)) ≡ length (numbered p 0 xs))
Arrives p k xs (Some j) =
    (first_passes p (drop j xs) ≡ true) × (numbered p k (drop k xs) ≡ numbered p j (drop j xs)) × (length (numbered p 0 (take j xs)) ≡ length (numbered p 0 (take k xs)))

-- the accesses before number k and those from there on that pass
count_split : (p : Access → Bool) (k : ℕ) (xs : List Access) → length (numbered p 0 xs) ≡ length (numbered p 0 (take k xs)) + length (numbered p 0 (drop k xs))
count_split p k xs = ap (λ (l : List Access). length (numbered p 0 l)) (sym (take-append-drop k xs)) ∙ count_append p 0 (take k xs) (drop k xs)

-- what a search through the rest of a list says, said of the whole list
arrives_by : (p : Access → Bool) (k : ℕ) (xs : List Access) (o : Option ℕ) → Says p k (drop k xs) o → Arrives p k xs o
arrives_by p k xs None s = (s, omega (arith, count_split p k xs, same_count p 0 k (drop k xs), ap length s))
arrives_by p k xs (Some j) s =
    let there : drop j xs ≡ drop s.0 (drop k xs) = rw s.1 (sym (drop-drop s.0 k xs)) in
    let before : take j xs ≡ take k xs ++ take s.0 (drop k xs) = rw s.1 (take-add k s.0 xs) in (
      rw there s.2,
      rw there s.3,
      rw before (count_append p 0 (take k xs) (take s.0 (drop k xs)) ∙ omega (arith, s.4)),
    )

-- every search from number k on says this
pub arrives : (p : Access → Bool) (k : ℕ) (xs : List Access) → Arrives p k xs (next_from p k (drop k xs))
arrives p k xs = arrives_by p k xs _ (says p k (drop k xs))

module _ (p : Access → Bool) (xs : List Access) (i : ℕ) (passes : first_passes p (drop i xs) ≡ true) where
  -- the access itself passes
  pub passes_here : p (get_or xs i blank) ≡ true
  passes_here = ap (first_passes p) (sym (drop-cons xs i blank (passes_low p xs i passes))) ∙ passes

  -- it is the first of those from its number on that pass
  pub numbered_here : numbered p i (drop i xs) ≡ record { number = i; address = (get_or xs i blank).address } ∷ numbered p (suc i) (drop (suc i) xs)
  numbered_here = rw (drop-cons xs i blank (passes_low p xs i passes), passes_here)

  -- one more access passes before the number after it
  pub count_here : length (numbered p 0 (take (suc i) xs)) ≡ suc (length (numbered p 0 (take i xs)))
  count_here =
      rw (take-suc xs i blank (passes_low p xs i passes)) (count_append p 0 (take i xs) (get_or xs i blank ∷ []) ∙ rw passes_here (omega arith))

-- a number that a test chooses or not, mapped
option_map-cond : (f : ℕ → ℕ) (b : Bool) (j : ℕ) (r : Option ℕ) → option_map f (cond b (Some j) r) ≡ cond b (Some (f j)) (option_map f r)
option_map-cond f true j r = refl
option_map-cond f false j r = refl

-- the first place that passes, counted from the number of the first access, is the next access that passes
pub option_map-position_from : (p : Access → Bool) (k j : ℕ) (xs : List Access) → option_map (λ n. k + n) (position_from p j xs) ≡ next_from p (k + j) xs
option_map-position_from p k j [] = refl
option_map-position_from p k j (x ∷ xs) =
    let f : ℕ → ℕ = λ n. k + n in
    let s : k + (j + 1) ≡ suc (k + j) = omega arith in
    let rest : option_map f (position_from p (j + 1) xs) ≡ next_from p (suc (k + j)) xs = option_map-position_from p k (j + 1) xs ∙ ap (λ (i : ℕ). next_from p i xs) s in
    option_map-cond f (p x) j (position_from p (j + 1) xs) ∙ ap (cond (p x) (Some (k + j))) rest
