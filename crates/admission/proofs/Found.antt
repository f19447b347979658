-- What a search through a list finds is the first number at which a test of numbers holds. Assumes nothing.
use Rattle.std.proofs.Common.{◌≡◌, ℕ, suc, ◌+◌, ◌<◌, Bool, cond, List, [], ◌∷◌, length, get_or, Some, refl, ap, ◌∙◌, add-one, arith}
use Rattle.std.specs.List.{position_from}
use Rattle.admission.specs.Admission.{first_from}

-- where the test of a number from i on is that of the element at its place
pub position_from_is_first : {X : Type 0} (t : X → Bool) (p : ℕ → Bool) (d : X) (xs : List X) (i : ℕ) → ((k : ℕ) → k < length xs → t (get_or xs k d) ≡ p (i + k)) → position_from t i xs ≡ first_from p i (length xs)
position_from_is_first t p d [] i same = refl
position_from_is_first t p d (x ∷ xs) i same =
    let here : t x ≡ p i = let z : i + 0 ≡ i = omega arith in same 0 (omega arith) ∙ ap p z in
    let later = λ (k : ℕ) (lt : k < length xs).
    let s : i + suc k ≡ suc i + k = omega arith in same (suc k) (omega (arith, lt)) ∙ ap p s in
    let rest : position_from t (suc i) xs ≡ first_from p (suc i) (length xs) = position_from_is_first t p d xs (suc i) later in
    rw add-one (ap (λ (b : Bool). cond b (Some i) (position_from t (suc i) xs)) here ∙ ap (cond (p i) (Some i)) rest)
