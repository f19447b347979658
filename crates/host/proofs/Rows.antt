-- A part of a list is a row of a function that agrees with it at each place. Assumes nothing.
use Rattle.std.proofs.Common.{◌≡◌, ℕ, suc, ◌+◌, ◌<◌, ◌≤◌, List, [], ◌∷◌, length, get_or, take, drop, sym, refl, ap, ◌∙◌, suc-le-suc, add-zero, zero-add, arith, length-drop}
use Rattle.std.proofs.lemmas.List.{get_or-take, get_or-drop, length-take-le}
use Rattle.host.specs.Meaning.{row}

-- a list is a row if it agrees with the function at each place
row_from : {V : Type 0} (f : ℕ → V) (d : V) (xs : List V) (p : ℕ) → ((k : ℕ) → k < length xs → get_or xs k d ≡ f (p + k)) → xs ≡ row p (length xs) f
row_from f d [] p same = refl
row_from {V} f d (x ∷ xs) p same =
    let here : x ≡ f p = rw add-zero at (same 0 (omega arith)) in
    let rest : xs ≡ row (suc p) (length xs) f =
    row_from f d xs (suc p) (λ k low. let e : suc p + k ≡ p + suc k = omega arith in same (suc k) (suc-le-suc low) ∙ ap f (sym e)) in
    cc

-- the n places from start on
pub part_is_row : {V : Type 0} (f : ℕ → V) (d : V) (xs : List V) (start n : ℕ) → start + n ≤ length xs → ((k : ℕ) → k < n → get_or xs (start + k) d ≡ f k) → take n (drop start xs) ≡ row 0 n f
part_is_row {V} f d xs start n long same =
    let part : List V = take n (drop start xs) in
    let size : length part ≡ n = length-take-le n (drop start xs) (simp length-drop (omega arith)) in
    let places : (k : ℕ) → k < length part → get_or part k d ≡ f (0 + k) =
    λ k low. let in-n : k < n = omega arith in get_or-take n (drop start xs) k d in-n ∙ get_or-drop start xs k d ∙ same k in-n ∙ ap f (sym (zero-add k)) in
    row_from f d part 0 places ∙ ap (λ (m : ℕ). row 0 m f) size
