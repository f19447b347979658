-- The number that bytes write, the lowest first, is the sum of what they are worth. Assumes nothing.
use Rattle.std.proofs.Common.{◌≡◌, ℕ, zero, suc, ◌+◌, ◌*◌, ◌^◌, ◌<◌, List, [], ◌∷◌, ◌++◌, length, get_or, take, ap, ◌∙◌, arith, pow-suc, length-take, take_all}
use Rattle.std.proofs.Math.Seq.{take-suc}
use Rattle.std.specs.Int.{sum_through, byte_worth}
use Rattle.layout.specs.Reading.{value}

-- one byte more, above the others
value_push : (xs : List ℕ) (b : ℕ) → value (xs ++ (b ∷ [])) ≡ value xs + b * 256 ^ length xs
value_push [] b = omega arith
value_push (x ∷ xs) b = let more : value (xs ++ (b ∷ [])) ≡ value xs + b * 256 ^ length xs = value_push xs b in rw pow-suc (grind arith)

-- the bytes up to the one at k
value_through : (xs : List ℕ) (k : ℕ) → k < length xs → sum_through (λ i. byte_worth i (get_or xs i 0)) k ≡ value (take (suc k) xs)
value_through [] zero lt = absurd (omega arith)
value_through (x ∷ xs) zero lt = omega arith
value_through xs (suc k) lt =
    let before : sum_through (λ i. byte_worth i (get_or xs i 0)) k ≡ value (take (suc k) xs) = value_through xs k (omega arith) in
    let one : take (suc (suc k)) xs ≡ take (suc k) xs ++ (get_or xs (suc k) 0 ∷ []) = take-suc xs (suc k) 0 lt in
    let long : length (take (suc k) xs) ≡ suc k = simp length-take (omega arith) in
    rw (one, value_push, long, before)

-- all bytes, as `from_le_bytes` reads a number of k + 1 of them
pub value_all : (k : ℕ) (xs : List ℕ) → length xs ≡ suc k → sum_through (λ i. byte_worth i (get_or xs i 0)) k ≡ value xs
value_all k xs long = value_through xs k (omega arith) ∙ ap value (take_all (suc k) xs (omega arith))
