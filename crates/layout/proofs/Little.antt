-- Numbers in bytes, the lowest first: a number is the value of its bytes, and bytes are those of their value. Assumes nothing.
use Rattle.std.proofs.Common.{◌≡◌, ℕ, zero, suc, ◌+◌, ◌*◌, ◌/◌, ◌%◌, ◌^◌, ◌<◌, List, [], ◌∷◌, ◌++◌, length, refl, ap, pow-suc, arith}
use Rattle.std.proofs.lemmas.Nat.{div_below}
use Rattle.layout.specs.Layout.{little}
use Rattle.layout.specs.Reading.{value}
use Rattle.layout.specs.Agreement.{Bytes}

-- the bytes are as many as asked for
pub length_little : (w n : ℕ) → length (little w n) ≡ w
length_little zero n = refl
length_little (suc w) n = ap suc (length_little w (n / 256))

-- a number that fits is the value of its bytes
pub value_little : (w n : ℕ) → n < 256 ^ w → value (little w n) ≡ n
value_little zero n h = omega arith
value_little (suc w) n h = rw (value_little w (n / 256) (div_below n 256 (256 ^ w) (omega arith) (rw pow-suc at h))) (omega arith)

-- bytes are those of their value
pub little_value : (bs : List ℕ) → Bytes bs → little (length bs) (value bs) ≡ bs
little_value [] h = refl
little_value (b ∷ bs) h =
    let low : (b + 256 * value bs) % 256 ≡ b = omega arith in
    let high : (b + 256 * value bs) / 256 ≡ value bs = omega arith in
    rw (low, high, little_value bs h.1)

-- the value of bytes fits them
pub value_fits : (bs : List ℕ) → Bytes bs → value bs < 256 ^ length bs
value_fits [] h = omega arith
value_fits (b ∷ bs) h = let more = value_fits bs h.1 in rw pow-suc (omega arith)

-- the bytes of two lists in a row are bytes in each
pub bytes_parts : (xs ys : List ℕ) → Bytes (xs ++ ys) → Bytes xs × Bytes ys
bytes_parts [] ys h = (tt, h)
bytes_parts (x ∷ xs) ys h = let more = bytes_parts xs ys h.1 in ((h.0, more.0), more.1)
