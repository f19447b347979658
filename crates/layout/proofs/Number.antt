-- A field that is a number: laid out and read back, read and laid out. Assumes nothing.
use Rattle.std.proofs.Common.{◌≡◌, ℕ, ◌^◌, ◌<◌, ◌≤◌, ltb, List, ◌++◌, length, take, drop, Ok, Err, ap, ◌∙◌, subst, arith, length-append, take-append-drop, length-take}
use lib.Seq.{take-append_seam, drop-append_seam}
use Rattle.std.proofs.lemmas.Bool.{ltb-false, le-ltb, cond-false}
use Rattle.fault.specs.declared.StreamFault.TheVariants.{BeyondEnd}
use Rattle.layout.specs.Layout.{little}
use Rattle.layout.specs.Reading.{value, number}
use Rattle.layout.specs.Agreement.{Bytes}
use Rattle.layout.proofs.Little.{length_little, value_little, little_value, value_fits, bytes_parts}
use Rattle.layout.proofs.Steps.{fault_unless}

-- a number that fits is read back from its bytes
pub number_laid : (w k n : ℕ) (rest : List ℕ) → n < 256 ^ w → number w k (little w n ++ rest) ≡ Ok (n, rest)
number_laid w k n rest h =
    let bs = little w n ++ rest in
    let front : take w bs ≡ little w n = rw length_little at (take-append_seam (little w n) rest) in
    let behind : drop w bs ≡ rest = rw length_little at (drop-append_seam (little w n) rest) in
    let enough : w ≤ length bs = simp (length-append, length_little) (omega arith) in
    let same : value (take w bs) ≡ n = ap value front ∙ value_little w n h in
    cond-false (ltb (length bs) w) (Err (BeyondEnd k)) (Ok (value (take w bs), drop w bs)) (le-ltb (length bs) w enough) ∙ rw (same, behind)

-- the bytes begin with the w bytes of the number, which fits them, and bytes are left behind it
abbrev pub Begins : ℕ → List ℕ → ℕ × List ℕ → Type 0
Begins w bs p = (bs ≡ little w p.0 ++ p.1) × (p.0 < 256 ^ w) × Bytes p.1

-- bytes begin with the number that is read from them
pub number_exact : (w k : ℕ) (bs : List ℕ) → Bytes bs → (p : ℕ × List ℕ) → number w k bs ≡ Ok p → Begins w bs p
number_exact w k bs h p e =
    let front = take w bs in
    let behind = drop w bs in
    let read = fault_unless (ltb (length bs) w) (BeyondEnd k) (Ok (value front, behind)) p e in
    let is : (value front, behind) ≡ p = cc in
    let enough : w ≤ length bs = ltb-false (length bs) w read.0 in
    let long : length front ≡ w = simp length-take (omega arith) in
    let bytes : Bytes front × Bytes behind = bytes_parts front behind (rw take-append-drop h) in
    let laid : little w (value front) ≡ front = rw long at (little_value front bytes.0) in
    let fits : value front < 256 ^ w = rw long at (value_fits front bytes.0) in
    let whole : bs ≡ little w (value front) ++ behind = rw (laid, take-append-drop) in
    subst (Begins w bs) is (whole, fits, bytes.1)
