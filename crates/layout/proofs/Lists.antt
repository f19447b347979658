-- The addresses and the directions of a submission: laid out and read back, read and laid out. Assumes nothing.
use Rattle.std.proofs.Common.{◌≡◌, ℕ, zero, suc, ◌+◌, ◌^◌, ◌<◌, eqb, List, [], ◌∷◌, ◌++◌, length, Ok, Err, sym, refl, ap, ◌∙◌, subst, arith}
use Rattle.std.proofs.lemmas.Bool.{eqb-true, cond_both}
use Rattle.fault.specs.declared.StreamFault.TheVariants.{BeyondEnd, UnknownDirection}
use Rattle.task.specs.declared.Access.{Access}
use Rattle.task.specs.declared.Direction.{Direction}
use Rattle.task.specs.declared.Direction.TheVariants.{In, Out, InOut}
use Rattle.layout.specs.Layout.{code, address_bytes, direction_bytes, AddressesFit}
use Rattle.layout.specs.Reading.{Read, number, addresses, direction, directions}
use Rattle.layout.specs.Agreement.{Bytes}
use Rattle.layout.proofs.Steps.{no_value, ok_parts, then_ok, then_steps}
use Rattle.layout.proofs.Number.{number_laid, number_exact}

-- the addresses of accesses
abbrev pub places : List Access → List ℕ
places [] = []
places (x ∷ xs) = x.address ∷ places xs

-- the empty list has no first element
empty_is_not : {A : Type 0} {a : A} {more : List A} → [] ≡ a ∷ more → ⊥
empty_is_not e = let z : ◌≡◌ {A = ℕ} 0 1 = cc in omega arith

-- addresses that fit are read back from their bytes
pub addresses_laid : (xs : List Access) → AddressesFit xs → (k : ℕ) (rest : List ℕ) → addresses (length xs) k (address_bytes xs ++ rest) ≡ Ok (places xs, rest)
addresses_laid [] h k rest = refl
addresses_laid (x ∷ xs) h k rest =
    let behind = address_bytes xs ++ rest in
    then_ok _ _ (x.address, behind) _ (number_laid 8 k x.address behind h.0) (then_ok _ _ (places xs, rest) _ (addresses_laid xs h.1 (k + 8) rest) refl)

-- the addresses that are read are laid out as the bytes that they are read from, and fit
pub addresses_exact : (n k : ℕ) (bs : List ℕ) → Bytes bs → (xs : List Access) (rest : List ℕ) → addresses n k bs ≡ Ok (places xs, rest) → (n ≡ length xs) × (bs ≡ address_bytes xs ++ rest) × AddressesFit xs
addresses_exact zero k bs h [] rest e = (refl, (ok_parts ([], bs) ([], rest) e).1, tt)
addresses_exact zero k bs h (x ∷ xs) rest e = absurd (empty_is_not (ok_parts ([], bs) (places (x ∷ xs), rest) e).0)
addresses_exact (suc n) k bs h [] rest e =
    let first = then_steps (number 8 k bs) _ ([], rest) e in
    let more = then_steps (addresses n (k + 8) first.rest) _ ([], rest) first.goes in
    absurd (empty_is_not (sym (ok_parts (first.value ∷ more.value, more.rest) ([], rest) more.goes).0))
addresses_exact (suc n) k bs h (x ∷ xs) rest e =
    let first = then_steps (number 8 k bs) _ (places (x ∷ xs), rest) e in
    let more = then_steps (addresses n (k + 8) first.rest) _ (places (x ∷ xs), rest) first.goes in
    let begins = number_exact 8 k bs h (first.value, first.rest) first.reads in
    let same = ok_parts (first.value ∷ more.value, more.rest) (places (x ∷ xs), rest) more.goes in
    let is : first.value ≡ x.address = cc in
    let those : more.value ≡ places xs = cc in
    let later = addresses_exact n (k + 8) first.rest begins.2 xs rest (rw (those, same.1) at more.reads) in
    let laid : bs ≡ address_bytes (x ∷ xs) ++ rest = begins.0 ∙ rw (is, later.1) in
    let fits : x.address < 256 ^ 8 = rw is at begins.1 in
    (ap suc later.0, laid, (fits, later.2))

-- a direction is read back from its byte
pub direction_laid : (d : Direction) (k : ℕ) (rest : List ℕ) → direction k (code d) rest ≡ Ok (d, rest)
direction_laid In k rest = refl
direction_laid Out k rest = refl
direction_laid InOut k rest = refl

-- directions are read back from their bytes, each joined to its address
pub directions_laid : (xs : List Access) (k : ℕ) (rest : List ℕ) → directions (places xs) k (direction_bytes xs ++ rest) ≡ Ok (xs, rest)
directions_laid [] k rest = refl
directions_laid (x ∷ xs) k rest =
    let behind = direction_bytes xs ++ rest in
    then_ok _ _ (x.direction, behind) _ (direction_laid x.direction k behind) (then_ok _ _ (xs, rest) _ (directions_laid xs (k + 1) rest) refl)

-- bytes begin with the byte of the direction that is read from them
pub direction_exact : (k b : ℕ) (rest : List ℕ) (p : Direction × List ℕ) → direction k b rest ≡ Ok p → b ∷ rest ≡ code p.0 ∷ p.1
direction_exact k b rest p e =
    let P : Read Direction → Type 0 = λ r. r ≡ Ok p → b ∷ rest ≡ code p.0 ∷ p.1 in
    let it : (d : Direction) → b ≡ code d → P (Ok (d, rest)) = λ d t e. let same = ok_parts (d, rest) p e in rw (t, same.0, same.1) in
    let none : P (Err (UnknownDirection k b)) = λ e. absurd (no_value (UnknownDirection k b) p e) in
    cond_both (eqb b 1) _ _ P (λ t. it In (eqb-true b 1 t))
    (λ _. cond_both (eqb b 2) _ _ P (λ t. it Out (eqb-true b 2 t))
    (λ _. cond_both (eqb b 3) _ _ P (λ t. it InOut (eqb-true b 3 t)) (λ _. none))) e

-- the bytes begin with the directions of the accesses, which have the addresses
abbrev pub Directed : List ℕ → List ℕ → List Access × List ℕ → Type 0
Directed list bs p = (list ≡ places p.0) × (bs ≡ direction_bytes p.0 ++ p.1)

-- bytes begin with the directions that are read from them
pub directions_exact : (list : List ℕ) (k : ℕ) (bs : List ℕ) (p : List Access × List ℕ) → directions list k bs ≡ Ok p → Directed list bs p
directions_exact [] k bs p e = let is : ([], bs) ≡ p = cc in subst (Directed [] bs) is (refl, refl)
directions_exact (a ∷ list) k [] p e = absurd (no_value (BeyondEnd k) p e)
directions_exact (a ∷ list) k (b ∷ bs) p e =
    let first = then_steps (direction k b bs) _ p e in
    let more = then_steps (directions list (k + 1) first.rest) _ p first.goes in
    let begins = direction_exact k b bs (first.value, first.rest) first.reads in
    let later = directions_exact list (k + 1) first.rest (more.value, more.rest) more.reads in
    let x : Access = record { address = a; direction = first.value } in
    let is : (x ∷ more.value, more.rest) ≡ p = cc in
    subst (Directed (a ∷ list) (b ∷ bs)) is (ap (λ (r : List ℕ). a ∷ r) later.0, begins ∙ ap (λ (r : List ℕ). code first.value ∷ r) later.1)
