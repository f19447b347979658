-- A list that is read one element after another: what was read stands before what is left. Assumes nothing.
use Rattle.std.proofs.Common.{◌≡◌, ℕ, suc, ◌+◌, List, [], ◌∷◌, ◌++◌, Ok, Err, sym, refl, ap, ◌∙◌, append_assoc, append-nil}
use Rattle.fault.specs.declared.StreamFault.{StreamFault}
use Rattle.task.specs.declared.Access.{Access}
use Rattle.task.specs.declared.Direction.{Direction}
use Rattle.layout.specs.Reading.{Read, then, number, addresses, direction_at, directions}

-- what is read behind some elements
abbrev pub prefixed : {A : Type 0} → List A → Read (List A) → Read (List A)
prefixed xs r = then r (λ more rest. Ok (xs ++ more, rest))

-- one element more
pub prefixed_push : {A : Type 0} (xs : List A) (x : A) (r : Read (List A)) → prefixed xs (then r (λ more rest. Ok (x ∷ more, rest))) ≡ prefixed (xs ++ (x ∷ [])) r
prefixed_push {A} xs x (Ok p) = ap (λ (ys : List A). Ok (ys, p.1)) (sym (append_assoc xs (x ∷ []) p.0))
prefixed_push xs x (Err e) = refl

-- nothing left
pub prefixed_all : {A : Type 0} (xs : List A) (rest : List ℕ) → prefixed xs (Ok ([], rest)) ≡ Ok (xs, rest)
prefixed_all {A} xs rest = ap (λ (ys : List A). Ok (ys, rest)) (append-nil xs)

-- the next address is there, or is not
pub addresses_more : (xs : List ℕ) (m k : ℕ) (bs rest : List ℕ) (a : ℕ) → number 8 k bs ≡ Ok (a, rest) → prefixed xs (addresses (suc m) k bs) ≡ prefixed (xs ++ (a ∷ [])) (addresses m (k + 8) rest)
addresses_more xs m k bs rest a e =
    ap (λ (r : Read ℕ). prefixed xs (then r (λ b left. then (addresses m (k + 8) left) (λ more left. Ok (b ∷ more, left))))) e ∙ prefixed_push xs a (addresses m (k + 8) rest)

pub addresses_fault : (xs : List ℕ) (m k : ℕ) (bs : List ℕ) (e : StreamFault) → number 8 k bs ≡ Err e → prefixed xs (addresses (suc m) k bs) ≡ Err e
addresses_fault xs m k bs e f = ap (λ (r : Read ℕ). prefixed xs (then r (λ b left. then (addresses m (k + 8) left) (λ more left. Ok (b ∷ more, left))))) f

-- the next direction is there, or is not
pub directions_more : (xs : List Access) (a : ℕ) (list : List ℕ) (k : ℕ) (bs rest : List ℕ) (d : Direction) → direction_at k bs ≡ Ok (d, rest) →
    prefixed xs (directions (a ∷ list) k bs) ≡ prefixed (xs ++ (record { address = a; direction = d } ∷ [])) (directions list (k + 1) rest)
directions_more xs a list k bs rest d e =
    ap (λ (r : Read Direction). prefixed xs (then r (λ d left. then (directions list (k + 1) left) (λ more left. Ok (record { address = a; direction = d } ∷ more, left))))) e
    ∙ prefixed_push xs (record { address = a; direction = d }) (directions list (k + 1) rest)

pub directions_fault : (xs : List Access) (a : ℕ) (list : List ℕ) (k : ℕ) (bs : List ℕ) (e : StreamFault) → direction_at k bs ≡ Err e → prefixed xs (directions (a ∷ list) k bs) ≡ Err e
directions_fault xs a list k bs e f =
    ap (λ (r : Read Direction). prefixed xs (then r (λ d left. then (directions list (k + 1) left) (λ more left. Ok (record { address = a; direction = d } ∷ more, left))))) f
