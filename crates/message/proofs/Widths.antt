-- How many bytes the addresses and the directions of a submission have. Assumes nothing.
use Rattle.std.proofs.Common.{◌≡◌, suc, ◌*◌, List, [], ◌∷◌, ◌++◌, length, refl, ap, ◌∙◌, arith, length-append}
use Rattle.task.specs.declared.Access.{Access}
use Rattle.layout.specs.Layout.{address_bytes, direction_bytes}

-- how many bytes the addresses and the directions have
pub length_addresses : (xs : List Access) → length (address_bytes xs) ≡ 8 * length xs
length_addresses [] = refl
length_addresses (x ∷ xs) = let e : length (address_bytes xs) ≡ 8 * length xs = length_addresses xs in omega arith

pub length_directions : (xs : List Access) → length (direction_bytes xs) ≡ length xs
length_directions [] = refl
length_directions (x ∷ xs) = ap suc (length_directions xs)

pub length_lists : (xs : List Access) → length (address_bytes xs ++ direction_bytes xs) ≡ 9 * length xs
length_lists xs = let a : length (address_bytes xs) ≡ 8 * length xs = length_addresses xs in
    let d : length (direction_bytes xs) ≡ length xs = length_directions xs in length-append (address_bytes xs) (direction_bytes xs) ∙ omega arith
