-- The steps of two tasks that do not conflict are apart. Assumes nothing.
use Rattle.std.proofs.Common.{◌≡◌, ℕ, Bool, true, false, ◌&&◌, ◌||◌, eqb, List, [], ◌∷◌, refl, subst, ap₂, ⊎_elim}
use Rattle.std.proofs.lemmas.Bool.{eqb-true, and_cases, and_parts, or_parts, or_cases, or_left, or_right, both_ways}
use Rattle.task.specs.declared.Access.{Access}
use Rattle.task.specs.Access.{reads, writes, conflicting, some_access, conflict}
use Rattle.order.specs.Steps.{Step, bring, put}
use Rattle.order.proofs.Commute.{Apart}

-- does an access to the address pass the test?
abbrev pub has : (Access → Bool) → List Access → ℕ → Bool
has p xs a = some_access (λ x. eqb x.address a && p x) xs

-- a step at an address that one of these accesses reads, if it is a bring, or writes, if it is a put
abbrev pub Of : List Access → Step → Type 0
Of xs (bring x p) = has reads xs x.address ≡ true
Of xs (put x) = has writes xs x.address ≡ true

-- where no access passes one test and some access passes another, an access fails the first and passes the second
found : (p q : Access → Bool) (xs : List Access) → some_access p xs ≡ false → some_access q xs ≡ true → (x : Access) × (p x ≡ false) × (q x ≡ true)
found p q [] never some = absurd (both_ways false refl some)
found p q (x ∷ xs) never some =
    let f : (p x ≡ false) × (some_access p xs ≡ false) = or_parts (p x) (some_access p xs) never in
    ⊎_elim (λ here. (x, f.0, here)) (λ later. found p q xs f.1 later) (or_cases (q x) (some_access q xs) some)

-- accesses of which one writes, to one address each, that do not conflict: the addresses differ
different : (x y : Access) → conflicting x y ≡ false → (writes x || writes y) ≡ true → (a b : ℕ) → eqb x.address a ≡ true → eqb y.address b ≡ true → eqb a b ≡ false
different x y free w a b at_a at_b =
    subst (λ (z : Bool). z ≡ false) (ap₂ eqb (eqb-true x.address a at_a) (eqb-true y.address b at_b))
    (⊎_elim (λ ne. ne) (λ no. absurd (both_ways (writes x || writes y) no w)) (and_cases (eqb x.address y.address) (writes x || writes y) free))

-- the same of two tasks that do not conflict
far : (p q : Access → Bool) → ((x y : Access) → p x ≡ true → q y ≡ true → (writes x || writes y) ≡ true) → (xs ys : List Access) → conflict xs ys ≡ false →
    (a b : ℕ) → has p xs a ≡ true → has q ys b ≡ true → eqb a b ≡ false
far p q one_writes xs ys free a b in-xs in_ys =
    let f = found (λ x. some_access (conflicting x) ys) (λ x. eqb x.address a && p x) xs free in-xs in
    let x : Access = f.0 in
    let g = found (conflicting x) (λ y. eqb y.address b && q y) ys f.1 in_ys in
    let y : Access = g.0 in
    let at_a : (eqb x.address a ≡ true) × (p x ≡ true) = and_parts (eqb x.address a) (p x) f.2 in
    let at_b : (eqb y.address b ≡ true) × (q y ≡ true) = and_parts (eqb y.address b) (q y) g.2 in
    different x y g.1 (one_writes x y at_a.1 at_b.1) a b at_a.0 at_b.0

-- and of their steps
pub steps_apart : (xs ys : List Access) → conflict xs ys ≡ false → (σ τ : Step) → Of xs σ → Of ys τ → Apart σ τ
steps_apart xs ys free (bring x p) (bring y q) own_x own-y = tt
steps_apart xs ys free (bring x p) (put y) own_x own-y =
    far reads writes (λ v w r s. or_right (writes v) (writes w) s) xs ys free x.address y.address own_x own-y
steps_apart xs ys free (put x) (bring y q) own_x own-y =
    far writes reads (λ v w r s. or_left (writes v) (writes w) r) xs ys free x.address y.address own_x own-y
steps_apart xs ys free (put x) (put y) own_x own-y =
    far writes writes (λ v w r s. or_left (writes v) (writes w) r) xs ys free x.address y.address own_x own-y
