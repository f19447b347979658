-- What a host holds after bring and put, and when it is made, from what its parts hold. Assumes nothing.
use Rattle.std.proofs.Common.{◌≡◌, ℕ, ◌/◌, ◌<◌, Bool, true, false, cond, ◌&&◌, ltb, leb, List, length, get_or, set, take, refl, ap, ◌∙◌, arith}
use mathlib.Core.Path.{fun_ext}
use Rattle.std.proofs.lemmas.List.{get_or-set_same, get_or-set_other, get_or-take}
use Rattle.std.proofs.lemmas.Bool.Decides.{nat_tests}
use Rattle.host.specs.Meaning.{Fixed, Values, update, row, copied, brought, stored, seats, positions}
use Rattle.host.specs.ArrayHost.{held_by, value_by, values_by, all_blank}
use Rattle.host.specs.SeatValues.{within}

-- two values that agree where a test holds, and are blank elsewhere
pub masked_same : {V : Type 0} (b : Bool) (x y blank : V) → (b ≡ true → x ≡ y) → cond b x blank ≡ cond b y blank
masked_same {V} b x y blank =
    elim b as (λ v. (v ≡ true → x ≡ y) → cond v x blank ≡ cond v y blank) [ true ↦ λ same. same refl | false ↦ λ same. refl ]

-- a value that is blank where a test holds, and is blank elsewhere
pub masked_blank : {V : Type 0} (b : Bool) (x blank : V) → (b ≡ true → x ≡ blank) → cond b x blank ≡ blank
masked_blank {V} b x blank = elim b as (λ v. (v ≡ true → x ≡ blank) → cond v x blank ≡ blank) [ true ↦ λ same. same refl | false ↦ λ same. refl ]

-- values whose parts are the same are the same
pub same_values : {V : Type 0} (f g : ℕ → V) (s t : ℕ → ℕ → V) → ((a : ℕ) → f a ≡ g a) → s ≡ t → ◌≡◌ {A = Values V} (record { at = f; aside = s }) (record { at = g; aside = t })
same_values {V} f g s t same e =
    let at_same : f ≡ g = fun_ext same in
    ap (λ (x : ℕ → V). record { at = x; aside = s }) at_same ∙ ap (λ (y : ℕ → ℕ → V). record { at = g; aside = y }) e

-- a write to the place of a held address, where each held address has a place of its own, changes the value at that
-- address and at no other
pub written : {V : Type 0} (held : ℕ → Bool) (place : ℕ → ℕ) (blank : V) (xs : List V) (a : ℕ) (v : V) → held a ≡ true → place a < length xs → ((b : ℕ) → held b ≡ true → place b ≡ place a → b ≡ a) → (b : ℕ) → cond (held b) (get_or (set xs (place a) v) (place b) blank) blank ≡ update (λ (x : ℕ). cond (held x) (get_or xs (place x) blank) blank) a v b
written held place blank xs a v on low apart b = let own = apart b in grind (arith, nat_tests, get_or-set_same, get_or-set_other, own)

-- the values after a bring of v, the value at a held address
pub brought_is : {V : Type 0} (h : Fixed V) (w : Values V) (aside : ℕ → ℕ → V) (address seat position : ℕ) (v : V) → h.held address ≡ true → v ≡ w.at address → aside ≡ cond (within seat position) (update w.aside seat (update (w.aside seat) position v)) w.aside → ◌≡◌ {A = Values V} (record { at = w.at; aside = aside }) (brought h address seat position w)
brought_is {V} h w aside address seat position v held read e =
    let M : (ℕ → ℕ → V) → Values V = λ t. record { at = w.at; aside = t } in
    let set_to : V → Bool → ℕ → ℕ → V = λ x b. cond b (update w.aside seat (update (w.aside seat) position x)) w.aside in
    let ways : (b : Bool) → M (set_to (w.at address) b) ≡ cond b (copied address seat position w) w =
    λ b. elim b as (λ z. M (set_to (w.at address) z) ≡ cond z (copied address seat position w) w) [ true ↦ refl | false ↦ refl ] in
    rw held (ap M (e ∙ ap (λ (x : V). set_to x (within seat position)) read) ∙ ways (within seat position))

-- the values after a put of v, the rule's value, to a held address
pub stored_is : {V : Type 0} (h : Fixed V) (w : Values V) (at : ℕ → V) (kind access n seat address : ℕ) (v : V) → h.held address ≡ true → (ltb seat seats && leb n positions) ≡ true → v ≡ h.rule kind access (row 0 n (w.aside seat)) → ((b : ℕ) → at b ≡ update w.at address v b) → ◌≡◌ {A = Values V} (record { at = at; aside = w.aside }) (stored h kind access n seat address w)
stored_is {V} h w at kind access n seat address v held inside made same =
    rw (held, inside) (same_values _ _ _ _ (λ b. same b ∙ ap (λ (x : V). update w.at address x b) made) refl)

-- where each of the first n values of a list is the blank value, it is at each address
pub values_by-blank : {V : Type 0} (step n : ℕ) (blank : V) (xs : List V) → ((k : ℕ) → k < n → get_or xs k blank ≡ blank) → values_by step blank n xs (λ s p. blank) ≡ all_blank blank
values_by-blank {V} step n blank xs each =
    let place : (a : ℕ) → value_by step blank n xs a ≡ blank =
    λ a. masked_blank (held_by step n a) (get_or xs (a / step) blank) blank (λ on. let low : a / step < n = grind (arith, nat_tests) in each (a / step) low) in
    same_values _ _ _ _ place refl

-- of the first n values of a list each address below n has the list's value
pub values_by-take : {V : Type 0} (step n : ℕ) (blank : V) (xs : List V) (aside : ℕ → ℕ → V) → values_by step blank n (take n xs) aside ≡ values_by step blank n xs aside
values_by-take {V} step n blank xs aside =
    let place : (a : ℕ) → value_by step blank n (take n xs) a ≡ value_by step blank n xs a =
    λ a. masked_same (held_by step n a) (get_or (take n xs) (a / step) blank) (get_or xs (a / step) blank) blank (λ on. let low : a / step < n = grind (arith, nat_tests) in get_or-take n xs (a / step) blank low) in
    same_values _ _ _ _ place refl
