-- One access of an unblocked task leaves the view: the map, and the counts of the other tasks. Assumes nothing.
use Rattle.std.proofs.Common.{◌≡◌, ℕ, ◌+◌, true, false, ◌||◌, eqb, List, [], ◌∷◌, ◌++◌, sym, refl, ap, ◌∙◌, subst, ⊎_elim, arith}
use mathlib.Core.Path.{fun_ext}
use Rattle.std.proofs.lemmas.Bool.{both_ways, or_parts, cases_Bool, cases_eq, eqb-false, ne_eqb}
use Rattle.task.specs.declared.Access.{Access}
use Rattle.host.specs.Meaning.{update}
use Rattle.admission.specs.Admission.{occurs}
use Rattle.roll.specs.Roll.{Roll}
use Rattle.claims.specs.Claims.{State, claims, canon, released}
use Rattle.claims.specs.Queues.{bare, Apart, map_of, stuck_of}
use Rattle.claims.proofs.Updates.{update_same, update_other}
use Rattle.claims.proofs.Queues.{hits, leave_here, leave_other}

-- a roll with a task of these accesses in the middle
abbrev pub with : Roll → ℕ → List Access → Roll → Roll
with pre s xs post = pre ++ (bare s xs ∷ post)

-- the map after the access has left is the map changed at its address
pub map_leave : (pre post : Roll) (s : ℕ) (x : Access) (xs : List Access) → hits pre (x ∷ xs) ≡ false →
    update (map_of (with pre s (x ∷ xs) post)) x.address (released (map_of (with pre s (x ∷ xs) post) x.address)) ≡ map_of (with pre s xs post)
map_leave pre post s x xs free = fun_ext (λ b. ⊎_elim
    (λ (e : b ≡ x.address). update_same (map_of (with pre s (x ∷ xs) post)) x.address (released (map_of (with pre s (x ∷ xs) post) x.address)) b e
    ∙ leave_here pre post s x xs free ∙ ap (map_of (with pre s xs post)) (sym e))
    (λ ne. update_other (map_of (with pre s (x ∷ xs) post)) x.address (released (map_of (with pre s (x ∷ xs) post) x.address)) b ne
    ∙ ap canon (leave_other b pre post s x xs (λ e. ne (sym e))))
    (cases_eq b x.address))

-- the count of a task under a change of one address
shift_off : (M : ℕ → State) (a : ℕ) (st : State) (t : ℕ) (ys : List Access) → occurs a ys ≡ false → stuck_of (update M a st) t ys ≡ stuck_of M t ys
shift_off M a st t [] h = refl
shift_off M a st t (y ∷ ys) h =
    let f = or_parts (eqb y.address a) (occurs a ys) h in
    let k = shift_off M a st t ys f.1 in
    let one : claims t (update M a st y.address).waiting ≡ claims t (M y.address).waiting =
    ap (λ (s : State). claims t s.waiting) (update_other M a st y.address (eqb-false y.address a f.0)) in
    omega (arith, k, one)

-- the count of a task that has an access to the changed address
shift_on : (M : ℕ → State) (a : ℕ) (st : State) (t : ℕ) (ys : List Access) → occurs a ys ≡ true → Apart ys →
    stuck_of (update M a st) t ys + claims t (M a).waiting ≡ stuck_of M t ys + claims t st.waiting
shift_on M a st t [] h d = absurd (both_ways false refl h)
shift_on M a st t (y ∷ ys) h d = ⊎_elim
    (λ (e : y.address ≡ a).
    let rest = shift_off M a st t ys (subst (λ (b : ℕ). occurs b ys ≡ false) e d.0) in
    let one : claims t (update M a st y.address).waiting ≡ claims t st.waiting =
    ap (λ (s : State). claims t s.waiting) (update_same M a st y.address e) in
    let was : claims t (M y.address).waiting ≡ claims t (M a).waiting = ap (λ b. claims t (M b).waiting) e in
    omega (arith, rest, one, was))
    (λ ne.
    let more : occurs a ys ≡ true = ap (λ b. b || occurs a ys) (sym (ne_eqb y.address a ne)) ∙ h in
    let k = shift_on M a st t ys more d.1 in
    let one : claims t (update M a st y.address).waiting ≡ claims t (M y.address).waiting =
    ap (λ (s : State). claims t s.waiting) (update_other M a st y.address ne) in
    omega (arith, k, one))
    (cases_eq y.address a)

-- what `depart` says of a seat's count keeps the count in step with the map
pub count_leave : (M : ℕ → State) (a : ℕ) (st : State) (t : ℕ) (ys : List Access) (n n' : ℕ) → Apart ys →
    (occurs a ys ≡ false → (claims t (M a).waiting ≡ 0) × (claims t st.waiting ≡ 0)) →
    n' + claims t (M a).waiting ≡ n + claims t st.waiting → n ≡ stuck_of M t ys → n' ≡ stuck_of (update M a st) t ys
count_leave M a st t ys n n' d none moved was = ⊎_elim
    (λ (h : occurs a ys ≡ true). let k = shift_on M a st t ys h d in omega (arith, k, moved, was))
    (λ (h : occurs a ys ≡ false). let k = shift_off M a st t ys h in let z = none h in let p = z.0 in let q = z.1 in omega (arith, k, moved, was, p, q))
    (cases_Bool (occurs a ys))
