-- A task whose accesses join one by one. Assumes nothing.
use Rattle.std.proofs.Common.{◌≡◌, ℕ, zero, suc, ◌+◌, ◌<◌, ◌≤◌, Bool, false, not, eqb, List, [], ◌∷◌, ◌++◌, length, get_or, take, sym, refl, ap, ◌∙◌, subst, ⊎_elim, append-nil, le_of_suc-le-suc, not-suc-le-zero, arith, length-append}
use mathlib.Core.Path.{fun_ext}
use Rattle.std.proofs.lemmas.Bool.{or_parts, or_from, cond_both, cases_eq, eqb-false, ne_eqb, eq-eqb}
use Rattle.task.specs.declared.Access.{Access}
use Rattle.task.specs.Access.{writes, keep}
use Rattle.host.specs.Meaning.{update}
use Rattle.admission.specs.Admission.{occurs}
use Rattle.roll.specs.Roll.{Roll}
use Rattle.roll.specs.Tables.{tally}
use Rattle.claims.specs.declared.Claim.{Claim}
use Rattle.claims.specs.Claims.{State, against, may, settle, canon, open_to, joined_by}
use Rattle.claims.specs.Queues.{bare, claim, on, queue, Apart, AllApart, map_of, hit_count}
use Rattle.claims.proofs.Settles.{canon_join, canon_open}
use Rattle.claims.proofs.Updates.{update_same, update_other}
use Rattle.claims.proofs.Queues.{queue-++, queue_enter}
use Rattle.claims.proofs.Counts.{on_none}

-- a roll, and a task with these accesses at its end
abbrev pub plus : Roll → ℕ → List Access → Roll
plus v s xs = v ++ (bare s xs ∷ [])

-- the map after one more access is the map changed at its address
pub map_enter : (v : Roll) (s : ℕ) (xs : List Access) (x : Access) →
    update (map_of (plus v s xs)) x.address (joined_by (map_of (plus v s xs) x.address) (claim s x)) ≡ map_of (plus v s (xs ++ (x ∷ [])))
map_enter v s xs x = fun_ext (λ b. ⊎_elim
    (λ (e : b ≡ x.address). update_same (map_of (plus v s xs)) x.address (joined_by (map_of (plus v s xs) x.address) (claim s x)) b e
    ∙ sym (canon_join (queue x.address (plus v s xs)) (claim s x))
    ∙ ap canon (sym (queue_enter x.address v s xs x
    ∙ ap (λ t. queue x.address (plus v s xs) ++ keep t (claim s x) []) (eq-eqb x.address x.address refl)))
    ∙ ap (map_of (plus v s (xs ++ (x ∷ [])))) (sym e))
    (λ ne. update_other (map_of (plus v s xs)) x.address (joined_by (map_of (plus v s xs) x.address) (claim s x)) b ne
    ∙ ap canon (sym (queue_enter b v s xs x ∙ ap (λ t. queue b (plus v s xs) ++ keep t (claim s x) []) (ne_eqb x.address b (λ e. ne (sym e)))
    ∙ append-nil (queue b (plus v s xs)))))
    (cases_eq b x.address))

-- an address that does not occur in the task has the claims of the roll
pub queue_own : (v : Roll) (s a : ℕ) (xs : List Access) → occurs a xs ≡ false → queue a (plus v s xs) ≡ queue a v
queue_own v s a xs h = queue-++ a v (bare s xs ∷ []) ∙ ap (λ q. queue a v ++ (q ++ [])) (on_none a s xs h) ∙ append-nil (queue a v)

-- the answer for one access
pub holds_at_once : (v : Roll) (s : ℕ) (xs : List Access) (x : Access) → occurs x.address xs ≡ false →
    open_to (map_of (plus v s xs) x.address) (writes x) ≡ not (against (writes x) (queue x.address v))
holds_at_once v s xs x h = canon_open (queue x.address (plus v s xs)) (writes x) ∙ ap (λ q. not (against (writes x) q)) (queue_own v s x.address xs h)

-- one more access
pub hit_count_more : (v : Roll) (xs : List Access) (x : Access) →
    hit_count v (xs ++ (x ∷ [])) ≡ hit_count v xs + tally (against (writes x) (queue x.address v))
hit_count_more v [] x = omega arith
hit_count_more v (y ∷ xs) x = let k = hit_count_more v xs x in omega (arith, k)

-- an address that does not occur does not occur among the first accesses
pub occurs_take : (xs : List Access) (i a : ℕ) → occurs a xs ≡ false → occurs a (take i xs) ≡ false
occurs_take [] zero a h = refl
occurs_take [] (suc i) a h = refl
occurs_take (x ∷ xs) zero a h = refl
occurs_take (x ∷ xs) (suc i) a h = let f = or_parts (eqb x.address a) (occurs a xs) h in
    or_from (eqb x.address a) (occurs a (take i xs)) f.0 (occurs_take xs i a f.1)

-- an address that does not occur is the address of no access
pub occurs_at : (xs : List Access) (i : ℕ) (d : Access) (a : ℕ) → i < length xs → occurs a xs ≡ false → ((get_or xs i d).address ≡ a → ⊥)
occurs_at [] i d a lt h e = not-suc-le-zero lt
occurs_at (x ∷ xs) zero d a lt h e = eqb-false x.address a (or_parts (eqb x.address a) (occurs a xs) h).0 e
occurs_at (x ∷ xs) (suc i) d a lt h e = occurs_at xs i d a (le_of_suc-le-suc lt) (or_parts (eqb x.address a) (occurs a xs) h).1 e

-- no earlier access of a task has the address of a later one
pub apart_take : (xs : List Access) (i : ℕ) (d : Access) → i < length xs → Apart xs → occurs (get_or xs i d).address (take i xs) ≡ false
apart_take [] i d lt h = absurd (not-suc-le-zero lt)
apart_take (x ∷ xs) zero d lt h = refl
apart_take (x ∷ xs) (suc i) d lt h = or_from (eqb x.address (get_or xs i d).address) (occurs (get_or xs i d).address (take i xs))
    (ne_eqb x.address (get_or xs i d).address (λ e. occurs_at xs i d x.address (le_of_suc-le-suc lt) h.0 (sym e)))
    (apart_take xs i d (le_of_suc-le-suc lt) h.1)

-- how many claims a queue has
pub settle_size : (n : ℕ) (wr : Bool) (q : List Claim) → (settle n wr q).holders + length (settle n wr q).waiting ≡ n + length q
settle_size n wr [] = refl
settle_size n wr (c ∷ q) = cond_both (may n wr c.writes) _ _ (λ (st : State). st.holders + length st.waiting ≡ n + length (c ∷ q)) (λ m. let k =
    settle_size (suc n) c.writes q in omega (arith, k)) (λ m. refl)

-- a task whose addresses are apart makes at most one claim on an address
pub on_one : (a s : ℕ) (xs : List Access) → Apart xs → length (on a s xs) ≤ 1
on_one a s [] h = omega arith
on_one a s (x ∷ xs) h = ⊎_elim
    (λ (e : x.address ≡ a). let none : on a s xs ≡ [] = on_none a s xs (subst (λ (b : ℕ). occurs b xs ≡ false) e h.0) in
    let z : length (on a s (x ∷ xs)) ≡ 1 = ap (λ b. length (keep b (claim s x) (on a s xs))) (eq-eqb x.address a e) ∙ ap (λ q. suc (length q)) none in
    omega (arith, z))
    (λ ne. let z : length (on a s (x ∷ xs)) ≡ length (on a s xs) = ap (λ b. length (keep b (claim s x) (on a s xs))) (ne_eqb x.address a ne) in
    let k = on_one a s xs h.1 in omega (arith, z, k))
    (cases_eq x.address a)

-- an address has at most one claim for each task
pub queue_size : (a : ℕ) (v : Roll) → AllApart v → length (queue a v) ≤ length v
queue_size a [] h = omega arith
queue_size a (t ∷ v) h = let p = on_one a t.job.seat t.job.accesses h.0 in let q = queue_size a v h.1 in
    let e = length-append (on a t.job.seat t.job.accesses) (queue a v) in omega (arith, p, q, e)

-- the address of the next access has at most as many claims as there are tasks before
pub size_at : (v : Roll) (s : ℕ) (xs : List Access) (a : ℕ) → AllApart v → occurs a xs ≡ false →
    (map_of (plus v s xs) a).holders + length (map_of (plus v s xs) a).waiting ≤ length v
size_at v s xs a h n =
    let k = settle_size 0 false (queue a (plus v s xs)) in
    let e : length (queue a (plus v s xs)) ≡ length (queue a v) = ap length (queue_own v s a xs n) in
    let q = queue_size a v h in
    omega (arith, k, e, q)
