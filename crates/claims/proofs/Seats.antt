-- The claims of a seat: none where its task has no access, and none at all without a task. How many claims an address has. Assumes nothing.
use Rattle.std.proofs.Common.{◌≡◌, ℕ, suc, ◌+◌, ◌≤◌, Bool, false, List, [], ◌∷◌, ◌++◌, length, ap, ◌∙◌, arith}
use Rattle.std.proofs.lemmas.Bool.{cond_both}
use Rattle.task.specs.declared.Access.{Access}
use Rattle.host.specs.Meaning.{update}
use Rattle.admission.specs.Admission.{occurs}
use Rattle.roll.specs.Roll.{Entry, Roll}
use Rattle.claims.specs.declared.Claim.{Claim}
use Rattle.claims.specs.Claims.{State, claims, may, settle, less, released}
use Rattle.claims.specs.Queues.{on, queue, Apart, AllApart, map_of, stuck_of, AbsentSeat}
use Rattle.claims.proofs.Queues.{queue-++}
use Rattle.claims.proofs.Counts.{claims-++, claims_queue, on_none}
use Rattle.claims.proofs.Joins.{settle_size, queue_size}
use Rattle.claims.proofs.Leaving.{count_leave}

-- the claims of a seat that wait are among its claims
pub settle_claims : (t n : ℕ) (wr : Bool) (q : List Claim) → claims t (settle n wr q).waiting ≤ claims t q
settle_claims t n wr [] = omega arith
settle_claims t n wr (c ∷ q) =
    cond_both (may n wr c.writes) _ _ (λ (st : State). claims t st.waiting ≤ claims t (c ∷ q)) (λ m. let k = settle_claims t (suc n) c.writes q in
    omega (arith, k)) (λ m. omega arith)

-- so it is at each address of a roll
pub waiting_claims : (t : ℕ) (v : Roll) (a : ℕ) → claims t (map_of v a).waiting ≤ claims t (queue a v)
waiting_claims t v a = settle_claims t 0 false (queue a v)

-- when a holder leaves, no more claims of a seat wait than before
pub released_claims : (t : ℕ) (st : State) → claims t (released st).waiting ≤ claims t st.waiting
released_claims t st = settle_claims t (less st.holders) false st.waiting

-- a seat without a task has no claim that waits
pub absent_waiting : (t : ℕ) (v : Roll) (a : ℕ) → AbsentSeat t v → claims t (map_of v a).waiting ≡ 0
absent_waiting t v a h = let k = waiting_claims t v a in let j = claims_queue t a v h in omega (arith, k, j)

-- nor has one whose task has no access to the address
pub elsewhere_queue : (t : ℕ) (pre post : Roll) (e : Entry) (a : ℕ) → AbsentSeat t pre → AbsentSeat t post → occurs a e.job.accesses ≡ false →
    claims t (queue a (pre ++ (e ∷ post))) ≡ 0
elsewhere_queue t pre post e a before after none =
    let p = claims_queue t a pre before in
    let q = claims_queue t a post after in
    let o : claims t (on a e.job.seat e.job.accesses ++ queue a post) ≡ claims t (queue a post) =
    ap (λ r. claims t (r ++ queue a post)) (on_none a e.job.seat e.job.accesses none) in
    let whole : claims t (queue a (pre ++ (e ∷ post))) ≡ claims t (queue a pre) + claims t (on a e.job.seat e.job.accesses ++ queue a post) =
    ap (claims t) (queue-++ a pre (e ∷ post)) ∙ claims-++ t (queue a pre) (on a e.job.seat e.job.accesses ++ queue a post) in
    omega (arith, p, q, o, whole)

-- so none of its claims waits there
pub elsewhere_waiting : (t : ℕ) (pre post : Roll) (e : Entry) (a : ℕ) → AbsentSeat t pre → AbsentSeat t post → occurs a e.job.accesses ≡ false →
    claims t (map_of (pre ++ (e ∷ post)) a).waiting ≡ 0
elsewhere_waiting t pre post e a before after none =
    let k = waiting_claims t (pre ++ (e ∷ post)) a in
    let j = elsewhere_queue t pre post e a before after none in
    omega (arith, k, j)

-- a count that follows the claims of its seat when a holder leaves an address is in step with the map
pub count_released : (M : ℕ → State) (a t : ℕ) (ys : List Access) (n n' : ℕ) → Apart ys → (occurs a ys ≡ false → claims t (M a).waiting ≡ 0) →
    n' + claims t (M a).waiting ≡ n + claims t (released (M a)).waiting → n ≡ stuck_of M t ys → n' ≡ stuck_of (update M a (released (M a))) t ys
count_released M a t ys n n' apart none moved was =
    count_leave M a (released (M a)) t ys n n' apart (λ h. let z = none h in let k = released_claims t (M a) in (z, omega (arith, z, k))) moved was

-- holders and waiting claims together are the claims on the address
pub size : (v : Roll) (a : ℕ) → (map_of v a).holders + length (map_of v a).waiting ≡ length (queue a v)
size v a = let k = settle_size 0 false (queue a v) in omega (arith, k)

-- at most one for each task
pub size_most : (v : Roll) (a : ℕ) → AllApart v → (map_of v a).holders + length (map_of v a).waiting ≤ length v
size_most v a h = let k = size v a in let q = queue_size a v h in omega (arith, k, q)
