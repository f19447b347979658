-- How many accesses of a task wait, by the map of addresses: none exactly if no earlier task blocks it. Assumes nothing.
use Rattle.std.proofs.Common.{◌≡◌, ℕ, suc, ◌+◌, Bool, true, false, not, ◌&&◌, ◌||◌, eqb, List, [], ◌∷◌, ◌++◌, sym, refl, ap, ◌∙◌, subst, ⊎_elim, zero-add, arith}
use mathlib.Core.Path.{fun_ext}
use mathlib.Core.Bool.{or-false}
use Rattle.std.proofs.lemmas.Bool.{both_ways, or_parts, cases_eq, eqb-true, eqb-false, ne_eqb, eq-eqb}
use Rattle.task.specs.declared.Access.{Access}
use Rattle.task.specs.Access.{writes, keep}
use Rattle.host.specs.Meaning.{update}
use Rattle.admission.specs.Admission.{occurs}
use Rattle.order.proofs.Update.{eqb_flip}
use Rattle.roll.specs.Roll.{Entry, Roll, blocked}
use Rattle.roll.specs.Tables.{tally}
use Rattle.claims.specs.declared.Claim.{Claim}
use Rattle.claims.specs.Claims.{State, against, stuck, claims, canon}
use Rattle.claims.specs.Queues.{bare, claim, on, queue, Apart, map_of, hit_count, stuck_of, AbsentSeat}
use Rattle.claims.specs.Decided.{ClaimsDecide}
use Rattle.claims.proofs.Settles.{canon_waits}
use Rattle.claims.proofs.Updates.{update_same, update_other}
use Rattle.claims.proofs.Queues.{queue-++, hits, blocked_hits}

-- the claims of a seat in two lists, one after the other
pub claims-++ : (t : ℕ) (p q : List Claim) → claims t (p ++ q) ≡ claims t p + claims t q
claims-++ t [] q = sym (zero-add (claims t q))
claims-++ t (c ∷ p) q = let h = claims-++ t p q in omega arith

-- a claim of another seat adds none
claims_keep : (t : ℕ) (b : Bool) (c : Claim) (q : List Claim) → eqb c.seat t ≡ false → claims t q ≡ 0 → claims t (keep b c q) ≡ 0
claims_keep t true c q e h = let g : tally (eqb c.seat t) ≡ 0 = ap tally e in omega (arith, g, h)
claims_keep t false c q e h = h

-- another seat's task makes no claim of the seat
pub claims_on : (t a s : ℕ) (xs : List Access) → eqb s t ≡ false → claims t (on a s xs) ≡ 0
claims_on t a s [] e = refl
claims_on t a s (x ∷ xs) e = claims_keep t (eqb x.address a) (claim s x) (on a s xs) e (claims_on t a s xs e)

-- without a task of the seat, no claim on any address is its
pub claims_queue : (t a : ℕ) (v : Roll) → AbsentSeat t v → claims t (queue a v) ≡ 0
claims_queue t a [] h = refl
claims_queue t a (e ∷ es) h = claims-++ t (on a e.job.seat e.job.accesses) (queue a es)
    ∙ (let p = claims_on t a e.job.seat e.job.accesses h.0 in let q = claims_queue t a es h.1 in omega (arith, p, q))

-- claims put before the earlier ones, the latest first
abbrev onto : List Claim → List Claim → List Claim
onto [] e = e
onto (c ∷ p) e = onto p (c ∷ e)

-- the order of the earlier claims does not matter
against_onto : (w : Bool) (p e : List Claim) → against w (onto p e) ≡ (against w p || against w e)
against_onto w [] e = refl
against_onto w (c ∷ p) e = against_onto w p (c ∷ e) ∙ turn (against w p) (w || c.writes) (against w e)
  where
    turn : (a b d : Bool) → (a || (b || d)) ≡ ((b || a) || d)
    turn true true d = refl
    turn true false d = refl
    turn false true d = refl
    turn false false d = refl

-- a test that counts 0 fails
tally_zero : (b : Bool) → tally b ≡ 0 → b ≡ false
tally_zero true h = absurd (omega (arith, h))
tally_zero false h = refl

-- where no claim is the seat's, the first is not, nor any of the others
first_none : (t : ℕ) (c : Claim) (p : List Claim) → claims t (c ∷ p) ≡ 0 → (eqb c.seat t ≡ false) × (claims t p ≡ 0)
first_none t c p h = (tally_zero (eqb c.seat t) (omega (arith, h)), omega (arith, h))

-- a claim of another seat is none of the seat's that conflict
stuck_first : (e : List Claim) (t : ℕ) (c : Claim) (q : List Claim) → eqb c.seat t ≡ false → stuck e t (c ∷ q) ≡ stuck (c ∷ e) t q
stuck_first e t c q h = ap (λ b. tally (b && against c.writes e) + stuck (c ∷ e) t q) h ∙ zero-add (stuck (c ∷ e) t q)

-- nor are claims before that are not the seat's
stuck_skip : (e : List Claim) (t : ℕ) (p q : List Claim) → claims t p ≡ 0 → stuck e t (p ++ q) ≡ stuck (onto p e) t q
stuck_skip e t [] q h = refl
stuck_skip e t (c ∷ p) q h = let f = first_none t c p h in stuck_first e t c (p ++ q) f.0 ∙ stuck_skip (c ∷ e) t p q f.1

-- a seat without claims has none that conflict
stuck_none : (e : List Claim) (t : ℕ) (q : List Claim) → claims t q ≡ 0 → stuck e t q ≡ 0
stuck_none e t [] h = refl
stuck_none e t (c ∷ q) h = let f = first_none t c q h in stuck_first e t c q f.0 ∙ stuck_none (c ∷ e) t q f.1

-- a task makes no claim on an address that does not occur in it
pub on_none : (a s : ℕ) (xs : List Access) → occurs a xs ≡ false → on a s xs ≡ []
on_none a s [] h = refl
on_none a s (x ∷ xs) h = let f = or_parts (eqb x.address a) (occurs a xs) h in ap (λ b. keep b (claim s x) (on a s xs)) f.0 ∙ on_none a s xs f.1

-- each access of vs is the only one of xs on its address
abbrev Singles : ℕ → List Access → List Access → Type 0
Singles t xs [] = Unit {0}
Singles t xs (x ∷ vs) = (on x.address t xs ≡ claim t x ∷ []) × Singles t xs vs

-- one more access, to another address
singles_more : (t : ℕ) (y : Access) (xs vs : List Access) → occurs y.address vs ≡ false → Singles t xs vs → Singles t (y ∷ xs) vs
singles_more t y xs [] h s = tt
singles_more t y xs (x ∷ vs) h s =
    let f = or_parts (eqb x.address y.address) (occurs y.address vs) h in
    (ap (λ b. keep b (claim t y) (on x.address t xs)) (eqb_flip x.address y.address f.0) ∙ s.0, singles_more t y xs vs f.1 s.1)

-- so it is with a task whose addresses are apart
pub singles : (t : ℕ) (xs : List Access) → Apart xs → Singles t xs xs
singles t [] h = tt
singles t (y ∷ ys) h = (
  ap (λ b. keep b (claim t y) (on y.address t ys)) (eq-eqb y.address y.address refl)
      ∙ ap (λ q. claim t y ∷ q) (on_none y.address t ys h.0),
  singles_more t y ys ys h.0 (singles t ys h.1),
)

-- one access of a task: blocked if it conflicts with the queue before it
stuck_one : (pre post : Roll) (t : ℕ) (xs : List Access) (x : Access) → AbsentSeat t pre → AbsentSeat t post → on x.address t xs ≡ claim t x ∷ [] →
    claims t (canon (queue x.address (pre ++ (bare t xs ∷ post)))).waiting ≡ tally (against (writes x) (queue x.address pre))
stuck_one pre post t xs x np nq one =
    let a = x.address in
    let whole : queue a (pre ++ (bare t xs ∷ post)) ≡ queue a pre ++ (claim t x ∷ queue a post) = queue-++ a pre (bare t xs ∷ post)
    ∙ ap (λ q. queue a pre ++ (q ++ queue a post)) one in
    canon_waits t (queue a (pre ++ (bare t xs ∷ post)))
    ∙ ap (stuck [] t) whole
    ∙ stuck_skip [] t (queue a pre) (claim t x ∷ queue a post) (claims_queue t a pre np)
    ∙ ap (λ n. tally (eqb t t && against (writes x) (onto (queue a pre) [])) + n) (stuck_none (claim t x ∷ onto (queue a pre) []) t (queue a post) (claims_queue t a post nq))
    ∙ (let z : tally (eqb t t && against (writes x) (onto (queue a pre) [])) ≡ tally (against (writes x) (queue a pre)) =
    ap (λ b. tally (b && against (writes x) (onto (queue a pre) []))) (eq-eqb t t refl)
    ∙ ap tally (against_onto (writes x) (queue a pre) [] ∙ or-false (against (writes x) (queue a pre))) in omega (arith, z))

-- and so of some of its accesses
stuck_some : (pre post : Roll) (t : ℕ) (xs vs : List Access) → AbsentSeat t pre → AbsentSeat t post → Singles t xs vs →
    stuck_of (map_of (pre ++ (bare t xs ∷ post))) t vs ≡ hit_count pre vs
stuck_some pre post t xs [] np nq s = refl
stuck_some pre post t xs (x ∷ vs) np nq s = let h = stuck_one pre post t xs x np nq s.0 in let k = stuck_some pre post t xs vs np nq s.1 in
    omega (arith, h, k)

-- the accesses of a task that wait are those that conflict with an earlier task
pub stuck_hits : (pre post : Roll) (t : ℕ) (xs : List Access) → AbsentSeat t pre → AbsentSeat t post → Apart xs →
    stuck_of (map_of (pre ++ (bare t xs ∷ post))) t xs ≡ hit_count pre xs
stuck_hits pre post t xs np nq h = stuck_some pre post t xs xs np nq (singles t xs h)

-- a sum of a test and a number is 0 exactly if the test fails and the number is 0
count_zero : (b c : Bool) (n : ℕ) → eqb n 0 ≡ not c → eqb (tally b + n) 0 ≡ not (b || c)
count_zero true c n h = ne_eqb (1 + n) 0 (λ e. omega (arith, e))
count_zero false c n h = ap (λ m. eqb m 0) (zero-add n) ∙ h

-- no access conflicts exactly if the count is 0
pub hit_zero : (v : Roll) (xs : List Access) → eqb (hit_count v xs) 0 ≡ not (hits v xs)
hit_zero v [] = refl
hit_zero v (x ∷ xs) = count_zero (against (writes x) (queue x.address v)) (hits v xs) (hit_count v xs) (hit_zero v xs)

-- nothing of a task waits exactly if no earlier task blocks it
pub none_stuck : (pre post : Roll) (t : ℕ) (xs : List Access) → AbsentSeat t pre → AbsentSeat t post → Apart xs →
    eqb (stuck_of (map_of (pre ++ (bare t xs ∷ post))) t xs) 0 ≡ not (blocked pre xs)
none_stuck pre post t xs np nq h = ap (λ n. eqb n 0) (stuck_hits pre post t xs np nq h) ∙ hit_zero pre xs ∙ ap not (sym (blocked_hits pre xs))

-- a change of one address that leaves as many claims of the seat waiting
pub stuck_same : (M : ℕ → State) (a : ℕ) (st : State) (t : ℕ) (xs : List Access) → claims t st.waiting ≡ claims t (M a).waiting →
    stuck_of (update M a st) t xs ≡ stuck_of M t xs
stuck_same M a st t [] h = refl
stuck_same M a st t (x ∷ xs) h =
    let k = stuck_same M a st t xs h in
    let one : claims t (update M a st x.address).waiting ≡ claims t (M x.address).waiting = ⊎_elim
    (λ (e : x.address ≡ a). ap (λ (s : State). claims t s.waiting) (update_same M a st x.address e) ∙ h ∙ ap (λ b. claims t (M b).waiting) (sym e))
    (λ ne. ap (λ (s : State). claims t s.waiting) (update_other M a st x.address ne))
    (cases_eq x.address a) in
    omega (arith, k, one)

-- and one that leaves one claim fewer waiting, at an address that the task touches once
pub stuck_fewer : (M : ℕ → State) (a : ℕ) (st : State) (t : ℕ) (xs : List Access) → claims t (M a).waiting ≡ suc (claims t st.waiting) →
    occurs a xs ≡ true → Apart xs → stuck_of M t xs ≡ suc (stuck_of (update M a st) t xs)
stuck_fewer M a st t [] h u d = absurd (both_ways false refl u)
stuck_fewer M a st t (x ∷ xs) h u d = ⊎_elim
    (λ (e : x.address ≡ a).
    let away : occurs a xs ≡ false = subst (λ (b : ℕ). occurs b xs ≡ false) e d.0 in
    let rest = stuck_off M a st t xs away in
    let one : claims t (update M a st x.address).waiting ≡ claims t st.waiting =
    ap (λ (s : State). claims t s.waiting) (update_same M a st x.address e) in
    let was : claims t (M x.address).waiting ≡ suc (claims t st.waiting) = ap (λ b. claims t (M b).waiting) e ∙ h in
    omega (arith, rest, one, was))
    (λ ne.
    let more : occurs a xs ≡ true = ap (λ b. b || occurs a xs) (sym (ne_eqb x.address a ne)) ∙ u in
    let k = stuck_fewer M a st t xs h more d.1 in
    let one : claims t (update M a st x.address).waiting ≡ claims t (M x.address).waiting =
    ap (λ (s : State). claims t s.waiting) (update_other M a st x.address ne) in
    omega (arith, k, one))
    (cases_eq x.address a)
  where
    stuck_off : (M : ℕ → State) (a : ℕ) (st : State) (t : ℕ) (xs : List Access) → occurs a xs ≡ false → stuck_of (update M a st) t xs ≡ stuck_of M t xs
    stuck_off M a st t [] h = refl
    stuck_off M a st t (x ∷ xs) h =
        let f = or_parts (eqb x.address a) (occurs a xs) h in
        let k = stuck_off M a st t xs f.1 in
        let one : claims t (update M a st x.address).waiting ≡ claims t (M x.address).waiting =
        ap (λ (s : State). claims t s.waiting) (update_other M a st x.address (eqb-false x.address a f.0)) in
        omega (arith, k, one)

-- an entry of which only the seat and the accesses count
queue_bare : (a : ℕ) (pre post : Roll) (e : Entry) → queue a (pre ++ (e ∷ post)) ≡ queue a (pre ++ (bare e.job.seat e.job.accesses ∷ post))
queue_bare a [] post e = refl
queue_bare a (d ∷ pre) post e = ap (λ q. on a d.job.seat d.job.accesses ++ q) (queue_bare a pre post e)

-- a number that is 0 by its test, and a test that says so
zero_or : (n : ℕ) (b : Bool) → eqb n 0 ≡ not b → (n ≡ 0 → b ≡ false) × (b ≡ false → n ≡ 0)
zero_or n true h = ((λ e. absurd (eqb-false n 0 h e)), λ e. absurd (both_ways true e refl))
zero_or n false h = ((λ e. refl), λ e. eqb-true n 0 h)

-- none of a task's claims waits exactly if no earlier task blocks it
pub claims_decide : ClaimsDecide
claims_decide pre post e apart before after =
    let s = e.job.seat in
    let xs = e.job.accesses in
    zero_or (stuck_of (map_of (pre ++ (e ∷ post))) s xs) (blocked pre xs)
    (ap (λ (M : ℕ → State). eqb (stuck_of M s xs) 0) (fun_ext (λ a. ap canon (queue_bare a pre post e))) ∙ none_stuck pre post s xs before after apart)
