-- Blocked tasks by the queues of their addresses, and what a queue is after a task joins or an access leaves. Assumes nothing.
use Rattle.std.proofs.Common.{◌≡◌, ℕ, Bool, true, false, ◌&&◌, ◌||◌, eqb, List, [], ◌∷◌, ◌++◌, sym, refl, ap, ◌∙◌, append_assoc, append-nil}
use mathlib.Core.Bool.{or_assoc, or_comm}
use Rattle.std.proofs.lemmas.Bool.{or_parts, ne_eqb, eq-eqb}
use Rattle.task.specs.declared.Access.{Access}
use Rattle.task.specs.Access.{writes, conflicting, some_access, conflict, keep}
use Rattle.roll.specs.Roll.{Entry, Roll, blocked}
use Rattle.claims.specs.declared.Claim.{Claim}
use Rattle.claims.specs.Claims.{against, canon, released}
use Rattle.claims.specs.Queues.{bare, claim, on, queue}
use Rattle.claims.proofs.Settles.{canon_leave}

-- four tests in another order
or_mix : (a b c d : Bool) → ((a || b) || (c || d)) ≡ ((a || c) || (b || d))
or_mix true b c d = refl
or_mix false true true d = refl
or_mix false true false d = refl
or_mix false false true d = refl
or_mix false false false d = refl

-- a conflict with two lists, one after the other
pub against-++ : (w : Bool) (p q : List Claim) → against w (p ++ q) ≡ (against w p || against w q)
against-++ w [] q = refl
against-++ w (c ∷ p) q = ap (λ v. (w || c.writes) || v) (against-++ w p q) ∙ sym (or_assoc (w || c.writes) (against w p) (against w q))

-- a conflict with a claim that is there if a test holds
against_keep : (w b : Bool) (c : Claim) (q : List Claim) → against w (keep b c q) ≡ ((b && (w || c.writes)) || against w q)
against_keep w true c q = refl
against_keep w false c q = refl

-- do these accesses conflict with the queues of their addresses?
abbrev pub hits : Roll → List Access → Bool
hits v [] = false
hits v (y ∷ ys) = against (writes y) (queue y.address v) || hits v ys

-- no task conflicts with one that has no access
conflict_none : (xs : List Access) → conflict xs [] ≡ false
conflict_none [] = refl
conflict_none (x ∷ xs) = conflict_none xs

-- a conflict with one more access is one with the claims on its address
conflict_more : (s : ℕ) (xs : List Access) (y : Access) (ys : List Access) →
    conflict xs (y ∷ ys) ≡ (against (writes y) (on y.address s xs) || conflict xs ys)
conflict_more s [] y ys = refl
conflict_more s (x ∷ xs) y ys =
    ap (λ v. (conflicting x y || some_access (conflicting x) ys) || v) (conflict_more s xs y ys)
    ∙ or_mix (conflicting x y) (some_access (conflicting x) ys) (against (writes y) (on y.address s xs)) (conflict xs ys)
    ∙ ap (λ v. (v || against (writes y) (on y.address s xs)) || (some_access (conflicting x) ys || conflict xs ys)) (ap (λ v. eqb x.address y.address && v) (or_comm (writes x) (writes y)))
    ∙ ap (λ v. v || (some_access (conflicting x) ys || conflict xs ys)) (sym (against_keep (writes y) (eqb x.address y.address) (claim s x) (on y.address s xs)))

-- an empty roll has no conflict
hits_none : (ys : List Access) → hits [] ys ≡ false
hits_none [] = refl
hits_none (y ∷ ys) = hits_none ys

-- one more task in the roll
hits_more : (d : Entry) (ds : Roll) (ys : List Access) → (conflict d.job.accesses ys || hits ds ys) ≡ hits (d ∷ ds) ys
hits_more d ds [] = ap (λ v. v || false) (conflict_none d.job.accesses)
hits_more d ds (y ∷ ys) =
    ap (λ v. v || (against (writes y) (queue y.address ds) || hits ds ys)) (conflict_more d.job.seat d.job.accesses y ys)
    ∙ or_mix (against (writes y) (on y.address d.job.seat d.job.accesses)) (conflict d.job.accesses ys) (against (writes y) (queue y.address ds)) (hits ds ys)
    ∙ ap (λ v. v || (conflict d.job.accesses ys || hits ds ys)) (sym (against-++ (writes y) (on y.address d.job.seat d.job.accesses) (queue y.address ds)))
    ∙ ap (λ v. against (writes y) (queue y.address (d ∷ ds)) || v) (hits_more d ds ys)

-- a task is blocked exactly if one of its accesses conflicts with the queue of its address
pub blocked_hits : (v : Roll) (ys : List Access) → blocked v ys ≡ hits v ys
blocked_hits [] ys = sym (hits_none ys)
blocked_hits (d ∷ ds) ys = ap (λ b. conflict d.job.accesses ys || b) (blocked_hits ds ys) ∙ hits_more d ds ys

-- the claims of two rolls, one after the other
pub queue-++ : (a : ℕ) (v u : Roll) → queue a (v ++ u) ≡ queue a v ++ queue a u
queue-++ a [] u = refl
queue-++ a (e ∷ v) u = ap (λ q. on a e.job.seat e.job.accesses ++ q) (queue-++ a v u)
    ∙ sym (append_assoc (on a e.job.seat e.job.accesses) (queue a v) (queue a u))

-- a claim that is there if a test holds, before two lists
keep-++ : (b : Bool) (c : Claim) (p q : List Claim) → keep b c p ++ q ≡ keep b c (p ++ q)
keep-++ true c p q = refl
keep-++ false c p q = refl

-- the claims of the accesses of two lists
pub on-++ : (a s : ℕ) (xs ys : List Access) → on a s (xs ++ ys) ≡ on a s xs ++ on a s ys
on-++ a s [] ys = refl
on-++ a s (x ∷ xs) ys = ap (keep (eqb x.address a) (claim s x)) (on-++ a s xs ys) ∙ sym (keep-++ (eqb x.address a) (claim s x) (on a s xs) (on a s ys))

-- a task whose accesses enter one by one: the queue of the next access's address, and of any other
pub queue_enter : (a : ℕ) (v : Roll) (s : ℕ) (xs : List Access) (x : Access) →
    queue a (v ++ (bare s (xs ++ (x ∷ [])) ∷ [])) ≡ queue a (v ++ (bare s xs ∷ [])) ++ keep (eqb x.address a) (claim s x) []
queue_enter a v s xs x =
    queue-++ a v (bare s (xs ++ (x ∷ [])) ∷ [])
    ∙ ap (λ q. queue a v ++ q) (append-nil (on a s (xs ++ (x ∷ []))) ∙ on-++ a s xs (x ∷ [])
    ∙ ap (λ q. q ++ keep (eqb x.address a) (claim s x) []) (sym (append-nil (on a s xs))))
    ∙ sym (append_assoc (queue a v) (on a s xs ++ []) (keep (eqb x.address a) (claim s x) []))
    ∙ ap (λ q. q ++ keep (eqb x.address a) (claim s x) []) (sym (queue-++ a v (bare s xs ∷ [])))

-- a task whose accesses leave one by one
pub queue_leave : (a : ℕ) (pre post : Roll) (s : ℕ) (x : Access) (xs : List Access) →
    queue a (pre ++ (bare s (x ∷ xs) ∷ post)) ≡ queue a pre ++ keep (eqb x.address a) (claim s x) (on a s xs ++ queue a post)
queue_leave a pre post s x xs = queue-++ a pre (bare s (x ∷ xs) ∷ post)
    ∙ ap (λ q. queue a pre ++ q) (keep-++ (eqb x.address a) (claim s x) (on a s xs) (queue a post))

-- what the address of the access that leaves comes to, if the task was not blocked
pub leave_here : (pre post : Roll) (s : ℕ) (x : Access) (xs : List Access) → hits pre (x ∷ xs) ≡ false →
    released (canon (queue x.address (pre ++ (bare s (x ∷ xs) ∷ post)))) ≡ canon (queue x.address (pre ++ (bare s xs ∷ post)))
leave_here pre post s x xs free =
    let f = or_parts (against (writes x) (queue x.address pre)) (hits pre xs) free in
    ap (λ q. released (canon q)) (queue_leave x.address pre post s x xs
    ∙ ap (λ b. queue x.address pre ++ keep b (claim s x) (on x.address s xs ++ queue x.address post)) (eq-eqb x.address x.address refl))
    ∙ canon_leave (queue x.address pre) (claim s x) (on x.address s xs ++ queue x.address post) f.0
    ∙ ap canon (sym (queue-++ x.address pre (bare s xs ∷ post)))

-- and every other address
pub leave_other : (a : ℕ) (pre post : Roll) (s : ℕ) (x : Access) (xs : List Access) → (x.address ≡ a → ⊥) →
    queue a (pre ++ (bare s (x ∷ xs) ∷ post)) ≡ queue a (pre ++ (bare s xs ∷ post))
leave_other a pre post s x xs ne =
    queue_leave a pre post s x xs ∙ ap (λ b. queue a pre ++ keep b (claim s x) (on a s xs ++ queue a post)) (ne_eqb x.address a ne)
    ∙ sym (queue-++ a pre (bare s xs ∷ post))
