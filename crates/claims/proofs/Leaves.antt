-- What a roll uses of the tables when one access of an unblocked task leaves, and when a task with no access left does. Assumes nothing.
use Rattle.std.proofs.Common.{◌≡◌, ℕ, ◌+◌, Bool, true, false, not, ◌&&◌, ◌||◌, eqb, List, [], ◌∷◌, ◌++◌, sym, refl, ap, ◌∙◌, subst, ap₂, ⊎_elim, zero-add, arith}
use mathlib.Core.Path.{fun_ext}
use Rattle.std.proofs.lemmas.Bool.{true≢false, or_parts, or_left, or_right, cases_Bool, cases_eq, eqb-true, ne_eqb, eq-eqb}
use Rattle.task.specs.declared.Access.{Access}
use Rattle.task.specs.Access.{writes, conflict, keep}
use Rattle.admission.specs.Admission.{occurs}
use Rattle.roll.specs.Roll.{Roll, blocked}
use Rattle.roll.specs.Tables.{Tables, tally, live, needs, used, fresh, occupied}
use Rattle.claims.specs.Claims.{against, canon, freed}
use Rattle.claims.specs.Queues.{bare, claim, on, queue, Apart, AllApart, map_of}
use Rattle.claims.proofs.Queues.{hits, queue-++, queue_leave}
use Rattle.claims.proofs.Versions.{vers, SameLive, alike_more, used_leave, canon_frees}
use Rattle.claims.proofs.Leaving.{with}
use Rattle.claims.proofs.Sets.{used_live, occupied_live}

-- one access fewer, and the addresses are still apart
pub apart_leave : (pre post : Roll) (s : ℕ) (x : Access) (xs : List Access) → AllApart (with pre s (x ∷ xs) post) → AllApart (with pre s xs post)
apart_leave [] post s x xs h = (h.0.1, h.1)
apart_leave (e ∷ pre) post s x xs h = (h.0, apart_leave pre post s x xs h.1)

-- a task that no earlier one blocks is not blocked with one access fewer
pub hits_leave : (pre : Roll) (x : Access) (xs : List Access) → hits pre (x ∷ xs) ≡ false → hits pre xs ≡ false
hits_leave pre x xs h = (or_parts (against (writes x) (queue x.address pre)) (hits pre xs) h).1

-- the versions in use fall by those that the access frees
pub used_frees : (pre post : Roll) (s : ℕ) (x : Access) (xs : List Access) → AllApart (with pre s (x ∷ xs) post) → hits pre (x ∷ xs) ≡ false →
    used [] (with pre s (x ∷ xs) post) ≡ used [] (with pre s xs post) + freed (map_of (with pre s (x ∷ xs) post) x.address)
used_frees pre post s x xs h free =
    let a = x.address in
    let rest = on a s xs ++ queue a post in
    let was : queue a (with pre s (x ∷ xs) post) ≡ queue a pre ++ (claim s x ∷ rest) =
    queue_leave a pre post s x xs ∙ ap (λ b. queue a pre ++ keep b (claim s x) rest) (eq-eqb a a refl) in
    let is : queue a (with pre s xs post) ≡ queue a pre ++ rest = queue-++ a pre (bare s xs ∷ post) in
    let f = or_parts (against (writes x) (queue a pre)) (hits pre xs) free in
    let u = used_leave pre post s x xs h (apart_leave pre post s x xs h) in
    let c : vers false (queue a (with pre s (x ∷ xs) post)) ≡ vers false (queue a (with pre s xs post)) + freed (map_of (with pre s (x ∷ xs) post) a) =
    ap (vers false) was ∙ canon_frees (queue a pre) (claim s x) rest f.0
    ∙ ap₂ (λ p q. vers false p + freed (canon q)) (sym is) (sym was) in
    omega (arith, u, c)

-- the new addresses of a set but one address; those of a roll
abbrev fresh_off : ℕ → Tables → Roll → ℕ → List Access → ℕ
fresh_off a z v set [] = 0
fresh_off a z v set (x ∷ xs) = tally (not (eqb x.address a) && (eqb (z.set_of x.address) set && not (live v x.address))) + fresh_off a z v set xs

-- the live addresses of a set but one address, by the tasks after the earlier ones
abbrev occupied_off : ℕ → Tables → ℕ → Roll → Roll → ℕ
occupied_off a z set e [] = 0
occupied_off a z set e (t ∷ ts) = fresh_off a z e set t.job.accesses + occupied_off a z set (t ∷ e) ts

-- a task that has no access to the address
fresh_none : (a : ℕ) (z : Tables) (v : Roll) (set : ℕ) (xs : List Access) → occurs a xs ≡ false → fresh z v set xs ≡ fresh_off a z v set xs
fresh_none a z v set [] h = refl
fresh_none a z v set (x ∷ xs) h =
    let f = or_parts (eqb x.address a) (occurs a xs) h in
    ap₂ (λ b n. tally (not b && (eqb (z.set_of x.address) set && not (live v x.address))) + n) (sym f.0) (fresh_none a z v set xs f.1)

-- 1 if the address is of the set, not live before, and the task or the roll has it
abbrev new_at : Tables → ℕ → ℕ → Bool → Bool → ℕ
new_at z set a before has = tally (eqb (z.set_of a) set && (not before && has))

-- 0 if nobody has it
none_new : (b c : Bool) → tally (b && (c && false)) ≡ 0
none_new true true = refl
none_new true false = refl
none_new false c = refl

-- the new addresses of a set: the one address, and the others
fresh_split : (a : ℕ) (z : Tables) (v : Roll) (set : ℕ) (xs : List Access) → Apart xs →
    fresh z v set xs ≡ fresh_off a z v set xs + new_at z set a (live v a) (occurs a xs)
fresh_split a z v set [] h = sym (zero-add _ ∙ none_new (eqb (z.set_of a) set) (not (live v a)))
fresh_split a z v set (x ∷ xs) h = ⊎_elim
    (λ (e : eqb x.address a ≡ true).
    let same : x.address ≡ a = eqb-true x.address a e in
    let k = fresh_none a z v set xs (subst (λ (b : ℕ). occurs b xs ≡ false) same h.0) in
    let off : tally (not (eqb x.address a) && (eqb (z.set_of x.address) set && not (live v x.address))) ≡ 0 =
    ap (λ b. tally (not b && (eqb (z.set_of x.address) set && not (live v x.address)))) e in
    let at : tally (eqb (z.set_of x.address) set && not (live v x.address)) ≡ new_at z set a (live v a) (eqb x.address a || occurs a xs) =
    ap (λ b. tally (eqb (z.set_of b) set && not (live v b))) same ∙ and_true (eqb (z.set_of a) set) (not (live v a))
    ∙ ap (λ b. new_at z set a (live v a) (b || occurs a xs)) (sym e) in
    omega (arith, k, off, at))
    (λ (e : eqb x.address a ≡ false).
    let k = fresh_split a z v set xs h.1 in
    let off : tally (not (eqb x.address a) && (eqb (z.set_of x.address) set && not (live v x.address)))
    ≡ tally (eqb (z.set_of x.address) set && not (live v x.address)) =
    ap (λ b. tally (not b && (eqb (z.set_of x.address) set && not (live v x.address)))) e in
    let at : new_at z set a (live v a) (eqb x.address a || occurs a xs) ≡ new_at z set a (live v a) (occurs a xs) =
    ap (λ b. new_at z set a (live v a) (b || occurs a xs)) e in
    omega (arith, k, off, at))
    (cases_Bool (eqb x.address a))
  where
    and_true : (b c : Bool) → tally (b && c) ≡ tally (b && (c && true))
    and_true true true = refl
    and_true true false = refl
    and_true false c = refl

-- the address is new to the first task that has it, and to no other
new_once : (m l o r : Bool) → tally (m && (not l && o)) + tally (m && (not (o || l) && r)) ≡ tally (m && (not l && (o || r)))
new_once true true true r = refl
new_once true true false r = refl
new_once true false true r = refl
new_once true false false true = refl
new_once true false false false = refl
new_once false l o r = refl

-- the live addresses of a set: the one address, and the others
occupied_split : (a : ℕ) (z : Tables) (set : ℕ) (e v : Roll) → AllApart v →
    occupied z set e v ≡ occupied_off a z set e v + new_at z set a (live e a) (live v a)
occupied_split a z set e [] h = sym (zero-add _ ∙ none_new (eqb (z.set_of a) set) (not (live e a)))
occupied_split a z set e (t ∷ ts) h =
    let k = fresh_split a z e set t.job.accesses h.0 in
    let j = occupied_split a z set (t ∷ e) ts h.1 in
    let n = new_once (eqb (z.set_of a) set) (live e a) (occurs a t.job.accesses) (live ts a) in
    omega (arith, k, j, n)

-- beside two rolls that have the same addresses live, but perhaps a, the other addresses that are new are as many
fresh_but : (a : ℕ) (z : Tables) (set : ℕ) (e f : Roll) (xs : List Access) → SameLive a e f → fresh_off a z e set xs ≡ fresh_off a z f set xs
fresh_but a z set e f [] h = refl
fresh_but a z set e f (x ∷ xs) h =
    let k = fresh_but a z set e f xs h in
    let one : tally (not (eqb x.address a) && (eqb (z.set_of x.address) set && not (live e x.address)))
    ≡ tally (not (eqb x.address a) && (eqb (z.set_of x.address) set && not (live f x.address))) = ⊎_elim
    (λ (q : x.address ≡ a). let y = eq-eqb x.address a q in
    ap (λ b. tally (not b && (eqb (z.set_of x.address) set && not (live e x.address)))) y
    ∙ sym (ap (λ b. tally (not b && (eqb (z.set_of x.address) set && not (live f x.address)))) y))
    (λ ne. ap (λ b. tally (not (eqb x.address a) && (eqb (z.set_of x.address) set && not b))) (h x.address ne))
    (cases_eq x.address a) in
    omega (arith, k, one)

-- and so those of the tasks after
occupied_but : (a : ℕ) (z : Tables) (set : ℕ) (e f v : Roll) → SameLive a e f → occupied_off a z set e v ≡ occupied_off a z set f v
occupied_but a z set e f [] h = refl
occupied_but a z set e f (t ∷ ts) h =
    ap₂ ◌+◌ (fresh_but a z set e f t.job.accesses h) (occupied_but a z set (t ∷ e) (t ∷ f) ts (alike_more a e f t h))

-- without the access that leaves, the other addresses are as many
occupied_off_leave : (z : Tables) (set : ℕ) (e pre post : Roll) (s : ℕ) (x : Access) (xs : List Access) →
    occupied_off x.address z set e (with pre s (x ∷ xs) post) ≡ occupied_off x.address z set e (with pre s xs post)
occupied_off_leave z set e [] post s x xs =
    let a = x.address in
    let off : tally (not (eqb a a) && (eqb (z.set_of a) set && not (live e a))) ≡ 0 =
    ap (λ b. tally (not b && (eqb (z.set_of a) set && not (live e a)))) (eq-eqb a a refl) in
    let j = occupied_but a z set (bare s (x ∷ xs) ∷ e) (bare s xs ∷ e) post (λ b ne. ap (λ v. (v || occurs b xs) || live e b) (ne_eqb a b (λ q. ne (sym q)))) in
    omega (arith, off, j)
occupied_off_leave z set e (t ∷ pre) post s x xs =
    ap (λ n. fresh_off x.address z e set t.job.accesses + n) (occupied_off_leave z set (t ∷ e) pre post s x xs)

-- the address of an access is live
pub live_own : (pre post : Roll) (s : ℕ) (x : Access) (xs : List Access) → live (with pre s (x ∷ xs) post) x.address ≡ true
live_own [] post s x xs = or_left _ (live post x.address) (or_left _ (occurs x.address xs) (eq-eqb x.address x.address refl))
live_own (e ∷ pre) post s x xs = or_right (occurs x.address e.job.accesses) _ (live_own pre post s x xs)

-- a live address that stays live, or not
live_or : (m was is : Bool) → was ≡ true → tally (m && (true && was)) ≡ tally (m && (true && is)) + tally (m && not is)
live_or true true true e = refl
live_or true true false e = refl
live_or true false is e = absurd (true≢false (sym e))
live_or false was is e = refl

-- the live addresses of a set fall by one if the access was the last to its address, and the address is of the set
pub occupied_frees : (z : Tables) (set : ℕ) (pre post : Roll) (s : ℕ) (x : Access) (xs : List Access) → AllApart (with pre s (x ∷ xs) post) →
    occupied z set [] (with pre s (x ∷ xs) post)
    ≡ occupied z set [] (with pre s xs post) + tally (eqb (z.set_of x.address) set && not (live (with pre s xs post) x.address))
occupied_frees z set pre post s x xs h =
    let a = x.address in
    let p = occupied_split a z set [] (with pre s (x ∷ xs) post) h in
    let q = occupied_split a z set [] (with pre s xs post) (apart_leave pre post s x xs h) in
    let o = occupied_off_leave z set [] pre post s x xs in
    let l = live_or (eqb (z.set_of a) set) (live (with pre s (x ∷ xs) post) a) (live (with pre s xs post) a) (live_own pre post s x xs) in
    omega (arith, p, q, o, l)

-- a task with no access left makes no claim
pub queue_gone : (a : ℕ) (pre post : Roll) (s : ℕ) → queue a (with pre s [] post) ≡ queue a (pre ++ post)
queue_gone a pre post s = queue-++ a pre (bare s [] ∷ post) ∙ sym (queue-++ a pre post)

-- so it changes no address
pub map_gone : (pre post : Roll) (s : ℕ) → map_of (with pre s [] post) ≡ map_of (pre ++ post)
map_gone pre post s = fun_ext (λ a. ap canon (queue_gone a pre post s))

-- nor does it block a task, or keep an address live
pub blocked_gone : (pre post : Roll) (s : ℕ) (ys : List Access) → blocked (with pre s [] post) ys ≡ blocked (pre ++ post) ys
blocked_gone [] post s ys = refl
blocked_gone (e ∷ pre) post s ys = ap (λ b. conflict e.job.accesses ys || b) (blocked_gone pre post s ys)

-- or keep an address live
pub live_gone : (pre post : Roll) (s a : ℕ) → live (with pre s [] post) a ≡ live (pre ++ post) a
live_gone [] post s a = refl
live_gone (e ∷ pre) post s a = ap (λ b. occurs a e.job.accesses || b) (live_gone pre post s a)

-- nor does it use a version
pub used_gone : (e pre post : Roll) (s : ℕ) → used e (with pre s [] post) ≡ used e (pre ++ post)
used_gone e [] post s = zero-add (used (bare s [] ∷ e) post) ∙ used_live (bare s [] ∷ e) e post (λ a. refl)
used_gone e (t ∷ pre) post s = ap (λ n. needs e t.job.accesses + n) (used_gone (t ∷ e) pre post s)

-- or take up room in a set
pub occupied_gone : (z : Tables) (set : ℕ) (e pre post : Roll) (s : ℕ) → occupied z set e (with pre s [] post) ≡ occupied z set e (pre ++ post)
occupied_gone z set e [] post s = zero-add (occupied z set (bare s [] ∷ e) post) ∙ occupied_live z set (bare s [] ∷ e) e post (λ a. refl)
occupied_gone z set e (t ∷ pre) post s = ap (λ n. fresh z e set t.job.accesses + n) (occupied_gone z set (t ∷ e) pre post s)

-- and the addresses of the others are still apart
pub apart_gone : (pre post : Roll) (s : ℕ) (xs : List Access) → AllApart (with pre s xs post) → AllApart (pre ++ post)
apart_gone [] post s xs h = h.1
apart_gone (e ∷ pre) post s xs h = (h.0, apart_gone pre post s xs h.1)
