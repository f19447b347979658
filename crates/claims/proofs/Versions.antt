-- The versions in use, address by address, and what an access that leaves frees. Assumes nothing.
use Rattle.std.proofs.Common.{◌≡◌, ℕ, suc, ◌+◌, Bool, true, false, cond, not, ◌&&◌, ◌||◌, eqb, List, [], ◌∷◌, ◌++◌, sym, refl, ap, ◌∙◌, subst, ⊎_elim, zero-add, arith}
use mathlib.Core.Bool.{or-true}
use Rattle.std.proofs.lemmas.Bool.{or_parts, cases_Bool, cases_eq, eqb-true, ne_eqb, eq-eqb}
use Rattle.task.specs.declared.Access.{Access}
use Rattle.task.specs.Access.{writes, keep}
use Rattle.admission.specs.Admission.{occurs}
use Rattle.roll.specs.Roll.{Entry, Roll}
use Rattle.roll.specs.Tables.{tally, live, needs, used}
use Rattle.claims.specs.declared.Claim.{Claim}
use Rattle.claims.specs.Claims.{State, against, may, settle, canon}
use Rattle.claims.specs.Queues.{bare, claim, on, queue, Apart, AllApart}
use Rattle.claims.specs.Claims.{lone, reader_next, freed}
use Rattle.claims.proofs.Counts.{on_none}

-- the versions of a queue: one for each writer, and one more if the first only reads (and no earlier task touches the address)
abbrev pub vers : Bool → List Claim → ℕ
vers seen [] = 0
vers seen (c ∷ q) = tally (c.writes || not seen) + vers true q

-- is there a claim?
abbrev pub some_of : List Claim → Bool
some_of [] = false
some_of (c ∷ q) = true

-- the versions that the accesses to other addresses than a take
abbrev needs_off : ℕ → Roll → List Access → ℕ
needs_off a v [] = 0
needs_off a v (x ∷ xs) = tally (not (eqb x.address a) && (writes x || not (live v x.address))) + needs_off a v xs

-- the versions of the other addresses than a, by the tasks after the earlier ones
abbrev used_off : ℕ → Roll → Roll → ℕ
used_off a e [] = 0
used_off a e (t ∷ ts) = needs_off a e t.job.accesses + used_off a (t ∷ e) ts

-- the versions that a task needs: those of one address, and the others
needs_split : (a s : ℕ) (v : Roll) (xs : List Access) → Apart xs → needs v xs ≡ needs_off a v xs + vers (live v a) (on a s xs)
needs_split a s v [] h = refl
needs_split a s v (x ∷ xs) h = ⊎_elim
    (λ (e : eqb x.address a ≡ true).
    let same : x.address ≡ a = eqb-true x.address a e in
    let none : on a s xs ≡ [] = on_none a s xs (subst (λ (b : ℕ). occurs b xs ≡ false) same h.0) in
    let k = needs_split a s v xs h.1 in
    let k0 : vers (live v a) (on a s xs) ≡ 0 = ap (vers (live v a)) none in
    let off : tally (not (eqb x.address a) && (writes x || not (live v x.address))) ≡ 0 =
    ap (λ b. tally (not b && (writes x || not (live v x.address)))) e in
    let at : vers (live v a) (on a s (x ∷ xs)) ≡ tally (writes x || not (live v x.address)) + 0 =
    ap (λ b. vers (live v a) (keep b (claim s x) (on a s xs))) e ∙ ap (λ q. tally (writes x || not (live v a)) + vers true q) none
    ∙ ap (λ b. tally (writes x || not (live v b)) + 0) (sym same) in
    omega (arith, k, k0, off, at))
    (λ (e : eqb x.address a ≡ false).
    let k = needs_split a s v xs h.1 in
    let off : tally (not (eqb x.address a) && (writes x || not (live v x.address))) ≡ tally (writes x || not (live v x.address)) =
    ap (λ b. tally (not b && (writes x || not (live v x.address)))) e in
    let at : vers (live v a) (on a s (x ∷ xs)) ≡ vers (live v a) (on a s xs) = ap (λ b. vers (live v a) (keep b (claim s x) (on a s xs))) e in
    omega (arith, k, off, at))
    (cases_Bool (eqb x.address a))

-- the versions of two lists, one after the other
pub vers-++ : (s : Bool) (p q : List Claim) → vers s (p ++ q) ≡ vers s p + vers (some_of p || s) q
vers-++ s [] q = sym (zero-add (vers s q))
vers-++ s (c ∷ p) q = let k = vers-++ true p q in let g : vers (some_of p || true) q ≡ vers true q = ap (λ b. vers b q) (or-true (some_of p)) in
    omega (arith, k, g)

-- a task makes a claim on the addresses that occur in it
pub some_on : (a s : ℕ) (xs : List Access) → some_of (on a s xs) ≡ occurs a xs
some_on a s [] = refl
some_on a s (x ∷ xs) = step (eqb x.address a) (on a s xs) (occurs a xs) (some_on a s xs)
  where
    step : (b : Bool) (q : List Claim) (r : Bool) → some_of q ≡ r → some_of (keep b (claim s x) q) ≡ (b || r)
    step true q r h = refl
    step false q r h = h

-- all versions: those of one address, and the others
pub used_split : (a : ℕ) (e v : Roll) → AllApart v → used e v ≡ used_off a e v + vers (live e a) (queue a v)
used_split a e [] h = refl
used_split a e (t ∷ ts) h =
    let k = needs_split a t.job.seat e t.job.accesses h.0 in
    let j = used_split a (t ∷ e) ts h.1 in
    let m = vers-++ (live e a) (on a t.job.seat t.job.accesses) (queue a ts) in
    let n : vers (some_of (on a t.job.seat t.job.accesses) || live e a) (queue a ts) ≡ vers (occurs a t.job.accesses || live e a) (queue a ts) =
    ap (λ b. vers (b || live e a) (queue a ts)) (some_on a t.job.seat t.job.accesses) in
    omega (arith, k, j, m, n)

-- two rolls that have the same addresses live, but perhaps a
abbrev pub SameLive : ℕ → Roll → Roll → Type 0
SameLive a e f = (b : ℕ) → (b ≡ a → ⊥) → live e b ≡ live f b

-- beside them a task needs as many versions for the other addresses
needs_alike : (a : ℕ) (e f : Roll) (xs : List Access) → SameLive a e f → needs_off a e xs ≡ needs_off a f xs
needs_alike a e f [] h = refl
needs_alike a e f (x ∷ xs) h =
    let k = needs_alike a e f xs h in
    let one : tally (not (eqb x.address a) && (writes x || not (live e x.address)))
    ≡ tally (not (eqb x.address a) && (writes x || not (live f x.address))) = ⊎_elim
    (λ (q : x.address ≡ a). let z = eq-eqb x.address a q in
    ap (λ b. tally (not b && (writes x || not (live e x.address)))) z ∙ sym (ap (λ b. tally (not b && (writes x || not (live f x.address)))) z))
    (λ ne. ap (λ b. tally (not (eqb x.address a) && (writes x || not b))) (h x.address ne))
    (cases_eq x.address a) in
    omega (arith, k, one)

-- one more task before both
pub alike_more : (a : ℕ) (e f : Roll) (t : Entry) → SameLive a e f → SameLive a (t ∷ e) (t ∷ f)
alike_more a e f t h b ne = ap (λ v. occurs b t.job.accesses || v) (h b ne)

-- and so do the tasks after
used_alike : (a : ℕ) (e f v : Roll) → SameLive a e f → used_off a e v ≡ used_off a f v
used_alike a e f [] h = refl
used_alike a e f (t ∷ ts) h = let k = needs_alike a e f t.job.accesses h in let j = used_alike a (t ∷ e) (t ∷ f) ts (alike_more a e f t h) in
    omega (arith, k, j)

-- without the access that leaves, the other addresses take as many
used_off_leave : (e pre post : Roll) (s : ℕ) (x : Access) (xs : List Access) →
    used_off x.address e (pre ++ (bare s (x ∷ xs) ∷ post)) ≡ used_off x.address e (pre ++ (bare s xs ∷ post))
used_off_leave e [] post s x xs =
    let a = x.address in
    let off : tally (not (eqb a a) && (writes x || not (live e a))) ≡ 0 = ap (λ b. tally (not b && (writes x || not (live e a)))) (eq-eqb a a refl) in
    let j = used_alike a (bare s (x ∷ xs) ∷ e) (bare s xs ∷ e) post (λ b ne. ap (λ v. (v || occurs b xs) || live e b) (ne_eqb a b (λ q. ne (sym q)))) in
    omega (arith, off, j)
used_off_leave e (t ∷ pre) post s x xs = ap (λ n. needs_off x.address e t.job.accesses + n) (used_off_leave (t ∷ e) pre post s x xs)

-- what is in use before and after differs by the versions of the one address
pub used_leave : (pre post : Roll) (s : ℕ) (x : Access) (xs : List Access) → AllApart (pre ++ (bare s (x ∷ xs) ∷ post)) →
    AllApart (pre ++ (bare s xs ∷ post)) →
    used [] (pre ++ (bare s (x ∷ xs) ∷ post)) + vers false (queue x.address (pre ++ (bare s xs ∷ post)))
    ≡ used [] (pre ++ (bare s xs ∷ post)) + vers false (queue x.address (pre ++ (bare s (x ∷ xs) ∷ post)))
used_leave pre post s x xs h k =
    let a = x.address in
    let p = used_split a [] (pre ++ (bare s (x ∷ xs) ∷ post)) h in
    let q = used_split a [] (pre ++ (bare s xs ∷ post)) k in
    let o = used_off_leave [] pre post s x xs in
    omega (arith, p, q, o)

-- of two holders none is the only one
two_hold : (n : ℕ) (wr : Bool) (q : List Claim) → lone (settle (suc (suc n)) wr q).holders ≡ false
two_hold n wr [] = refl
two_hold n wr (c ∷ q) = pick (may (suc (suc n)) wr c.writes) _ _ (two_hold (suc n) c.writes q) refl
  where
    pick : (b : Bool) (u v : State) → lone u.holders ≡ false → lone v.holders ≡ false → lone (cond b u v).holders ≡ false
    pick true u v h k = h
    pick false u v h k = k

-- with more than one holder nothing falls free
freed_two : (st : State) → lone st.holders ≡ false → freed st ≡ 0
freed_two st h = ap (λ b. tally (b && not (reader_next st.waiting))) h

-- the first claim leaves
first_frees : (w : Bool) (post : List Claim) → 1 + vers true post ≡ vers false post + freed (settle 1 w post)
first_frees true [] = refl
first_frees false [] = refl
first_frees true (d ∷ ds) = by d.writes (vers true ds)
  where
    by : (v : Bool) (n : ℕ) → 1 + (tally (v || false) + n) ≡ (tally (v || true) + n) + tally (not (not v))
    by true n = omega arith
    by false n = omega arith
first_frees false (d ∷ ds) = by d.writes refl
  where
    by : (v : Bool) → d.writes ≡ v → 1 + (tally (d.writes || false) + vers true ds)
        ≡ (tally (d.writes || true) + vers true ds) + freed (settle 1 false (d ∷ ds))
    by true e =
        let a : tally (d.writes || false) ≡ 1 = ap (λ b. tally (b || false)) e in
        let b : tally (d.writes || true) ≡ 1 = ap (λ b. tally (b || true)) e in
        let c : freed (settle 1 false (d ∷ ds)) ≡ 1 =
        ap (λ b. freed (cond (not b) (settle 2 d.writes ds) (record { holders = 1; writing = false; waiting = d ∷ ds }))) e
        ∙ ap (λ b. tally (not (not b))) e in
        omega (arith, a, b, c)
    by false e =
        let a : tally (d.writes || false) ≡ 0 = ap (λ b. tally (b || false)) e in
        let b : tally (d.writes || true) ≡ 1 = ap (λ b. tally (b || true)) e in
        let c : freed (settle 1 false (d ∷ ds)) ≡ 0 =
        ap (λ b. freed (cond (not b) (settle 2 d.writes ds) (record { holders = 1; writing = false; waiting = d ∷ ds }))) e
        ∙ freed_two (settle 2 d.writes ds) (two_hold 0 d.writes ds) in
        omega (arith, a, b, c)

-- a reader after another claim takes no version
skip_reader : (ps : List Claim) (c : Claim) (post : List Claim) → c.writes ≡ false → vers true (ps ++ (c ∷ post)) ≡ vers true (ps ++ post)
skip_reader [] c post e = ap (λ b. tally (b || false) + vers true post) e ∙ zero-add (vers true post)
skip_reader (p ∷ ps) c post e = ap (λ n. tally (p.writes || false) + n) (skip_reader ps c post e)

-- a reader that comes after a reader holds beside it
beside_one : (d : Claim) (q : List Claim) → d.writes ≡ false → lone (settle 1 false (d ∷ q)).holders ≡ false
beside_one d q e = ap (λ b. lone (cond (not b) (settle 2 b q) (record { holders = 1; writing = false; waiting = d ∷ q })).holders) e ∙ two_hold 0 false q

-- so it does among readers
second : (ps : List Claim) (c : Claim) (post : List Claim) → against false ps ≡ false → c.writes ≡ false →
    lone (settle 1 false (ps ++ (c ∷ post))).holders ≡ false
second [] c post h e = beside_one c post e
second (p ∷ ps) c post h e = beside_one p (ps ++ (c ∷ post)) (or_parts p.writes (against false ps) h).0

-- the versions of a queue, before and after a claim that holds the address leaves
pub canon_frees : (pre : List Claim) (c : Claim) (post : List Claim) → against c.writes pre ≡ false →
    vers false (pre ++ (c ∷ post)) ≡ vers false (pre ++ post) + freed (canon (pre ++ (c ∷ post)))
canon_frees [] c post h = ap (λ n. n + vers true post) (one c.writes) ∙ first_frees c.writes post
  where
    one : (b : Bool) → tally (b || true) ≡ 1
    one true = refl
    one false = refl
canon_frees (p ∷ ps) c post h =
    let f : ((c.writes || p.writes) ≡ false) × (against c.writes ps ≡ false) = or_parts (c.writes || p.writes) (against c.writes ps) h in
    let g : (c.writes ≡ false) × (p.writes ≡ false) = or_parts c.writes p.writes f.0 in
    let k = skip_reader ps c post g.0 in
    let z : freed (canon (p ∷ (ps ++ (c ∷ post)))) ≡ 0 = ap (λ b. freed (settle 1 b (ps ++ (c ∷ post)))) g.1
    ∙ freed_two (settle 1 false (ps ++ (c ∷ post))) (second ps c post (subst (λ (v : Bool). against v ps ≡ false) g.0 f.1) g.0) in
    omega (arith, k, z)
