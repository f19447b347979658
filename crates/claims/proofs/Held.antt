-- An address is live exactly if a claim holds it. Assumes nothing.
use Rattle.std.proofs.Common.{◌≡◌, ℕ, suc, ◌<◌, ◌≤◌, Bool, true, false, ◌||◌, ltb, List, [], ◌∷◌, ◌++◌, sym, refl, ap, ◌∙◌, arith}
use Rattle.std.proofs.lemmas.Bool.{both_ways, cond_both, lt-ltb, ltb-true}
use Rattle.admission.specs.Admission.{occurs}
use Rattle.roll.specs.Roll.{Roll}
use Rattle.roll.specs.Tables.{live}
use Rattle.claims.specs.declared.Claim.{Claim}
use Rattle.claims.specs.Claims.{State, may, settle, canon, vacant}
use Rattle.claims.specs.Queues.{on, queue, map_of}
use Rattle.claims.proofs.Versions.{some_of, some_on}

-- claims one after the other
some-++ : (p q : List Claim) → some_of (p ++ q) ≡ (some_of p || some_of q)
some-++ [] q = refl
some-++ (c ∷ p) q = refl

-- an address has a claim exactly if it is live
pub some_queue : (a : ℕ) (v : Roll) → some_of (queue a v) ≡ live v a
some_queue a [] = refl
some_queue a (e ∷ v) =
    some-++ (on a e.job.seat e.job.accesses) (queue a v)
    ∙ ap (λ b. b || some_of (queue a v)) (some_on a e.job.seat e.job.accesses)
    ∙ ap (λ b. occurs a e.job.accesses || b) (some_queue a v)

-- who holds the address goes on holding it
pub settle_holds : (n : ℕ) (wr : Bool) (q : List Claim) → n ≤ (settle n wr q).holders
settle_holds n wr [] = omega arith
settle_holds n wr (c ∷ q) =
    cond_both (may n wr c.writes) _ _ (λ (st : State). n ≤ st.holders) (λ m. let k = settle_holds (suc n) c.writes q in
    omega (arith, k)) (λ m. omega arith)

-- the first claim of a queue holds the address
canon_held : (q : List Claim) → ltb 0 (canon q).holders ≡ some_of q
canon_held [] = refl
canon_held (c ∷ q) = lt-ltb 0 (settle 1 c.writes q).holders (let k = settle_holds 1 c.writes q in omega (arith, k))

-- a claim holds the address exactly if it is live
pub live_held : (v : Roll) (a : ℕ) → ltb 0 (map_of v a).holders ≡ live v a
live_held v a = canon_held (queue a v) ∙ some_queue a v

-- the same as a fact
pub held_of_live : (v : Roll) (a : ℕ) → live v a ≡ true → 0 < (map_of v a).holders
held_of_live v a h = ltb-true 0 (map_of v a).holders (live_held v a ∙ h)

-- and the other way round
pub live_of_held : (v : Roll) (a : ℕ) → 0 < (map_of v a).holders → live v a ≡ true
live_of_held v a h = sym (live_held v a) ∙ lt-ltb 0 (map_of v a).holders h

-- no claim at all
none_of : (q : List Claim) → some_of q ≡ false → q ≡ []
none_of [] h = refl
none_of (c ∷ q) h = absurd (both_ways true h refl)

-- an address that is not live is vacant
pub dead_queue : (v : Roll) (a : ℕ) → live v a ≡ false → queue a v ≡ []
dead_queue v a h = none_of (queue a v) (some_queue a v ∙ h)

-- and nobody holds it or waits
pub dead_vacant : (v : Roll) (a : ℕ) → live v a ≡ false → map_of v a ≡ vacant
dead_vacant v a h = ap canon (dead_queue v a h)

-- and so is one that nobody holds
pub none_holds : (v : Roll) (a : ℕ) → (map_of v a).holders ≡ 0 → map_of v a ≡ vacant
none_holds v a h = dead_vacant v a (sym (live_held v a) ∙ ap (λ n. ltb 0 n) h)
