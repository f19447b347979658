-- A task whose accesses leave the tables one by one. Assumes nothing.
use Rattle.std.proofs.Common.{◌≡◌, ℕ, zero, suc, ◌%◌, ◌≤◌, true, false, not, ◌&&◌, ◌||◌, eqb, ltb, List, [], ◌∷◌, ◌++◌, length, drop, sym, refl, ap, ◌∙◌, subst, ⊎_elim, arith, length-append}
use Rattle.std.specs.List.{AllByRecursion as All}
use Rattle.std.proofs.lemmas.Bool.{cases_Bool, cases_eq, eqb-true, ne_eqb, both_ways}
use Rattle.task.specs.declared.Access.{Access}
use Rattle.admission.specs.Admission.{occurs}
use Rattle.host.specs.Meaning.{update}
use Rattle.order.proofs.Opens.{all_front, all_back, all_without, all_both}
use Rattle.roll.specs.Roll.{Entry, Roll}
use Rattle.roll.specs.Tables.{tally, live}
use Rattle.claims.specs.Claims.{State, claims, released}
use Rattle.claims.specs.Queues.{bare, map_of, stuck_of, hit_count, AbsentSeat}
use Rattle.claims.proofs.Updates.{update_same}
use Rattle.claims.proofs.Queues.{hits}
use Rattle.claims.proofs.Counts.{stuck_hits, hit_zero}
use Rattle.claims.proofs.Leaving.{with, map_leave}
use Rattle.claims.proofs.Leaves.{hits_leave, used_frees, occupied_frees, live_own, map_gone, used_gone, occupied_gone}
use Rattle.claims.proofs.Seats.{absent_waiting, count_released, size_most}
use Rattle.claims.proofs.Held.{live_held, held_of_live}
use Rattle.tracker.specs.Table.{Table}
use Rattle.tracker.specs.Tracked.{Tracked, sized, blocked_at}
use Rattle.tracker.specs.Departures.{Leaves, Departed}
use Rattle.tracker.specs.declared.tracker.Tracker.{Tracker}
use Rattle.tracker.proofs.Entries.{cut_of_all, all_last, all-++, Distinct, distinct_of, apart_before, apart_after, distinct_same, distinct_gone, Seated, seated_or}
use Rattle.tracker.proofs.Tracking.{FitsIn, each, Lonely, lonely, made, all_apart}

-- without the first accesses the rest is not blocked either
pub hits_drop : (pre : Roll) (xs : List Access) (i : ℕ) → hits pre xs ≡ false → hits pre (drop i xs) ≡ false
hits_drop pre [] zero h = h
hits_drop pre [] (suc i) h = h
hits_drop pre (x ∷ xs) zero h = h
hits_drop pre (x ∷ xs) (suc i) h = hits_drop pre xs i (hits_leave pre x xs h)

-- the claims of a seat that wait at one of its addresses are among all of them
stuck_has : (M : ℕ → State) (t a : ℕ) (xs : List Access) → occurs a xs ≡ true → claims t (M a).waiting ≤ stuck_of M t xs
stuck_has M t a [] h = absurd (both_ways false refl h)
stuck_has M t a (x ∷ xs) h = ⊎_elim
    (λ (e : x.address ≡ a). let k : claims t (M x.address).waiting ≡ claims t (M a).waiting = ap (λ n. claims t (M n).waiting) e in omega (arith, k))
    (λ ne. let m : occurs a xs ≡ true = ap (λ b. b || occurs a xs) (sym (ne_eqb x.address a ne)) ∙ h in let k = stuck_has M t a xs m in omega (arith, k))
    (cases_eq x.address a)

-- a roll with another entry in the middle is as long
length_with : (pre post : Roll) (e f : Entry) → length (pre ++ (e ∷ post)) ≡ length (pre ++ (f ∷ post))
length_with pre post e f = length-append pre (e ∷ post) ∙ sym (length-append pre (f ∷ post))

-- each seat's count covers its claims that wait at an address
owed : (t : Tracker) (v : Roll) (a : ℕ) → Tracked t v → (s : ℕ) → claims s (map_of v a).waiting ≤ blocked_at t s
owed t v a k s = ⊎_elim
    (λ (f : Seated s v).
    let e = f.entry in
    let c = k.counts f.pre f.post e f.is in
    let l : Lonely v e = cut_of_all (Lonely v) v (lonely v (distinct_of v k.seats)) f.pre f.post e f.is in
    let g : claims e.job.seat (map_of v a).waiting ≤ blocked_at t e.job.seat = ⊎_elim
    (λ (y : occurs a e.job.accesses ≡ true). let h = stuck_has (map_of v) e.job.seat a e.job.accesses y in omega (arith, h, c))
    (λ (n : occurs a e.job.accesses ≡ false). let z = l a n in omega (arith, z))
    (cases_Bool (occurs a e.job.accesses)) in
    subst (λ (u : ℕ). claims u (map_of v a).waiting ≤ blocked_at t u) f.seat g)
    (λ (n : AbsentSeat s v). let z = absent_waiting s v a n in omega (arith, z))
    (seated_or s v)

-- one access of a task that is not blocked leaves
pub tracked_part : (t t' : Tracker) (pre post : Roll) (s : ℕ) (x : Access) (ys : List Access) → Tracked t (with pre s (x ∷ ys) post) → hits pre (x ∷ ys) ≡ false →
    ((M : ℕ → State) → Table t.table M → Leaves (M x.address) t → Departed t t' M x.address) → Tracked t' (with pre s ys post)
tracked_part t t' pre post s x ys k free did =
    let a = x.address in
    let V = with pre s (x ∷ ys) post in
    let V' = with pre s ys post in
    let M = map_of V in
    let M' = update M a (released (M a)) in
    let m : map_of V' ≡ M' = sym (map_leave pre post s x ys free) in
    let d : Distinct V = distinct_of V k.seats in
    let all = each t V k in
    let aparts = all_apart t M V all in
    let mine : FitsIn t M (bare s (x ∷ ys)) = all_last (FitsIn t M) pre post (bare s (x ∷ ys)) all in
    let few = k.few in
    let out = did M k.table (record {
      some = held_of_live V a (live_own pre post s x ys);
      few = (let z = size_most V a aparts in omega (arith, z, few));
      owed = λ u low. owed t V a k u;
    }) in
    let step : (e : Entry) → FitsIn t M e → Lonely V e → FitsIn t' M' e =
    λ e h alone. record {
      count = count_released M a e.job.seat e.job.accesses (blocked_at t e.job.seat) (blocked_at t' e.job.seat) h.apart (alone a) (out.counts e.job.seat h.low) h.count;
      low = h.low;
      short = h.short;
      apart = h.apart;
    } in
    let moved : (v : Roll) → All (FitsIn t M) v → All (Lonely V) v → All (FitsIn t' M') v = all_both (FitsIn t M) (Lonely V) (FitsIn t' M') step in
    let alone = lonely V d in
    let none : blocked_at t s ≡ 0 = mine.count ∙ stuck_hits pre post s (x ∷ ys) (apart_before pre post (bare s (x ∷ ys)) d) (apart_after pre post (bare s (x ∷ ys)) d) mine.apart ∙ eqb-true (hit_count pre (x ∷ ys)) 0 (hit_zero pre (x ∷ ys) ∙ ap not free) in
    let c = mine.count in
    let waits : claims s (M a).waiting ≡ 0 = omega (arith, none, c) in
    let rest : blocked_at t s ≡ stuck_of M s ys = omega (arith, none, c) in
    let short = mine.short in
    let own : FitsIn t' M' (bare s ys) = record {
      count = count_released M a s ys (blocked_at t s) (blocked_at t' s) mine.apart.1 (λ no. waits) (out.counts s mine.low) rest;
      low = mine.low;
      short = omega (arith, short);
      apart = mine.apart.1;
    } in
    made t' V' M' m out.table
    (all-++ (FitsIn t' M') pre (bare s ys ∷ post) (moved pre (all_front (FitsIn t M) pre (bare s (x ∷ ys) ∷ post) all) (all_front (Lonely V) pre (bare s (x ∷ ys) ∷ post) alone))
    (own, moved post (all_back (FitsIn t M) pre (bare s (x ∷ ys) ∷ post) all).1 (all_back (Lonely V) pre (bare s (x ∷ ys) ∷ post) alone).1))
    (let u = used_frees pre post s x ys aparts free in let o = k.versions in let q = out.versions in omega (arith, u, o, q))
    (λ z zl.
    let o = k.addresses z zl in
    let q = out.addresses z zl in
    let f = occupied_frees (sized 0 0) z pre post s x ys aparts in
    let at : map_of V' a ≡ released (M a) = ap (λ (N : ℕ → State). N a) m ∙ update_same M a (released (M a)) a refl in
    let h : ltb 0 (released (M a)).holders ≡ live V' a = ap (λ (st : State). ltb 0 st.holders) (sym at) ∙ live_held V' a in
    let i : tally (eqb (a % 64) z && not (ltb 0 (released (M a)).holders)) ≡ tally (eqb (a % 64) z && not (live V' a)) = ap (λ b. tally (eqb (a % 64) z && not b)) h in
    omega (arith, o, q, f, i))
    (distinct_same pre post (bare s (x ∷ ys)) (bare s ys) refl d)
    (let n = length_with pre post (bare s (x ∷ ys)) (bare s ys) in omega (arith, n, few))

-- a task with no access left leaves the roll
pub tracked_gone : (t : Tracker) (pre post : Roll) (s : ℕ) → Tracked t (with pre s [] post) → Tracked t (pre ++ post)
tracked_gone t pre post s k =
    let V = with pre s [] post in
    let M = map_of V in
    let all = each t V k in
    let few = k.few in
    made t (pre ++ post) M (sym (map_gone pre post s)) k.table
    (all_without (FitsIn t M) pre post (bare s []) all)
    (k.versions ∙ used_gone [] pre post s)
    (λ z zl. k.addresses z zl ∙ occupied_gone (sized 0 0) z [] pre post s)
    (distinct_gone pre post (bare s []) (distinct_of V k.seats))
    (let n = length-append pre (bare s [] ∷ post) in let n' = length-append pre post in omega (arith, n, n', few))
