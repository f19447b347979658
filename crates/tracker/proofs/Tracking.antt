-- The tables stand for a roll: what they know of each entry, and what a task that takes a seat and joins does. Assumes nothing.
use Rattle.std.proofs.Common.{◌≡◌, ℕ, ◌+◌, ◌%◌, ◌<◌, ◌≤◌, Bool, true, false, not, ◌&&◌, ◌||◌, eqb, ltb, List, [], ◌∷◌, ◌++◌, length, sym, refl, ap, ◌∙◌, subst, arith, length-append}
use mathlib.Core.Path.{fun_ext}
use Rattle.std.specs.List.{AllByRecursion as All}
use Rattle.std.proofs.Math.Bool.{not-not}
use Rattle.std.proofs.lemmas.Bool.{eq-eqb, or_parts, or_from, cond_both, eqb-false}
use Rattle.task.specs.declared.Access.{Access}
use Rattle.task.specs.Access.{writes}
use Rattle.admission.specs.Admission.{occurs}
use Rattle.host.specs.Meaning.{update}
use Rattle.order.proofs.Update.{eqb_flip}
use Rattle.order.proofs.Opens.{all_front, all_both}
use Rattle.roll.specs.Roll.{Entry, Roll}
use Rattle.roll.specs.Tables.{Tables, tally, used, needs, live, fresh, occupied}
use Rattle.claims.specs.declared.Claim.{Claim}
use Rattle.claims.specs.Claims.{State, against, claims, canon, open_to, joined_by}
use Rattle.claims.specs.Queues.{bare, claim, queue, map_of, stuck_of, hit_count, Apart, AllApart, AbsentSeat}
use Rattle.claims.proofs.Joins.{plus, map_enter, queue_own, holds_at_once, hit_count_more, size_at}
use Rattle.claims.proofs.Counts.{stuck_hits, stuck_same, claims-++}
use Rattle.claims.proofs.Seats.{elsewhere_waiting}
use Rattle.claims.proofs.Sets.{used_enter, occupied_enter}
use Rattle.claims.proofs.Held.{live_held}
use Rattle.tracker.specs.Table.{Table, Joined, live_at}
use Rattle.tracker.specs.Tracked.{Tracked, sized, blocked_at}
use Rattle.tracker.specs.declared.ways.AddressTable.{AddressTable}
use Rattle.tracker.specs.declared.ways.Claimed.{Claimed}
use Rattle.tracker.specs.declared.tracker.Tracker.{Tracker}
use Rattle.tracker.proofs.Tables.{tally_most}
use Rattle.tracker.proofs.Entries.{Cut, all_of_cut, cut_of_all, all_last, all-++, apart_of, repeats_of, absent_all, Distinct, distinct_of, doubled_of, apart_before, apart_after, distinct_more, distinct_same}

-- what the tables know of an entry, by the map of addresses
pub record FitsIn (t : Tracker) (M : ℕ → State) (e : Entry) : Type 0 where
  pub count : blocked_at t e.job.seat ≡ stuck_of M e.job.seat e.job.accesses
  pub low : e.job.seat < 256
  pub short : length e.job.accesses ≤ 15
  pub apart : Apart e.job.accesses

-- so it is with each entry of the roll
pub each : (t : Tracker) (v : Roll) → Tracked t v → All (FitsIn t (map_of v)) v
each t v k =
    all_of_cut (FitsIn t (map_of v)) v
    (λ pre post e s. record { count = k.counts pre post e s; low = k.low pre post e s; short = k.short pre post e s; apart = apart_of e.job.accesses (k.apart pre post e s) })

-- where a task has no access, none of its claims waits
abbrev pub Lonely : Roll → Entry → Type 0
Lonely v e = (a : ℕ) → occurs a e.job.accesses ≡ false → claims e.job.seat (map_of v a).waiting ≡ 0

-- so it is with each entry of the roll
pub lonely : (v : Roll) → Distinct v → All (Lonely v) v
lonely v d =
    all_of_cut (Lonely v) v
    (λ pre post e s a no.
    let d' : Distinct (pre ++ (e ∷ post)) = subst Distinct s d in
    subst (λ (u : Roll). claims e.job.seat (map_of u a).waiting ≡ 0) (sym s)
    (elsewhere_waiting e.job.seat pre post e a (apart_before pre post e d') (apart_after pre post e d') no))

-- the tables stand for a roll if they know this of its entries, and count what it uses
pub made : (t : Tracker) (v : Roll) (M : ℕ → State) → map_of v ≡ M → Table t.table M → All (FitsIn t M) v → t.used ≡ used [] v →
    ((z : ℕ) → z < 64 → live_at t.table z ≡ occupied (sized 0 0) z [] v) → Distinct v → length v ≤ 256 → Tracked t v
made t v M m table all versions addresses d few =
    let cut : Cut (FitsIn t (map_of v)) v = cut_of_all (FitsIn t (map_of v)) v (subst (λ (N : ℕ → State). All (FitsIn t N) v) (sym m) all) in
    record {
      table = subst (λ (N : ℕ → State). Table t.table N) (sym m) table;
      counts = λ pre post e s. (cut pre post e s).count;
      versions = versions;
      addresses = addresses;
      low = λ pre post e s. (cut pre post e s).low;
      short = λ pre post e s. (cut pre post e s).short;
      apart = λ pre post e s. repeats_of e.job.accesses (cut pre post e s).apart;
      seats = doubled_of v d;
      few = few;
    }

-- the addresses of each task are apart
pub all_apart : (t : Tracker) (M : ℕ → State) (v : Roll) → All (FitsIn t M) v → AllApart v
all_apart t M [] h = tt
all_apart t M (e ∷ v) h = (h.0.apart, all_apart t M v h.1)

-- one more entry
pub length_plus : (v : Roll) (s : ℕ) (xs : List Access) → length (plus v s xs) ≡ length v + 1
length_plus v s xs = length-append v (bare s xs ∷ [])

-- a task takes a seat, with no access yet
pub tracked_start : (t t' : Tracker) (v : Roll) (s : ℕ) → Tracked t v → AbsentSeat s v → length v < 256 → s < 256 →
    t'.table ≡ t.table → t'.used ≡ t.used → ((u : ℕ) → (u ≡ s → ⊥) → blocked_at t' u ≡ blocked_at t u) → blocked_at t' s ≡ 0 → Tracked t' (plus v s [])
tracked_start t t' v s k absent few low table versions others own =
    let m : map_of (plus v s []) ≡ map_of v = fun_ext (λ a. ap canon (queue_own v s a [] refl)) in
    let M = map_of v in
    let n = length_plus v s [] in
    let before : All (FitsIn t' M) v =
    all_both (FitsIn t M) (λ e. eqb e.job.seat s ≡ false) (FitsIn t' M)
    (λ e h ne. record { count = others e.job.seat (eqb-false e.job.seat s ne) ∙ h.count; low = h.low; short = h.short; apart = h.apart })
    v (each t v k) (absent_all s v absent) in
    made t' (plus v s []) M m (subst (λ (w : AddressTable). Table w M) (sym table) k.table)
    (all-++ (FitsIn t' M) v (bare s [] ∷ []) before (record { count = own; low = low; short = omega arith; apart = tt }, tt))
    (let u = used_enter v (bare s []) in let o = k.versions in omega (arith, versions, u, o))
    (λ z zl. let o : live_at t'.table z ≡ live_at t.table z = ap (λ (w : AddressTable). live_at w z) table in let u = occupied_enter (sized 0 0) z v (bare s []) in let p = k.addresses z zl in omega (arith, o, u, p))
    (distinct_more v (bare s []) (distinct_of v k.seats) absent)
    (omega (arith, n, few))

-- one more access to another address
pub occurs_more : (a : ℕ) (ys : List Access) (x : Access) → occurs a ys ≡ false → eqb x.address a ≡ false → occurs a (ys ++ (x ∷ [])) ≡ false
occurs_more a [] x h n = or_from (eqb x.address a) false n refl
occurs_more a (y ∷ ys) x h n = let f = or_parts (eqb y.address a) (occurs a ys) h in or_from (eqb y.address a) (occurs a (ys ++ (x ∷ []))) f.0 (occurs_more a ys x f.1 n)

-- and the addresses are apart
pub apart_more : (ys : List Access) (x : Access) → Apart ys → occurs x.address ys ≡ false → Apart (ys ++ (x ∷ []))
apart_more [] x d h = (refl, tt)
apart_more (y ∷ ys) x d h =
    let f = or_parts (eqb y.address x.address) (occurs x.address ys) h in
    let n : eqb x.address y.address ≡ false = eqb_flip y.address x.address f.0 in
    (occurs_more y.address ys x d.0 n, apart_more ys x d.1 f.1)

-- an address that does not occur in the last task is live by the others
pub live_plus : (v : Roll) (s : ℕ) (ys : List Access) (a : ℕ) → occurs a ys ≡ false → live (plus v s ys) a ≡ live v a
live_plus [] s ys a h = or_from (occurs a ys) false h refl
live_plus (e ∷ v) s ys a h = ap (λ b. occurs a e.job.accesses || b) (live_plus v s ys a h)

-- one more access needs a version, or not
pub needs_more : (v : Roll) (ys : List Access) (x : Access) → needs v (ys ++ (x ∷ [])) ≡ needs v ys + tally (writes x || not (live v x.address))
needs_more v [] x = omega arith
needs_more v (y ∷ ys) x = let k = needs_more v ys x in omega (arith, k)

-- one more access is to a new address of a set, or not
pub fresh_more : (z : Tables) (v : Roll) (set : ℕ) (ys : List Access) (x : Access) →
    fresh z v set (ys ++ (x ∷ [])) ≡ fresh z v set ys + tally (eqb (z.set_of x.address) set && not (live v x.address))
fresh_more z v set [] x = omega arith
fresh_more z v set (y ∷ ys) x = let k = fresh_more z v set ys x in omega (arith, k)

-- a claim of another seat changes none of a seat's that wait
pub joined_claims : (st : State) (c : Claim) (t : ℕ) → eqb c.seat t ≡ false → claims t (joined_by st c).waiting ≡ claims t st.waiting
joined_claims st c t h =
    cond_both (open_to st c.writes) _ _ (λ (x : State). claims t x.waiting ≡ claims t st.waiting)
    (λ o. refl)
    (λ o. let k = claims-++ t st.waiting (c ∷ []) in let z : tally (eqb c.seat t) ≡ 0 = ap tally h in omega (arith, k, z))

-- where the tables stand for the roll, its next access can be claimed
pub joinable : (t : Tracker) (v : Roll) (s : ℕ) (ys : List Access) (x : Access) (P : (ℕ → State) → Type 0) →
    Tracked t (plus v s ys) → occurs x.address ys ≡ false → (live v x.address ≡ false → occupied (sized 0 0) (x.address % 64) [] (plus v s ys) < 8) →
    ((M : ℕ → State) → Table t.table M → ((M x.address).holders ≡ 0 → live_at t.table (x.address % 64) < 8) → (M x.address).holders + length (M x.address).waiting < 256 → P M) →
    P (map_of (plus v s ys))
joinable t v s ys x P k out room did =
    let a = x.address in
    let V = plus v s ys in
    let M = map_of V in
    let old : All (FitsIn t M) v = all_front (FitsIn t M) v (bare s ys ∷ []) (each t V k) in
    let lv : ltb 0 (M a).holders ≡ live v a = live_held V a ∙ live_plus v s ys a out in
    let n = length_plus v s ys in
    let few = k.few in
    let size = size_at v s ys a (all_apart t M v old) out in
    did M k.table
    (λ none. let dead : live v a ≡ false = sym lv ∙ ap (ltb 0) none in let q = room dead in let p = k.addresses (a % 64) (omega arith) in omega (arith, p, q))
    (omega (arith, size, few, n))

-- one more access of the last task joins
pub tracked_join : (t t' : Tracker) (v : Roll) (s : ℕ) (ys : List Access) (x : Access) (r : Claimed) (version : Bool) →
    Tracked t (plus v s ys) → occurs x.address ys ≡ false → length ys < 15 →
    (live v x.address ≡ false → occupied (sized 0 0) (x.address % 64) [] (plus v s ys) < 8) →
    ((writes x || not (live v x.address)) ≡ true → used [] (plus v s ys) < 60000) →
    ((M : ℕ → State) → Table t.table M → ((M x.address).holders ≡ 0 → live_at t.table (x.address % 64) < 8) → (M x.address).holders + length (M x.address).waiting < 256 →
    Joined t.table t'.table M x.address (claim s x) r) →
    version ≡ (writes x || r.fresh) →
    ((version ≡ true → t.used < 60000) → t'.used ≡ t.used + tally version) →
    (blocked_at t s < 255 → (u : ℕ) → blocked_at t' u ≡ blocked_at t u + tally (eqb s u && not r.holds)) →
    Tracked t' (plus v s (ys ++ (x ∷ [])))
tracked_join t t' v s ys x r version k out short room fits did isv versions counts =
    let a = x.address in
    let V = plus v s ys in
    let V' = plus v s (ys ++ (x ∷ [])) in
    let M = map_of V in
    let st = joined_by (M a) (claim s x) in
    let M' = update M a st in
    let d : Distinct V = distinct_of V k.seats in
    let absent : AbsentSeat s v = apart_before v [] (bare s ys) d in
    let all = each t V k in
    let old : All (FitsIn t M) v = all_front (FitsIn t M) v (bare s ys ∷ []) all in
    let mine : FitsIn t M (bare s ys) = all_last (FitsIn t M) v [] (bare s ys) all in
    let lv : ltb 0 (M a).holders ≡ live v a = live_held V a ∙ live_plus v s ys a out in
    let n = length_plus v s ys in
    let n' = length_plus v s (ys ++ (x ∷ [])) in
    let few = k.few in
    let j = joinable t v s ys x (λ N. Joined t.table t'.table N a (claim s x) r) k out room did in
    let isv' : version ≡ (writes x || not (live v a)) = isv ∙ ap (λ b. writes x || b) (j.fresh ∙ ap not lv) in
    let holds : r.holds ≡ not (against (writes x) (queue a v)) = j.holds ∙ holds_at_once v s ys x out in
    let hit : tally (not r.holds) ≡ tally (against (writes x) (queue a v)) = ap (λ b. tally (not b)) holds ∙ ap tally (not-not (against (writes x) (queue a v))) in
    let was : blocked_at t s ≡ hit_count v ys = mine.count ∙ stuck_hits v [] s ys absent tt mine.apart in
    let most = hit_most v ys in
    let now = counts (omega (arith, was, most, short)) in
    let d' = apart_more ys x mine.apart out in
    let m : map_of V' ≡ M' = sym (map_enter v s ys x) in
    let own : blocked_at t' s ≡ stuck_of M' s (ys ++ (x ∷ [])) =
    (let e = now s in
    let b : tally (eqb s s && not r.holds) ≡ tally (not r.holds) = ap (λ q. tally (q && not r.holds)) (eq-eqb s s refl) in
    let h = hit_count_more v ys x in
    let q : blocked_at t' s ≡ hit_count v (ys ++ (x ∷ [])) = omega (arith, e, b, h, hit, was) in
    q ∙ sym (stuck_hits v [] s (ys ++ (x ∷ [])) absent tt d') ∙ ap (λ (N : ℕ → State). stuck_of N s (ys ++ (x ∷ []))) m) in
    let before : All (FitsIn t' M') v =
    all_both (FitsIn t M) (λ e. eqb e.job.seat s ≡ false) (FitsIn t' M')
    (λ e h ne.
    let no : eqb s e.job.seat ≡ false = eqb_flip e.job.seat s ne in
    let same = stuck_same M a st e.job.seat e.job.accesses (joined_claims (M a) (claim s x) e.job.seat no) in
    let b : tally (eqb s e.job.seat && not r.holds) ≡ 0 = ap (λ q. tally (q && not r.holds)) no in
    let e' = now e.job.seat in
    let c = h.count in
    record { count = omega (arith, same, b, e', c); low = h.low; short = h.short; apart = h.apart })
    v old (absent_all s v absent) in
    let long = length-append ys (x ∷ []) in
    made t' V' M' m j.table
    (all-++ (FitsIn t' M') v (bare s (ys ++ (x ∷ [])) ∷ []) before (record { count = own; low = mine.low; short = omega (arith, long, short); apart = d' }, tt))
    (let o = k.versions in
    let p = used_enter v (bare s ys) in
    let p' = used_enter v (bare s (ys ++ (x ∷ []))) in
    let q = needs_more v ys x in
    let c = versions (λ y. let f = fits (sym isv' ∙ y) in omega (arith, o, f)) in
    let i : tally version ≡ tally (writes x || not (live v a)) = ap tally isv' in
    omega (arith, o, p, p', q, c, i))
    (λ z zl.
    let o = k.addresses z zl in
    let p = occupied_enter (sized 0 0) z v (bare s ys) in
    let p' = occupied_enter (sized 0 0) z v (bare s (ys ++ (x ∷ []))) in
    let q = fresh_more (sized 0 0) v z ys x in
    let c = j.live z zl in
    let i : tally (eqb (a % 64) z && not (ltb 0 (M a).holders)) ≡ tally (eqb (a % 64) z && not (live v a)) = ap (λ b. tally (eqb (a % 64) z && not b)) lv in
    omega (arith, o, p, p', q, c, i))
    (distinct_same v [] (bare s ys) (bare s (ys ++ (x ∷ []))) refl d)
    (omega (arith, few, n, n'))
  where
    hit_most : (v : Roll) (xs : List Access) → hit_count v xs ≤ length xs
    hit_most v [] = omega arith
    hit_most v (x ∷ xs) = let k = hit_most v xs in let e = tally_most (against (writes x) (queue x.address v)) in omega (arith, k, e)
