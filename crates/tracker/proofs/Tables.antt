-- A table changed at one way stands for the map changed at one address. Assumes nothing.
use Rattle.std.proofs.Common.{◌≡◌, ℕ, zero, suc, ◌+◌, ◌*◌, ◌/◌, ◌%◌, ◌<◌, ◌≤◌, Bool, true, false, cond, not, ◌&&◌, eqb, ltb, ◌⊎◌, List, [], ◌∷◌, length, sym, refl, ap, ◌∙◌, subst, inl, inr, ⊎_elim, not-suc-le-zero, arith}
use Rattle.std.proofs.lemmas.Bool.{cases_eq, eq-eqb, ne_eqb, cases_Bool, cond-true, cond-false, both_ways, lt-ltb}
use Rattle.roll.specs.Tables.{tally}
use Rattle.host.specs.Meaning.{update}
use Rattle.claims.specs.declared.Claim.{Claim}
use Rattle.claims.specs.Claims.{State, vacant, settle, open_to, joined_by}
use Rattle.claims.proofs.Updates.{update_same, update_other}
use Rattle.claims.proofs.Held.{settle_holds}
use Rattle.tracker.specs.State.{state_of}
use Rattle.tracker.specs.Table.{slot_at, tag_at, lock_at, live_at, Live, Found, Absent, Full, Free, Table, Placed, Joined, live_ways}
use Rattle.tracker.specs.declared.lock.Lock.{Lock}
use Rattle.tracker.specs.declared.ways.AddressTable.{AddressTable}
use Rattle.tracker.specs.declared.ways.Claimed.{Claimed}
use Rattle.tracker.specs.declared.ways.Slot.{Slot}

-- an address that is at no way of its set is at no way
pub nowhere : (w : AddressTable) (M : ℕ → State) (a : ℕ) → Table w M → Absent w a → (j : ℕ) → j < 512 → Found w a j → ⊥
nowhere w M a t none j lt f =
    let h : tag_at w j % 64 ≡ j % 64 = t.home j lt f.1 in
    let g : a % 64 ≡ j % 64 = subst (λ (n : ℕ). n % 64 ≡ j % 64) f.0 h in
    let e : j ≡ a % 64 + 64 * (j / 64) = omega arith in
    none (j / 64) (omega arith) (subst (λ (i : ℕ). Found w a i) e f)

-- 0, or more
pub none_or : (n : ℕ) → (n ≡ 0) ⊎ (0 < n)
none_or zero = inl refl
none_or (suc n) = inr (omega arith)

-- an address that is at no way is held by nobody
pub absent_none : (w : AddressTable) (M : ℕ → State) (a : ℕ) → Table w M → Absent w a → (M a).holders ≡ 0
absent_none w M a t none = ⊎_elim (λ e. e) (λ p. absurd (t.there a p (nowhere w M a t none))) (none_or (M a).holders)

-- the way of a live address is its place
pub found_placed : (w : AddressTable) (a i : ℕ) → i < 512 → i % 64 ≡ a % 64 → Found w a i → Placed w a i
found_placed w a i lt z f M t =
    (z, (λ l. f.0), (λ j jl g. t.apart j i jl lt g.1 f.1 (g.0 ∙ sym f.0)), t.here i lt f.1 ∙ ap M f.0)

-- a way that is not live may be the place of an address that is at no way
pub free_placed : (w : AddressTable) (a i : ℕ) → Absent w a → Free w a i → Placed w a i
free_placed w a i none f M t =
    (f.1, (λ l. absurd (omega (arith, l, f.2))), (λ j jl g. absurd (nowhere w M a t none j jl g)), t.idle i f.0 f.2 ∙ sym (t.absent a (absent_none w M a t none)))

-- the live ways of a set of which every way is live
pub all_live : (w : AddressTable) (z n : ℕ) → ((k : ℕ) → k < n → Live w (z + 64 * k)) → live_ways w z n ≡ n
all_live w z zero h = refl
all_live w z (suc n) h =
    let k = all_live w z n (λ k lt. h k (omega arith)) in
    let e : tally (ltb 0 (state_of (lock_at w (z + 64 * n))).holders) ≡ 1 = ap tally (lt-ltb 0 (state_of (lock_at w (z + 64 * n))).holders (h n (omega arith))) in
    omega (arith, k, e)

-- 1 if a way is live
abbrev pub one_if : AddressTable → ℕ → ℕ
one_if w i = tally (ltb 0 (state_of (lock_at w i)).holders)

-- two tables that are the same but at way i
module _ (w w' : AddressTable) (i : ℕ) (inside : i < 512) (others : (j : ℕ) → (j ≡ i → ⊥) → lock_at w' j ≡ lock_at w j) where
  same_way : (j : ℕ) → (j ≡ i → ⊥) → one_if w' j ≡ one_if w j
  same_way j ne = ap (λ (l : Lock). tally (ltb 0 (state_of l).holders)) (others j ne)

  -- where the way is not among the first n of a set, as many of them are live
  same_ways : (z n : ℕ) → ((k : ℕ) → k < n → z + 64 * k ≡ i → ⊥) → live_ways w' z n ≡ live_ways w z n
  same_ways z zero h = refl
  same_ways z (suc n) h =
      let k = same_ways z n (λ k lt. h k (omega arith)) in
      let e = same_way (z + 64 * n) (h n (omega arith)) in
      omega (arith, k, e)

  -- where it is, their number follows it
  own_ways : (z n : ℕ) → z ≡ i % 64 → i / 64 < n → live_ways w' z n + one_if w i ≡ live_ways w z n + one_if w' i
  own_ways z zero e lt = absurd (not-suc-le-zero lt)
  own_ways z (suc n) e lt = ⊎_elim
      (λ (here : n ≡ i / 64).
      let at : z + 64 * n ≡ i = omega arith in
      let k = same_ways z n (λ k kl ke. omega arith) in
      let x : one_if w (z + 64 * n) ≡ one_if w i = ap (one_if w) at in
      let y : one_if w' (z + 64 * n) ≡ one_if w' i = ap (one_if w') at in
      omega (arith, k, x, y))
      (λ (ne : n ≡ i / 64 → ⊥).
      let far : z + 64 * n ≡ i → ⊥ = λ g. ne (omega arith) in
      let k = own_ways z n e (omega (arith, lt, ne)) in
      let x = same_way (z + 64 * n) far in
      omega (arith, k, x))
      (cases_eq n (i / 64))

  -- a set's count that follows the way counts the live ways of the set again
  pub counts_on : ((z : ℕ) → z < 64 → live_at w z ≡ live_ways w z 8) →
      ((z : ℕ) → z < 64 → live_at w' z + tally (eqb (i % 64) z && ltb 0 (state_of (lock_at w i)).holders) ≡ live_at w z + tally (eqb (i % 64) z && ltb 0 (state_of (lock_at w' i)).holders)) →
      (z : ℕ) → z < 64 → live_at w' z ≡ live_ways w' z 8
  counts_on was follow z lt = ⊎_elim
      (λ (e : i % 64 ≡ z).
      let o = own_ways z 8 (sym e) (omega arith) in
      let f : live_at w' z + one_if w i ≡ live_at w z + one_if w' i = subst (λ (b : Bool). live_at w' z + tally (b && ltb 0 (state_of (lock_at w i)).holders) ≡ live_at w z + tally (b && ltb 0 (state_of (lock_at w' i)).holders)) (eq-eqb (i % 64) z e) (follow z lt) in
      let c = was z lt in
      omega (arith, o, f, c))
      (λ (ne : i % 64 ≡ z → ⊥).
      let s = same_ways z 8 (λ k kl g. ne (omega arith)) in
      let f : live_at w' z + 0 ≡ live_at w z + 0 = subst (λ (b : Bool). live_at w' z + tally (b && ltb 0 (state_of (lock_at w i)).holders) ≡ live_at w z + tally (b && ltb 0 (state_of (lock_at w' i)).holders)) (ne_eqb (i % 64) z ne) (follow z lt) in
      let c = was z lt in
      omega (arith, s, f, c))
      (cases_eq (i % 64) z)

-- the table changed at the place of an address stands for the map changed at the address
pub changed : (w w' : AddressTable) (M : ℕ → State) (a i : ℕ) (st : State) → i < 512 → Table w M → Placed w a i →
    tag_at w' i ≡ a → state_of (lock_at w' i) ≡ st → ((j : ℕ) → (j ≡ i → ⊥) → slot_at w' j ≡ slot_at w j) →
    (st.holders ≡ 0 → st ≡ vacant) →
    ((z : ℕ) → z < 64 → live_at w' z + tally (eqb (i % 64) z && ltb 0 (state_of (lock_at w i)).holders) ≡ live_at w z + tally (eqb (i % 64) z && ltb 0 (state_of (lock_at w' i)).holders)) →
    Table w' (update M a st)
changed w w' M a i st lt t placed ti gi others gone follow =
    let to : (j : ℕ) → (j ≡ i → ⊥) → tag_at w' j ≡ tag_at w j = λ j ne. ap (λ (s : Slot). s.address) (others j ne) in
    let go : (j : ℕ) → (j ≡ i → ⊥) → lock_at w' j ≡ lock_at w j = λ j ne. ap (λ (s : Slot). s.lock) (others j ne) in
    let p = placed M t in
    let back : (j : ℕ) → (j ≡ i → ⊥) → Live w' j → Live w j = λ j ne l. subst (λ (g : Lock). 0 < (state_of g).holders) (go j ne) l in
    let far : (j : ℕ) → j < 512 → (j ≡ i → ⊥) → Live w j → tag_at w j ≡ a → ⊥ = λ j jl ne l e. ne (p.2 j jl (e, l)) in
    record {
      here = λ j jl l. ⊎_elim
          (λ (e : j ≡ i). subst (λ (k : ℕ). state_of (lock_at w' k) ≡ update M a st (tag_at w' k)) (sym e) (gi ∙ sym (update_same M a st (tag_at w' i) ti)))
          (λ ne. ap state_of (go j ne) ∙ t.here j jl (back j ne l) ∙ ap M (sym (to j ne)) ∙ sym (update_other M a st (tag_at w' j) (λ e. far j jl ne (back j ne l) (sym (to j ne) ∙ e))))
          (cases_eq j i);
      there = λ b h none. ⊎_elim
          (λ (e : b ≡ a). let s : 0 < st.holders = subst (λ (x : State). 0 < x.holders) (update_same M a st b e) h in none i lt (ti ∙ sym e, subst (λ (x : State). 0 < x.holders) (sym gi) s))
          (λ ne. t.there b (subst (λ (y : State). 0 < y.holders) (update_other M a st b ne) h) (λ j jl f.
          let nj : j ≡ i → ⊥ = λ e. ne (sym f.0 ∙ ap (tag_at w) e ∙ p.1 (subst (λ (k : ℕ). Live w k) e f.1)) in
          none j jl (to j nj ∙ f.0, subst (λ (g : Lock). 0 < (state_of g).holders) (sym (go j nj)) f.1)))
          (cases_eq b a);
      apart = λ j k jl kl lj lk e. ⊎_elim
          (λ (ej : j ≡ i). ⊎_elim
          (λ (ek : k ≡ i). ej ∙ sym ek)
          (λ nk. absurd (far k kl nk (back k nk lk) (sym (to k nk) ∙ sym e ∙ ap (tag_at w') ej ∙ ti)))
          (cases_eq k i))
          (λ nj. ⊎_elim
          (λ (ek : k ≡ i). absurd (far j jl nj (back j nj lj) (sym (to j nj) ∙ e ∙ ap (tag_at w') ek ∙ ti)))
          (λ nk. t.apart j k jl kl (back j nj lj) (back k nk lk) (sym (to j nj) ∙ e ∙ to k nk))
          (cases_eq k i))
          (cases_eq j i);
      home = λ j jl l. ⊎_elim
          (λ (e : j ≡ i). ap (λ n. n % 64) (ap (tag_at w') e ∙ ti) ∙ sym p.0 ∙ ap (λ n. n % 64) (sym e))
          (λ ne. ap (λ n. n % 64) (to j ne) ∙ t.home j jl (back j ne l))
          (cases_eq j i);
      idle = λ j jl z. ⊎_elim
          (λ (e : j ≡ i). ap (λ k. state_of (lock_at w' k)) e ∙ gi ∙ gone (ap (λ (x : State). x.holders) (sym gi) ∙ ap (λ k. (state_of (lock_at w' k)).holders) (sym e) ∙ z))
          (λ ne. ap state_of (go j ne) ∙ t.idle j jl (ap (λ (g : Lock). (state_of g).holders) (sym (go j ne)) ∙ z))
          (cases_eq j i);
      absent = λ b z. ⊎_elim
          (λ (e : b ≡ a). update_same M a st b e ∙ gone (ap (λ (x : State). x.holders) (sym (update_same M a st b e)) ∙ z))
          (λ ne. update_other M a st b ne ∙ t.absent b (ap (λ (x : State). x.holders) (sym (update_other M a st b ne)) ∙ z))
          (cases_eq b a);
      counted = counts_on w w' i lt go t.counted follow;
    }

-- after a claim somebody holds the address
pub joined_live : (st : State) (c : Claim) → (st.holders ≡ 0 → st ≡ vacant) → 0 < (joined_by st c).holders
joined_live st c gone =
    ⊎_elim
    (λ (o : open_to st c.writes ≡ true). let e : (joined_by st c).holders ≡ suc st.holders = ap (λ (x : State). x.holders) (cond-true _ _ _ o) in omega (arith, e))
    (λ (o : open_to st c.writes ≡ false).
    let e : (joined_by st c).holders ≡ st.holders = ap (λ (x : State). x.holders) (cond-false _ _ _ o) in
    ⊎_elim (λ (n : st.holders ≡ 0). absurd (both_ways (open_to st c.writes) o (ap (λ (x : State). open_to x c.writes) (gone n)))) (λ p. omega (arith, e, p)) (none_or st.holders))
    (cases_Bool (open_to st c.writes))

-- an address that nobody holds after all that may hold do has nobody that waits
pub settle_gone : (n : ℕ) (q : List Claim) → (settle n false q).holders ≡ 0 → settle n false q ≡ vacant
settle_gone n [] z = ap {B = State} (λ (k : ℕ). record { holders = k; writing = false; waiting = [] }) z
settle_gone zero (c ∷ q) z = absurd (let h = settle_holds 1 c.writes q in omega (arith, h, z))
settle_gone (suc n) (c ∷ q) z = absurd (let h = settle_holds (suc n) false (c ∷ q) in omega (arith, h, z))

-- what a claim on an address does to the table, at the place of the address
pub joins : (w w' : AddressTable) (M : ℕ → State) (a i : ℕ) (c : Claim) (r : Claimed) → i < 512 → Table w M → Placed w a i →
    (M a).holders + length (M a).waiting < 256 →
    tag_at w' i ≡ a →
    ((state_of (lock_at w i)).holders < 1000 → length (state_of (lock_at w i)).waiting < 256 → state_of (lock_at w' i) ≡ joined_by (state_of (lock_at w i)) c) →
    ((j : ℕ) → (j ≡ i → ⊥) → slot_at w' j ≡ slot_at w j) →
    ((z : ℕ) → z < 64 → live_at w' z ≡ live_at w z + tally (eqb (i % 64) z && not (ltb 0 (state_of (lock_at w i)).holders))) →
    r.fresh ≡ not (ltb 0 (state_of (lock_at w i)).holders) → r.holds ≡ open_to (state_of (lock_at w i)) c.writes →
    Joined w w' M a c r
joins w w' M a i c r lt t p size tag here others live fresh holds =
    let q = p M t in
    let at : state_of (lock_at w i) ≡ M a = q.3 in
    let h : (state_of (lock_at w i)).holders ≡ (M a).holders = ap (λ (s : State). s.holders) at in
    let l : length (state_of (lock_at w i)).waiting ≡ length (M a).waiting = ap (λ (s : State). length s.waiting) at in
    let now : state_of (lock_at w' i) ≡ joined_by (M a) c = here (omega (arith, h, size)) (omega (arith, l, size)) ∙ ap (λ (s : State). joined_by s c) at in
    let alive : 0 < (joined_by (M a) c).holders = joined_live (M a) c (t.absent a) in
    let up : ltb 0 (state_of (lock_at w' i)).holders ≡ true = lt-ltb 0 (state_of (lock_at w' i)).holders (subst (λ (s : State). 0 < s.holders) (sym now) alive) in
    record {
      fresh = fresh ∙ ap (λ n. not (ltb 0 n)) h;
      holds = holds ∙ ap (λ (s : State). open_to s c.writes) at;
      table = changed w w' M a i (joined_by (M a) c) lt t p tag now others (λ z. absurd (omega (arith, alive, z)))
          (λ z zl. follow (live_at w' z) (live_at w z) (eqb (i % 64) z) (ltb 0 (state_of (lock_at w i)).holders) (ltb 0 (state_of (lock_at w' i)).holders) up (live z zl));
      live = λ z zl. live z zl ∙ ap (λ (k : ℕ). live_at w z + tally (eqb k z && not (ltb 0 (state_of (lock_at w i)).holders))) q.0 ∙ ap (λ (n : ℕ). live_at w z + tally (eqb (a % 64) z && not (ltb 0 n))) h;
    }
  where
    follow : (n' n : ℕ) (b l l' : Bool) → l' ≡ true → n' ≡ n + tally (b && not l) → n' + tally (b && l) ≡ n + tally (b && l')
    follow n' n false l l' u e = omega (arith, e)
    follow n' n true true l' u e = let k : tally l' ≡ 1 = ap tally u in omega (arith, e, k)
    follow n' n true false l' u e = let k : tally l' ≡ 1 = ap tally u in omega (arith, e, k)

-- a way can be found for an address that is live, or whose set has fewer than 8 live addresses
pub room : (w : AddressTable) (M : ℕ → State) (a : ℕ) → Table w M → ((M a).holders ≡ 0 → live_at w (a % 64) < 8) → Absent w a → Full w a → ⊥
room w M a t few none full =
    let f = few (absent_none w M a t none) in
    let c = t.counted (a % 64) (omega arith) in
    let e = all_live w (a % 64) 8 full in
    omega (arith, f, c, e)

-- a test counts at most once
pub tally_most : (b : Bool) → tally b ≤ 1
tally_most true = omega arith
tally_most false = omega arith

-- of the first n ways of a set, at most n are live
pub most_live : (w : AddressTable) (z n : ℕ) → live_ways w z n ≤ n
most_live w z zero = omega arith
most_live w z (suc n) = let k = most_live w z n in let e = tally_most (ltb 0 (state_of (lock_at w (z + 64 * n))).holders) in omega (arith, k, e)

-- a test that fails counts nothing more
pub count_same : (n : ℕ) (b l : Bool) → l ≡ true → n ≡ n + tally (b && not l)
count_same n false l u = omega arith
count_same n true l u = let k : tally (not l) ≡ 0 = ap (λ v. tally (not v)) u in omega (arith, k)

-- one that holds counts one more
pub count_more : (n' n : ℕ) (b l : Bool) → l ≡ false → n' ≡ cond b (n + 1) n → n' ≡ n + tally (b && not l)
count_more n' n false l u e = omega (arith, e)
count_more n' n true l u e = let k : tally (not l) ≡ 1 = ap (λ v. tally (not v)) u in omega (arith, k, e)
