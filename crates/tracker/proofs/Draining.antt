-- What lasts while those that may hold an address become holders, and what a departure comes to. Assumes nothing.
use Rattle.std.proofs.Common.{◌≡◌, ℕ, zero, suc, ◌+◌, ◌-◌, ◌*◌, ◌/◌, ◌%◌, ◌<◌, ◌≤◌, Bool, true, false, not, ◌&&◌, eqb, ltb, List, length, get_or, Some, None, vec_items, Option, sym, refl, ap, ◌∙◌, subst, ⊎_elim, not-suc-le-zero, arith}
use Rattle.std.proofs.lemmas.Bool.{cases_eq, eqb-true, lt-ltb}
use Rattle.acceptance.specs.declared.Acceptance.{Acceptance}
use Rattle.acceptance.specs.Listed.{place_of}
use Rattle.roll.specs.Tables.{tally}
use Rattle.claims.specs.Claims.{State, claims, settled, dropped, promotes, moves, released, freed, less}
use Rattle.claims.proofs.Moves.{some_moved, none_settled, released_is}
use Rattle.tracker.specs.State.{state_of, blank}
use Rattle.tracker.specs.Table.{Table, Found, ChangesOnlyWay, slot_at, tag_at, lock_at, live_at, live_ways}
use Rattle.tracker.specs.Tracked.{blocked_at}
use Rattle.tracker.specs.Departures.{Leaves, Departed, Ready, Drained, Lowered, Woken}
use Rattle.tracker.specs.declared.span.Span.{Span}
use Rattle.tracker.specs.declared.ways.AddressTable.{AddressTable}
use Rattle.tracker.specs.declared.ways.Slot.{Slot}
use Rattle.tracker.specs.declared.tracker.Tracker.{Tracker}
use Rattle.tracker.proofs.Tables.{changed, found_placed, settle_gone, one_if}

-- nobody is woken
pub woken_none : (t : Tracker) (o : Acceptance) (sp : Span) → Woken t t o sp sp
woken_none t o sp = record { covered = λ s low ne z. absurd (ne z); stays = λ p c. c }

-- the seats woken before and after
pub woken_more : (t t' t'' : Tracker) (o : Acceptance) (sp sp' sp'' : Span) → Woken t t' o sp sp' → Woken t' t'' o sp' sp'' → Woken t t'' o sp sp''
woken_more t t' t'' o sp sp' sp'' f g =
    record {
      covered = λ s low ne z. ⊎_elim
          (λ (e : blocked_at t' s ≡ 0). g.stays (place_of o s) (f.covered s low ne e))
          (λ (n : blocked_at t' s ≡ 0 → ⊥). g.covered s low n z)
          (cases_eq (blocked_at t' s) 0);
      stays = λ p c. g.stays p (f.stays p c);
    }

-- tables with the same counts
pub woken_same : (t t₁ t' : Tracker) (o : Acceptance) (sp sp' : Span) → vec_items t₁.blocked ≡ vec_items t.blocked → Woken t₁ t' o sp sp' → Woken t t' o sp sp'
woken_same t t₁ t' o sp sp' e f =
    record { covered = λ s low ne z. f.covered s low (λ n. ne (ap (λ bs. get_or bs s 0) (sym e) ∙ n)) z; stays = f.stays }

-- the same after
pub woken_end : (t t' t₁ : Tracker) (o : Acceptance) (sp sp' : Span) → vec_items t₁.blocked ≡ vec_items t'.blocked → Woken t t' o sp sp' → Woken t t₁ o sp sp'
woken_end t t' t₁ o sp sp' e f =
    record { covered = λ s low ne z. f.covered s low ne (ap (λ bs. get_or bs s 0) (sym e) ∙ z); stays = f.stays }

-- two changes of one way
only_then : (w w₁ w₂ : AddressTable) (i : ℕ) → ChangesOnlyWay w w₁ i → ChangesOnlyWay w₁ w₂ i → ChangesOnlyWay w w₂ i
only_then w w₁ w₂ i p q = record { others = λ j ne. q.others j ne ∙ p.others j ne; live = q.live ∙ p.live }

-- since t, at way i
pub record Draining (t t' : Tracker) (i : ℕ) : Type 0 where
  pub tag : tag_at t'.table i ≡ tag_at t.table i
  pub rest : ChangesOnlyWay t.table t'.table i
  pub versions : t'.used ≡ t.used
  pub keeps : settled (state_of (lock_at t'.table i)) ≡ settled (state_of (lock_at t.table i))
  pub few : (state_of (lock_at t'.table i)).holders + length (state_of (lock_at t'.table i)).waiting ≤ 512
  pub counts : (s : ℕ) → s < 256 → blocked_at t' s + claims s (state_of (lock_at t.table i)).waiting ≡ blocked_at t s + claims s (state_of (lock_at t'.table i)).waiting
  pub owed : (s : ℕ) → s < 256 → claims s (state_of (lock_at t'.table i)).waiting ≤ blocked_at t' s

-- at the start
pub draining_start : (t : Tracker) (i : ℕ) → Ready t i → Draining t t i
draining_start t i r = record { tag = refl; rest = record { others = λ j ne. refl; live = refl }; versions = refl; keeps = refl; few = r.few; counts = λ s low. refl; owed = r.owed }

-- one more becomes a holder, and the count of its seat falls
pub draining_more : (t t' t₁ t'' : Tracker) (i : ℕ) (r : Option ℕ) (seat : ℕ) → Draining t t' i → Lowered t₁ t'' seat →
    r ≡ promotes (state_of (lock_at t'.table i)) → r ≡ Some seat → tag_at t₁.table i ≡ tag_at t'.table i →
    ((state_of (lock_at t'.table i)).holders < 1000 → state_of (lock_at t₁.table i) ≡ moves (state_of (lock_at t'.table i))) → ChangesOnlyWay t'.table t₁.table i →
    t₁.used ≡ t'.used → vec_items t₁.blocked ≡ vec_items t'.blocked → Draining t t'' i
draining_more t t' t₁ t'' i r seat d l answer e tag here rest used blocked =
    let st = state_of (lock_at t'.table i) in
    let m = some_moved st seat (sym answer ∙ e) in
    let f = d.few in
    let now : state_of (lock_at t''.table i) ≡ moves st = ap (λ (x : AddressTable). state_of (lock_at x i)) l.table ∙ here (omega (arith, f)) in
    let h : (state_of (lock_at t''.table i)).holders ≡ (moves st).holders = ap (λ (s : State). s.holders) now in
    let n : length (state_of (lock_at t''.table i)).waiting ≡ length (moves st).waiting = ap (λ (s : State). length s.waiting) now in
    let c : (s : ℕ) → claims s (state_of (lock_at t''.table i)).waiting ≡ claims s (moves st).waiting = λ s. ap (λ (x : State). claims s x.waiting) now in
    let fell : (s : ℕ) → blocked_at t'' s ≡ blocked_at t' s - tally (eqb seat s) = λ s. l.counts s ∙ ap (λ bs. get_or bs s 0 - tally (eqb seat s)) blocked in
    record {
      tag = ap (λ (x : AddressTable). tag_at x i) l.table ∙ tag ∙ d.tag;
      rest = subst (λ (x : AddressTable). ChangesOnlyWay t.table x i) (sym l.table) (only_then t.table t'.table t₁.table i d.rest rest);
      versions = l.versions ∙ used ∙ d.versions;
      keeps = ap settled now ∙ m.keeps ∙ d.keeps;
      few = (let k = m.holds in let s = m.shorter in omega (arith, f, h, n, k, s));
      counts = λ s low. (let a = fell s in let b = m.fewer s in let o = d.owed s low in let q = d.counts s low in let p = c s in omega (arith, a, b, o, q, p));
      owed = λ s low. (let a = fell s in let b = m.fewer s in let o = d.owed s low in let p = c s in omega (arith, a, b, o, p));
    }

-- nobody may become a holder any more
pub draining_end : (t t' t₁ : Tracker) (i : ℕ) (r : Option ℕ) → Draining t t' i →
    r ≡ promotes (state_of (lock_at t'.table i)) → r ≡ None → tag_at t₁.table i ≡ tag_at t'.table i →
    ((state_of (lock_at t'.table i)).holders < 1000 → state_of (lock_at t₁.table i) ≡ moves (state_of (lock_at t'.table i))) → ChangesOnlyWay t'.table t₁.table i →
    t₁.used ≡ t'.used → vec_items t₁.blocked ≡ vec_items t'.blocked → Drained t t₁ i
draining_end t t' t₁ i r d answer e tag here rest used blocked =
    let st = state_of (lock_at t'.table i) in
    let n = none_settled st (sym answer ∙ e) in
    let f = d.few in
    let same : st ≡ settled (state_of (lock_at t.table i)) = sym n.0 ∙ d.keeps in
    record {
      tag = tag ∙ d.tag;
      rest = only_then t.table t'.table t₁.table i d.rest rest;
      versions = used ∙ d.versions;
      here = here (omega (arith, f)) ∙ n.1 ∙ same;
      counts = λ s low. ap (λ bs. get_or bs s 0 + claims s (state_of (lock_at t.table i)).waiting) blocked ∙ d.counts s low ∙ ap (λ (x : State). blocked_at t s + claims s x.waiting) same;
    }

-- a live way is among the live ways of its set
pub live_has : (w : AddressTable) (i n : ℕ) → i / 64 < n → one_if w i ≤ live_ways w (i % 64) n
live_has w i zero lt = absurd (not-suc-le-zero lt)
live_has w i (suc n) lt = ⊎_elim
    (λ (e : n ≡ i / 64). let at : i % 64 + 64 * n ≡ i = omega arith in let x : one_if w (i % 64 + 64 * n) ≡ one_if w i = ap (one_if w) at in omega (arith, x))
    (λ ne. let k = live_has w i n (omega (arith, lt, ne)) in omega (arith, k))
    (cases_eq n (i / 64))

-- a holder leaves, all that may hold the address then do, and the set's count follows
pub departs : (t t₁ t₂ t₃ : Tracker) (M : ℕ → State) (a i : ℕ) → i < 512 → i % 64 ≡ a % 64 → Found t.table a i → Table t.table M → Leaves (M a) t →
    tag_at t₁.table i ≡ tag_at t.table i → state_of (lock_at t₁.table i) ≡ dropped (state_of (lock_at t.table i)) → ChangesOnlyWay t.table t₁.table i →
    vec_items t₁.blocked ≡ vec_items t.blocked → t₁.used ≡ t.used - freed (state_of (lock_at t.table i)) →
    (Ready t₁ i → Drained t₁ t₂ i) →
    vec_items t₃.table.slots ≡ vec_items t₂.table.slots →
    ((z : ℕ) → live_at t₃.table z ≡ live_at t₂.table z - tally (eqb (i % 64) z && not (ltb 0 (state_of (lock_at t₂.table i)).holders))) →
    vec_items t₃.blocked ≡ vec_items t₂.blocked → t₃.used ≡ t₂.used → Departed t t₃ M a
departs t t₁ t₂ t₃ M a i lt z f table leaves tag₁ here₁ rest₁ blocked₁ used₁ drained slots₃ live₃ blocked₃ used₃ =
    let w = t.table in
    let p = found_placed w a i lt z f in
    let at : state_of (lock_at w i) ≡ M a = (p M table).3 in
    let st₁ : state_of (lock_at t₁.table i) ≡ dropped (M a) = here₁ ∙ ap dropped at in
    let ready : Ready t₁ i = record {
      few = (let h : (state_of (lock_at t₁.table i)).holders ≡ (M a).holders - 1 = ap (λ (s : State). s.holders) st₁ in
          let l : length (state_of (lock_at t₁.table i)).waiting ≡ length (M a).waiting = ap (λ (s : State). length s.waiting) st₁ in
          let k = leaves.few in omega (arith, h, l, k));
      owed = λ s low. (let c : claims s (state_of (lock_at t₁.table i)).waiting ≡ claims s (M a).waiting = ap (λ (x : State). claims s x.waiting) st₁ in
          let b : blocked_at t₁ s ≡ blocked_at t s = ap (λ bs. get_or bs s 0) blocked₁ in
          let o = leaves.owed s low in omega (arith, c, b, o));
    } in
    let d = drained ready in
    let end : settled (state_of (lock_at t₁.table i)) ≡ released (M a) = ap settled st₁ ∙ sym (released_is (M a)) in
    let slot₃ : (j : ℕ) → slot_at t₃.table j ≡ slot_at t₂.table j = λ j. ap (λ (ss : List Slot). get_or ss j (record { address = 0; lock = blank })) slots₃ in
    let st₃ : state_of (lock_at t₃.table i) ≡ released (M a) = ap (λ (s : Slot). state_of s.lock) (slot₃ i) ∙ d.here ∙ end in
    let rest₂ = only_then w t₁.table t₂.table i rest₁ d.rest in
    let st₂ : state_of (lock_at t₂.table i) ≡ released (M a) = d.here ∙ end in
    let lives : (y : ℕ) → live_at t₂.table y ≡ live_at w y = λ y. ap (λ ns. get_or ns y 0) rest₂.live in
    let h₂ : (state_of (lock_at t₂.table i)).holders ≡ (released (M a)).holders = ap (λ (s : State). s.holders) st₂ in
    let h₃ : (state_of (lock_at t₃.table i)).holders ≡ (released (M a)).holders = ap (λ (s : State). s.holders) st₃ in
    let was : ltb 0 (state_of (lock_at w i)).holders ≡ true = lt-ltb 0 (state_of (lock_at w i)).holders f.1 in
    let now : (y : ℕ) → live_at t₃.table y ≡ live_at w y - tally (eqb (i % 64) y && not (ltb 0 (released (M a)).holders)) =
    λ y. live₃ y ∙ ap (λ n. n - tally (eqb (i % 64) y && not (ltb 0 (state_of (lock_at t₂.table i)).holders))) (lives y) ∙ ap (λ n. live_at w y - tally (eqb (i % 64) y && not (ltb 0 n))) h₂ in
    let some : (y : ℕ) → y < 64 → i % 64 ≡ y → 1 ≤ live_at w y =
    λ y yl e. (let c = table.counted y yl in let k = live_has w i 8 (omega arith) in let o : one_if w i ≡ 1 = ap tally was in
    let g : live_ways w (i % 64) 8 ≡ live_ways w y 8 = ap (λ n. live_ways w n 8) e in omega (arith, c, k, o, g)) in
    record {
      table = changed w t₃.table M a i (released (M a)) lt table p
          (ap (λ (s : Slot). s.address) (slot₃ i) ∙ d.tag ∙ tag₁ ∙ f.0)
          st₃
          (λ j ne. slot₃ j ∙ rest₂.others j ne)
          (settle_gone (less (M a).holders) (M a).waiting)
          (λ y yl. follow (live_at t₃.table y) (live_at w y) (eqb (i % 64) y) (ltb 0 (state_of (lock_at w i)).holders) (ltb 0 (state_of (lock_at t₃.table i)).holders) (ltb 0 (released (M a)).holders) was (ap (ltb 0) h₃) (λ e. some y yl (eqb-true (i % 64) y e)) (now y));
      counts = λ s low.
          (let q = d.counts s low in
          let b₁ : blocked_at t₁ s ≡ blocked_at t s = ap (λ bs. get_or bs s 0) blocked₁ in
          let b₃ : blocked_at t₃ s ≡ blocked_at t₂ s = ap (λ bs. get_or bs s 0) blocked₃ in
          let c : claims s (state_of (lock_at t₁.table i)).waiting ≡ claims s (M a).waiting = ap (λ (x : State). claims s x.waiting) st₁ in
          let e : claims s (settled (state_of (lock_at t₁.table i))).waiting ≡ claims s (released (M a)).waiting = ap (λ (x : State). claims s x.waiting) end in
          omega (arith, q, b₁, b₃, c, e));
      versions = used₃ ∙ d.versions ∙ used₁ ∙ ap (λ (x : State). t.used - freed x) at;
      addresses = λ y yl. now y ∙ ap (λ (k : ℕ). live_at w y - tally (eqb k y && not (ltb 0 (released (M a)).holders))) z;
    }
  where
    follow : (n' n : ℕ) (b l l' k : Bool) → l ≡ true → l' ≡ k → (b ≡ true → 1 ≤ n) → n' ≡ n - tally (b && not k) → n' + tally (b && l) ≡ n + tally (b && l')
    follow n' n false l l' k u e p q = omega (arith, q)
    follow n' n true l l' true u e p q = let x : tally l ≡ 1 = ap tally u in let y : tally l' ≡ 1 = ap tally e in omega (arith, q, x, y)
    follow n' n true l l' false u e p q = let x : tally l ≡ 1 = ap tally u in let y : tally l' ≡ 0 = ap tally e in let o = p refl in omega (arith, q, x, y, o)
