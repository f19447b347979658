-- The first that waits becomes a holder, one after the other, until all that may hold the address do. Assumes nothing.
use Rattle.std.proofs.Common.{◌≡◌, ℕ, zero, suc, ◌+◌, ◌-◌, ◌<◌, Bool, true, false, cond, eqb, List, [], ◌∷◌, length, get_or, set, Some, None, Option, sym, refl, ap, ◌∙◌, subst, ⊎_elim, arith, get_or-set_other, get_or-set_same}
use Rattle.std.proofs.lemmas.Bool.{cases_eq, ne_eqb, eq-eqb, cond-true, cond-false}
use Rattle.roll.specs.Tables.{tally}
use Rattle.claims.specs.declared.Claim.{Claim}
use Rattle.claims.specs.Claims.{State, claims, vacant, neither, may, settle, less, released, first_may, first_moves, promotes, moves, dropped, settled}

-- if no claim is the next to hold, all that may hold do
pub none_settled : (st : State) → promotes st ≡ None → (settled st ≡ st) × (moves st ≡ st)
none_settled st h = by st.holders st.writing st.waiting h
  where
    choose : (n : ℕ) (wr : Bool) (c : Claim) (q : List Claim) (b : Bool) (u : State) → ◌≡◌ {A = Option ℕ} (cond b (Some c.seat) None) None →
        let stay : State = record { holders = n; writing = wr; waiting = c ∷ q } in
        (cond b u stay ≡ stay) × (cond b (record { holders = suc n; writing = c.writes; waiting = q }) stay ≡ stay)
    choose n wr c q true u e = absurd (let z : ◌≡◌ {A = ℕ} 0 1 = cc in omega arith)
    choose n wr c q false u e = (refl, refl)

    by : (n : ℕ) (wr : Bool) (q : List Claim) → first_may n wr q ≡ None →
        (settle n wr q ≡ record { holders = n; writing = wr; waiting = q }) × (first_moves n wr q ≡ record { holders = n; writing = wr; waiting = q })
    by n wr [] e = (refl, refl)
    by n wr (c ∷ q) e = choose n wr c q (may n wr c.writes) (settle (suc n) c.writes q) e

-- a claim of seat t became a holder
pub record Moved (st : State) (t : ℕ) : Type 0 where
  pub keeps : settled (moves st) ≡ settled st
  pub fewer : (u : ℕ) → claims u st.waiting ≡ claims u (moves st).waiting + tally (eqb t u)
  pub shorter : length st.waiting ≡ suc (length (moves st).waiting)
  pub holds : (moves st).holders ≡ suc st.holders

-- if there is a next one, it becomes a holder
pub some_moved : (st : State) (t : ℕ) → promotes st ≡ Some t → Moved st t
some_moved st t h =
    let r = by st.holders st.writing st.waiting h in
    record { keeps = r.0; fewer = r.1; shorter = r.2; holds = r.3 }
  where
    choose : (n : ℕ) (wr : Bool) (c : Claim) (q : List Claim) (b : Bool) → may n wr c.writes ≡ b →
        ◌≡◌ {A = Option ℕ} (cond b (Some c.seat) None) (Some t) →
        let next : State = cond b (record { holders = suc n; writing = c.writes; waiting = q }) (record { holders = n; writing = wr; waiting = c ∷ q }) in
        (settled next ≡ cond b (settle (suc n) c.writes q) (record { holders = n; writing = wr; waiting = c ∷ q }))
        × ((u : ℕ) → claims u (c ∷ q) ≡ claims u next.waiting + tally (eqb t u))
        × (length (c ∷ q) ≡ suc (length next.waiting))
        × (next.holders ≡ suc n)
    choose n wr c q true m e = let s : c.seat ≡ t = cc in
        (refl, (λ u. let k : tally (eqb c.seat u) ≡ tally (eqb t u) = ap (λ v. tally (eqb v u)) s in omega (arith, k)), refl, refl)
    choose n wr c q false m e = absurd (let z : ◌≡◌ {A = ℕ} 0 1 = cc in omega arith)

    by : (n : ℕ) (wr : Bool) (q : List Claim) → first_may n wr q ≡ Some t →
        (settled (first_moves n wr q) ≡ settle n wr q)
        × ((u : ℕ) → claims u q ≡ claims u (first_moves n wr q).waiting + tally (eqb t u))
        × (length q ≡ suc (length (first_moves n wr q).waiting))
        × ((first_moves n wr q).holders ≡ suc n)
    by n wr [] e = absurd (let z : ◌≡◌ {A = ℕ} 0 1 = cc in omega arith)
    by n wr (c ∷ q) e = choose n wr c q (may n wr c.writes) refl e

-- the first that waits may hold
pub goes : (n : ℕ) (wr : Bool) (q : List Claim) (x : Claim) (ys : List Claim) → q ≡ x ∷ ys → may n wr x.writes ≡ true →
    (first_may n wr q ≡ Some x.seat) × (first_moves n wr q ≡ record { holders = suc n; writing = x.writes; waiting = ys })
goes n wr q x ys e m = (ap (first_may n wr) e ∙ cond-true _ _ _ m, ap (first_moves n wr) e ∙ cond-true _ _ _ m)

-- the first that waits may not hold
pub stays : (n : ℕ) (wr : Bool) (q : List Claim) (x : Claim) (ys : List Claim) → q ≡ x ∷ ys → may n wr x.writes ≡ false →
    (first_may n wr q ≡ None) × (first_moves n wr q ≡ record { holders = n; writing = wr; waiting = q })
stays n wr q x ys e m = (
  ap (first_may n wr) e ∙ cond-false _ _ _ m,
  ap (first_moves n wr) e ∙ cond-false _ _ _ m
      ∙ ap {B = State} (λ (zs : List Claim). record { holders = n; writing = wr; waiting = zs }) (sym e),
)

-- if nobody holds the address after the first that waits held if it may, nobody waits
gone_by : (n : ℕ) (q : List Claim) → (first_moves n false q).holders ≡ 0 → first_moves n false q ≡ vacant
gone_by n [] z = ap {B = State} (λ (k : ℕ). record { holders = k; writing = false; waiting = [] }) z
gone_by zero (c ∷ q) z = absurd (omega (arith, z))
gone_by (suc n) (c ∷ q) z = absurd (never (neither false c.writes) z)
  where
    never : (b : Bool) →
        let goes : State = record { holders = suc (suc n); writing = c.writes; waiting = q } in
        let stays : State = record { holders = suc n; writing = false; waiting = c ∷ q } in
        (cond b goes stays).holders ≡ 0 → ⊥
    never true h = omega (arith, h)
    never false h = omega (arith, h)

-- after a holder left and the next one holds: if then nobody holds, nobody waits
pub moves_gone : (st : State) → st.writing ≡ false → (moves st).holders ≡ 0 → moves st ≡ vacant
moves_gone st w z =
    let e : moves st ≡ first_moves st.holders false st.waiting = ap (λ b. first_moves st.holders b st.waiting) w in
    e ∙ gone_by st.holders st.waiting (ap (λ (x : State). x.holders) (sym e) ∙ z)

-- holders stay
live_by : (n : ℕ) (wr : Bool) (q : List Claim) → 0 < n → (first_moves n wr q).holders ≡ 0 → ⊥
live_by n wr [] p z = omega (arith, p, z)
live_by n wr (c ∷ q) p z = never (may n wr c.writes) z
  where
    never : (b : Bool) →
        let goes : State = record { holders = suc n; writing = c.writes; waiting = q } in
        let stays : State = record { holders = n; writing = wr; waiting = c ∷ q } in
        (cond b goes stays).holders ≡ 0 → ⊥
    never true h = omega (arith, h)
    never false h = omega (arith, p, h)

-- an address that somebody holds does not become one that nobody holds
pub moves_live : (st : State) → 0 < st.holders → (moves st).holders ≡ 0 → moves st ≡ vacant
moves_live st p z = absurd (live_by st.holders st.writing st.waiting p z)

-- one less is the difference to 1
less_is : (n : ℕ) → less n ≡ n - 1
less_is zero = refl
less_is (suc n) = omega arith

-- a holder leaves, and then all that may hold do
pub released_is : (st : State) → released st ≡ settled (dropped st)
released_is st = ap (λ n. settled (record { holders = n; writing = false; waiting = st.waiting })) (less_is st.holders)

-- a list of counts, one for each seat, with one fewer at a seat
pub one_fewer : (bs : List ℕ) (t : ℕ) → t < length bs → 0 < get_or bs t 0 → (u : ℕ) → get_or bs u 0 ≡ get_or (set bs t (get_or bs t 0 - 1)) u 0 + tally (eqb t u)
one_fewer bs t lb pos u = ⊎_elim
    (λ (g : u ≡ t). subst (λ (x : ℕ). get_or bs x 0 ≡ get_or (set bs t (get_or bs t 0 - 1)) x 0 + tally (eqb t x)) (sym g)
    (let a = get_or-set_same bs t (get_or bs t 0 - 1) 0 lb in let z : tally (eqb t t) ≡ 1 = ap tally (eq-eqb t t refl) in omega (arith, a, z, pos)))
    (λ (ne : u ≡ t → ⊥). let a = get_or-set_other bs t u (get_or bs t 0 - 1) 0 ne in let z : tally (eqb t u) ≡ 0 = ap tally (ne_eqb t u (λ x. ne (sym x))) in
    omega (arith, a, z))
    (cases_eq u t)
