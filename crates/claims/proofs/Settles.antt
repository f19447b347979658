-- What a queue comes to when a claim joins it or a holder leaves, and that the blocked claims are those that wait. Assumes nothing.
use Rattle.std.proofs.Common.{◌≡◌, ℕ, zero, suc, ◌+◌, Bool, true, false, cond, not, ◌&&◌, ◌||◌, eqb, List, [], ◌∷◌, ◌++◌, sym, refl, ap, ◌∙◌, subst, zero-add}
use mathlib.Core.Bool.{or-true}
use Rattle.std.proofs.lemmas.Bool.{both_ways, or_parts, cond_both}
use Rattle.roll.specs.Tables.{tally}
use Rattle.claims.specs.declared.Claim.{Claim}
use Rattle.claims.specs.Claims.{State, against, stuck, claims, may, settle, canon, open_to, joined_by, released}

-- both branches of a test, seen through a function
both : {A B : Type 0} (f : A → B) (b : Bool) (x y : B) (u v : A) → (b ≡ true → x ≡ f u) → (b ≡ false → y ≡ f v) → cond b x y ≡ f (cond b u v)
both f true x y u v h k = h refl
both f false x y u v h k = k refl

-- a claim joins the end
pub settle_join : (n : ℕ) (wr : Bool) (q : List Claim) (c : Claim) → settle n wr (q ++ (c ∷ [])) ≡ joined_by (settle n wr q) c
settle_join n wr [] c = refl
settle_join n wr (d ∷ q) c =
    both (λ st. joined_by st c) (may n wr d.writes) _ _ _ _ (λ h. settle_join (suc n) d.writes q c) (λ h. refl)

-- the same of a whole queue
pub canon_join : (q : List Claim) (c : Claim) → canon (q ++ (c ∷ [])) ≡ joined_by (canon q) c
canon_join q c = settle_join 0 false q c

-- do n holders that write, or do not, conflict with a claim?
abbrev held : ℕ → Bool → Bool → Bool
held zero wr w = false
held (suc n) wr w = w || wr

-- one more claim holds at once exactly if it conflicts with no earlier one
taken : (n : ℕ) (wr d w r o : Bool) → may n wr d ≡ true → o ≡ not (held (suc n) d w || r) → o ≡ not (held n wr w || ((w || d) || r))
taken zero wr d w r o m e = e
taken (suc n) true d w r o m e = absurd (both_ways false refl m)
taken (suc n) false true w r o m e = absurd (both_ways false refl m)
taken (suc n) false false true r o m e = e
taken (suc n) false false false r o m e = e

-- behind a claim that waits, one more claim waits
shut : (n : ℕ) (wr d w r : Bool) → may n wr d ≡ false → false ≡ not (held n wr w || ((w || d) || r))
shut zero wr d w r m = absurd (both_ways true m refl)
shut (suc n) true d true r m = refl
shut (suc n) true d false r m = refl
shut (suc n) false true true r m = refl
shut (suc n) false true false r m = refl
shut (suc n) false false w r m = absurd (both_ways true m refl)

-- one more claim beside n holders
alone : (n : ℕ) (wr w : Bool) → may n wr w ≡ not (held n wr w || false)
alone zero wr w = refl
alone (suc n) true true = refl
alone (suc n) true false = refl
alone (suc n) false true = refl
alone (suc n) false false = refl

-- one more claim holds at once exactly if it conflicts with no holder and no earlier claim
pub settle_open : (n : ℕ) (wr : Bool) (q : List Claim) (w : Bool) → open_to (settle n wr q) w ≡ not (held n wr w || against w q)
settle_open n wr [] w = alone n wr w
settle_open n wr (d ∷ q) w =
    cond_both (may n wr d.writes) _ _ (λ st. open_to st w ≡ not (held n wr w || ((w || d.writes) || against w q)))
    (λ h. taken n wr d.writes w (against w q) _ h (settle_open (suc n) d.writes q w))
    (λ h. shut n wr d.writes w (against w q) h)

-- the same of a whole queue
pub canon_open : (q : List Claim) (w : Bool) → open_to (canon q) w ≡ not (against w q)
canon_open q w = settle_open 0 false q w

-- one holder that reads fewer
fewer_step : (n : ℕ) (d : Claim) (ds : List Claim) (w : Bool) → d.writes ≡ w → released (settle (suc (suc n)) false ds) ≡ settle (suc n) false ds →
    released (cond (not w) (settle (suc (suc n)) w ds) (record { holders = suc n; writing = false; waiting = d ∷ ds }))
    ≡ cond (may n false w) (settle (suc n) w ds) (record { holders = n; writing = false; waiting = d ∷ ds })
fewer_step n d ds true e h = ap (λ v. cond (may n false v) (settle (suc n) v ds) (record { holders = n; writing = false; waiting = d ∷ ds })) e
fewer_step zero d ds false e h = h
fewer_step (suc n) d ds false e h = h

-- a reader fewer among the holders
fewer : (n : ℕ) (q : List Claim) → released (settle (suc n) false q) ≡ settle n false q
fewer n [] = refl
fewer n (d ∷ ds) = fewer_step n d ds d.writes refl (fewer (suc n) ds)

-- a reader may hold beside readers
reads_beside : (n : ℕ) (c : Claim) (q : List Claim) →
    cond (may n false false) (settle (suc n) false q) (record { holders = n; writing = false; waiting = c ∷ q }) ≡ settle (suc n) false q
reads_beside zero c q = refl
reads_beside (suc n) c q = refl

-- a reader that comes first holds
reader : (n : ℕ) (c : Claim) (q : List Claim) → c.writes ≡ false → settle n false (c ∷ q) ≡ settle (suc n) false q
reader n c q e = ap (λ v. cond (may n false v) (settle (suc n) v q) (record { holders = n; writing = false; waiting = c ∷ q })) e ∙ reads_beside n c q

-- a reader leaves from among readers
leaves_in : (n : ℕ) (pre : List Claim) (c : Claim) (post : List Claim) → against false pre ≡ false → c.writes ≡ false →
    released (settle n false (pre ++ (c ∷ post))) ≡ settle n false (pre ++ post)
leaves_in n [] c post h e = ap released (reader n c post e) ∙ fewer n post
leaves_in n (p ∷ ps) c post h e =
    let f : (p.writes ≡ false) × (against false ps ≡ false) = or_parts p.writes (against false ps) h in
    ap released (reader n p (ps ++ (c ∷ post)) f.0) ∙ leaves_in (suc n) ps c post f.1 e ∙ sym (reader n p (ps ++ post) f.0)

-- behind a writer that holds, all wait
writer_shuts : (q : List Claim) → settle 1 true q ≡ record { holders = 1; writing = true; waiting = q }
writer_shuts [] = refl
writer_shuts (d ∷ ds) = refl

-- the first claim leaves
first_leaves : (post : List Claim) (w : Bool) → released (settle 1 w post) ≡ settle 0 false post
first_leaves post true = ap released (writer_shuts post)
first_leaves post false = fewer 0 post

-- who conflicts with no earlier claim holds the address, and may leave
pub canon_leave : (pre : List Claim) (c : Claim) (post : List Claim) → against c.writes pre ≡ false →
    released (canon (pre ++ (c ∷ post))) ≡ canon (pre ++ post)
canon_leave [] c post h = first_leaves post c.writes
canon_leave (p ∷ ps) c post h =
    let f : ((c.writes || p.writes) ≡ false) × (against c.writes ps ≡ false) = or_parts (c.writes || p.writes) (against c.writes ps) h in
    let g : (c.writes ≡ false) × (p.writes ≡ false) = or_parts c.writes p.writes f.0 in
    leaves_in 0 (p ∷ ps) c post (subst (λ (v : Bool). against v (p ∷ ps) ≡ false) g.0 h) g.0

-- behind a writer every claim is blocked
against_more : (w : Bool) (e : List Claim) → against false e ≡ true → against w e ≡ true
against_more true [] h = h
against_more true (c ∷ cs) h = refl
against_more false e h = h

-- a second test that holds changes no count
tally_and : (b v : Bool) → v ≡ true → tally (b && v) ≡ tally b
tally_and true v h = ap tally h
tally_and false v h = refl

-- a second test that fails counts 0
tally_none : (b v : Bool) → v ≡ false → tally (b && v) ≡ 0
tally_none true v h = ap tally h
tally_none false v h = refl

-- one more earlier claim leaves a conflict
later : (w : Bool) (c : Claim) (e : List Claim) → against w e ≡ true → against w (c ∷ e) ≡ true
later w c e h = ap (λ v. (w || c.writes) || v) h ∙ or-true (w || c.writes)

-- behind a writer all claims of a seat conflict with an earlier one
pub all_stuck : (e : List Claim) (t : ℕ) (q : List Claim) → against false e ≡ true → stuck e t q ≡ claims t q
all_stuck e t [] h = refl
all_stuck e t (c ∷ q) h =
    ap (λ n. n + stuck (c ∷ e) t q) (tally_and (eqb c.seat t) (against c.writes e) (against_more c.writes e h))
    ∙ ap (λ n. tally (eqb c.seat t) + n) (all_stuck (c ∷ e) t q (later false c e h))

-- a claim that may hold, beside the holders
beside : (n : ℕ) (wr d : Bool) (e : List Claim) → may n wr d ≡ true → ((w : Bool) → held n wr w ≡ against w e) → (w : Bool) →
    held (suc n) d w ≡ ((w || d) || against w e)
beside zero wr d e m h true = refl
beside zero wr true e m h false = refl
beside zero wr false e m h false = h false
beside (suc n) true d e m h w = absurd (both_ways false refl m)
beside (suc n) false true e m h w = absurd (both_ways false refl m)
beside (suc n) false false e m h true = refl
beside (suc n) false false e m h false = h false

-- a claim that may hold conflicts with no holder
may_held : (n : ℕ) (wr d : Bool) → may n wr d ≡ true → held n wr d ≡ false
may_held zero wr d m = refl
may_held (suc n) true d m = absurd (both_ways false refl m)
may_held (suc n) false true m = absurd (both_ways false refl m)
may_held (suc n) false false m = refl

-- a claim that may not hold conflicts with a holder, and so does every claim after it with it or a holder
not_held : (n : ℕ) (wr d : Bool) → may n wr d ≡ false → (held n wr d ≡ true) × ((d || held n wr false) ≡ true)
not_held zero wr d m = absurd (both_ways true m refl)
not_held (suc n) true true m = (refl, refl)
not_held (suc n) true false m = (refl, refl)
not_held (suc n) false true m = (refl, refl)
not_held (suc n) false false m = absurd (both_ways true m refl)

-- the blocked claims of a seat are those that wait
pub settle_waits : (n : ℕ) (wr : Bool) (e : List Claim) (t : ℕ) (q : List Claim) → ((w : Bool) → held n wr w ≡ against w e) →
    claims t (settle n wr q).waiting ≡ stuck e t q
settle_waits n wr e t [] h = refl
settle_waits n wr e t (c ∷ q) h =
    cond_both (may n wr c.writes) _ _ (λ (st : State). claims t st.waiting ≡ stuck e t (c ∷ q))
    (λ m. settle_waits (suc n) c.writes (c ∷ e) t q (beside n wr c.writes e m h)
    ∙ sym (ap (λ k. k + stuck (c ∷ e) t q) (tally_none (eqb c.seat t) (against c.writes e) (sym (h c.writes) ∙ may_held n wr c.writes m))
    ∙ zero-add (stuck (c ∷ e) t q)))
    (λ m. let g = not_held n wr c.writes m in
    sym (ap (λ k. k + stuck (c ∷ e) t q) (tally_and (eqb c.seat t) (against c.writes e) (sym (h c.writes) ∙ g.0))
    ∙ ap (λ k. tally (eqb c.seat t) + k) (all_stuck (c ∷ e) t q (ap (λ v. c.writes || v) (sym (h false)) ∙ g.1))))

-- the same of a whole queue
pub canon_waits : (t : ℕ) (q : List Claim) → claims t (canon q).waiting ≡ stuck [] t q
canon_waits t q = settle_waits 0 false [] t q (λ w. refl)
