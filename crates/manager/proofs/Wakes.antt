-- Which tasks of a roll become ready, by a test for each seat, where the roll is made of a list of seats. Assumes nothing.
--   member_splits            a number in a list
--   filter_same, filter_none the numbers of a list that pass a test
--   Decides                  a test says of each listed seat whether an earlier task blocks it
--   wake_map, woken_filter   the roll with the tasks ready that become so, and their seats
use Rattle.std.proofs.Common.{◌≡◌, ℕ, Bool, true, false, cond, not, ◌||◌, eqb, List, [], ◌∷◌, ◌++◌, map, filter, sym, refl, ap, ◌∙◌, ap₂}
use mathlib.Core.Bool.{or-false}
use Rattle.std.proofs.lemmas.Bool.{eqb-true, eq-eqb, or_left, or_right, both_ways}
use Rattle.task.specs.declared.Access.{Access}
use Rattle.task.specs.Access.{conflict}
use Rattle.acceptance.specs.Listed.{member}
use Rattle.roll.proofs.Keeps.{or_swap}
use Rattle.roll.specs.Roll.{Standing, waiting, ready, running, Entry, Roll, blocked, stand, rouse, roused, wake, woken}

-- a list with a number in it, split there
abbrev pub Splits : ℕ → List ℕ → Type 0
Splits t l = (pre : List ℕ) × ((post : List ℕ) × (l ≡ pre ++ (t ∷ post)))

splits_at : (t x : ℕ) (l : List ℕ) (v : Bool) → eqb t x ≡ v → (v || member t l) ≡ true → (member t l ≡ true → Splits t l) → Splits t (x ∷ l)
splits_at t x l true e h rest = ([], (l, ap (λ (y : ℕ). y ∷ l) (sym (eqb-true t x e))))
splits_at t x l false e h rest = let r = rest h in (x ∷ r.0, (r.1.0, ap (λ (m : List ℕ). x ∷ m) r.1.1))

pub member_splits : (t : ℕ) (l : List ℕ) → member t l ≡ true → Splits t l
member_splits t [] h = absurd (both_ways false refl h)
member_splits t (x ∷ l) h = splits_at t x l (eqb t x) refl h (member_splits t l)

-- two tests that agree on the list
pub filter_same : (p q : ℕ → Bool) (xs : List ℕ) → ((t : ℕ) → member t xs ≡ true → p t ≡ q t) → filter p xs ≡ filter q xs
filter_same p q [] same = refl
filter_same p q (x ∷ xs) same =
    ap₂ (λ (b : Bool) (l : List ℕ). cond b (x ∷ l) l) (same x (or_left (eqb x x) (member x xs) (eq-eqb x x refl))) (filter_same p q xs (λ t h. same t (or_right (eqb t x) (member t xs) h)))

-- where none passes, none is left
filter_never : (xs : List ℕ) → filter (λ t. false) xs ≡ []
filter_never [] = refl
filter_never (x ∷ xs) = filter_never xs

pub filter_none : (p : ℕ → Bool) (xs : List ℕ) → ((t : ℕ) → member t xs ≡ true → p t ≡ false) → filter p xs ≡ []
filter_none p xs none = filter_same p (λ t. false) xs none ∙ filter_never xs

-- does a task in this standing become ready, where nothing blocks it or something does?
abbrev pub stirs : Bool → Standing → Bool
stirs idle waiting = idle
stirs idle ready = false
stirs idle (running ss) = false

-- its seat is the one that joins the ready line
roused_filter : (idle : Bool) (st : Standing) (s : ℕ) (rest : List ℕ) → roused (not idle) st s ++ rest ≡ cond (stirs idle st) (s ∷ rest) rest
roused_filter true waiting s rest = refl
roused_filter false waiting s rest = refl
roused_filter idle ready s rest = refl
roused_filter idle (running ss) s rest = refl

-- a test says of each listed seat that no earlier task blocks it, or that one does
abbrev pub Decides : (ℕ → Entry) → (ℕ → Bool) → Roll → List ℕ → Type 0
Decides f idle earlier l =
    (pre post : List ℕ) (t : ℕ) → l ≡ pre ++ (t ∷ post) → (blocked earlier (f t).job.accesses || blocked (map f pre) (f t).job.accesses) ≡ not (idle t)

-- so of the first, and of the others behind it
decides_first : (f : ℕ → Entry) (idle : ℕ → Bool) (earlier : Roll) (x : ℕ) (l : List ℕ) → Decides f idle earlier (x ∷ l) → blocked earlier (f x).job.accesses ≡ not (idle x)
decides_first f idle earlier x l h = sym (or-false (blocked earlier (f x).job.accesses)) ∙ h [] l x refl

decides_more : (f : ℕ → Entry) (idle : ℕ → Bool) (earlier : Roll) (x : ℕ) (l : List ℕ) → Decides f idle earlier (x ∷ l) → Decides f idle (f x ∷ earlier) l
decides_more f idle earlier x l h pre post t e =
    let xs : List Access = (f t).job.accesses in
    or_swap (conflict (f x).job.accesses xs) (blocked earlier xs) (blocked (map f pre) xs) ∙ h (x ∷ pre) post t (ap (λ (m : List ℕ). x ∷ m) e)

-- the entry of a seat after every task that may has become ready
abbrev pub woken_entry : (ℕ → Entry) → (ℕ → Bool) → ℕ → Entry
woken_entry f idle t = stand (rouse (not (idle t)) (f t).standing) (f t)

-- the roll after it
pub wake_map : (f : ℕ → Entry) (idle : ℕ → Bool) (earlier : Roll) (l : List ℕ) → Decides f idle earlier l → wake earlier (map f l) ≡ map (woken_entry f idle) l
wake_map f idle earlier [] h = refl
wake_map f idle earlier (x ∷ l) h =
    ap₂ (λ (e : Entry) (r : Roll). e ∷ r) (ap (λ (b : Bool). stand (rouse b (f x).standing) (f x)) (decides_first f idle earlier x l h))
    (wake_map f idle (f x ∷ earlier) l (decides_more f idle earlier x l h))

-- and the seats of those tasks
pub woken_filter : (f : ℕ → Entry) (idle : ℕ → Bool) (earlier : Roll) (l : List ℕ) → ((t : ℕ) → (f t).job.seat ≡ t) → Decides f idle earlier l →
    woken earlier (map f l) ≡ filter (λ t. stirs (idle t) (f t).standing) l
woken_filter f idle earlier [] own h = refl
woken_filter f idle earlier (x ∷ l) own h =
    ap₂ (λ (b : Bool) (s : ℕ). roused b (f x).standing s ++ woken (f x ∷ earlier) (map f l)) (decides_first f idle earlier x l h) (own x)
    ∙ roused_filter (idle x) (f x).standing x (woken (f x ∷ earlier) (map f l))
    ∙ ap (λ (r : List ℕ). cond (stirs (idle x) (f x).standing) (x ∷ r) r) (woken_filter f idle (f x ∷ earlier) l own (decides_more f idle earlier x l h))
