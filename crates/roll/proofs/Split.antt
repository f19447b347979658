-- What the entry of a seat makes of the roll: the entries before it, the entry, and those behind it; and how often a number stands in
-- a list. Assumes nothing.
use Rattle.std.proofs.Common.{◌≡◌, ℕ, ◌+◌, Bool, true, false, cond, eqb, List, [], ◌∷◌, ◌++◌, Some, None, Option, sym, refl, ap, ◌∙◌, subst, arith}
use Rattle.std.specs.List.{AllByRecursion as All}
use Rattle.std.proofs.lemmas.Bool.{eqb-true, eq-eqb}
use Rattle.roll.specs.Roll.{Standing, Entry, Roll, sits, stand, find, change, without}
use Rattle.roll.specs.Tables.{tally}

-- an entry of another seat
abbrev pub Elsewhere : ℕ → Entry → Type 0
Elsewhere s e = sits s e ≡ false

-- the roll, the roll with the entry in another standing, and the roll without it, by what stands before and behind the entry
pub record Split (s : ℕ) (k : Entry) (roll : Roll) : Type 0 where
  pub pre : Roll
  pub post : Roll
  pub is : roll ≡ pre ++ (k ∷ post)
  pub changed : (st : Standing) → change s st roll ≡ pre ++ (stand st k ∷ post)
  pub removed : without s roll ≡ pre ++ post
  pub others : All (Elsewhere s) pre
  pub sits_there : k.job.seat ≡ s

-- the entry is the first
split_here : (s : ℕ) (e k : Entry) (es : Roll) → sits s e ≡ true → e ≡ k → Split s k (e ∷ es)
split_here s e k es b p = record {
  pre = [];
  post = es;
  is = ap (λ (x : Entry). x ∷ es) p;
  changed = λ st. subst (λ (c : Bool). cond c (stand st e ∷ es) (e ∷ change s st es) ≡ (stand st k ∷ es)) (sym b) (ap (λ (x : Entry). stand st x ∷ es) p);
  removed = subst (λ (c : Bool). cond c es (e ∷ without s es) ≡ es) (sym b) refl;
  others = tt;
  sits_there = ap (λ (x : Entry). x.job.seat) (sym p) ∙ eqb-true e.job.seat s b;
}

-- the entry stands behind the first
split_there : (s : ℕ) (e k : Entry) (es : Roll) → sits s e ≡ false → Split s k es → Split s k (e ∷ es)
split_there s e k es b r = record {
  pre = e ∷ r.pre;
  post = r.post;
  is = ap (λ (xs : Roll). e ∷ xs) r.is;
  changed = λ st. subst (λ (c : Bool). cond c (stand st e ∷ es) (e ∷ change s st es) ≡ e ∷ (r.pre ++ (stand st k ∷ r.post))) (sym b) (ap (λ (xs : Roll). e ∷ xs) (r.changed st));
  removed = subst (λ (c : Bool). cond c es (e ∷ without s es) ≡ e ∷ (r.pre ++ r.post)) (sym b) (ap (λ (xs : Roll). e ∷ xs) r.removed);
  others = (b, r.others);
  sits_there = r.sits_there;
}

-- an option is not both empty and full
pub none_some : {A : Type 0} (x : A) → ◌≡◌ {A = Option A} None (Some x) → ⊥
none_some x p = let z : ◌≡◌ {A = ℕ} 0 1 = cc in omega arith

-- the value of a full option
pub some_is : {A : Type 0} (x y : A) → ◌≡◌ {A = Option A} (Some x) (Some y) → x ≡ y
some_is x y p = cc

-- an entry that is found splits the roll
pub split : (s : ℕ) (k : Entry) (roll : Roll) → find s roll ≡ Some k → Split s k roll
split s k [] p = absurd (none_some k p)
split s k (e ∷ es) p = go (sits s e) refl p (λ q. split s k es q)
  where
    go : (b : Bool) → sits s e ≡ b → cond b (Some e) (find s es) ≡ Some k → (find s es ≡ Some k → Split s k es) → Split s k (e ∷ es)
    go true b q r = split_here s e k es b (some_is e k q)
    go false b q r = split_there s e k es b (r q)

-- how often a number stands in a list
abbrev pub count : ℕ → List ℕ → ℕ
count s [] = 0
count s (x ∷ xs) = tally (eqb x s) + count s xs

-- in two lists, one behind the other
pub count-++ : (s : ℕ) (xs ys : List ℕ) → count s (xs ++ ys) ≡ count s xs + count s ys
count-++ s [] ys = omega arith
count-++ s (x ∷ xs) ys = omega (arith, count-++ s xs ys)

-- a number is once itself
pub once_itself : (s : ℕ) → tally (eqb s s) ≡ 1
once_itself s = ap tally (eq-eqb s s refl)

-- the seats of the entries, in roll order
abbrev pub seats_of : Roll → List ℕ
seats_of [] = []
seats_of (e ∷ es) = e.job.seat ∷ seats_of es

-- of two parts of a roll
pub seats-++ : (xs ys : Roll) → seats_of (xs ++ ys) ≡ seats_of xs ++ seats_of ys
seats-++ [] ys = refl
seats-++ (x ∷ xs) ys = ap (λ (zs : List ℕ). x.job.seat ∷ zs) (seats-++ xs ys)

-- a seat that is not among them is no entry's
pub count_none : (s : ℕ) (roll : Roll) → count s (seats_of roll) ≡ 0 → All (Elsewhere s) roll
count_none s [] h = tt
count_none s (e ∷ es) h = (go (sits s e) h, count_none s es (omega arith))
  where
    go : (b : Bool) → tally b + count s (seats_of es) ≡ 0 → b ≡ false
    go true q = absurd (omega arith)
    go false q = refl
