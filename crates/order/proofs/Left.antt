-- Steps that are left to a task: each is a step that the task's accesses give and that the host does, and the brings come in order of
-- their positions. Assumes nothing.
use Rattle.std.proofs.Common.{◌≡◌, ℕ, suc, ◌+◌, ◌<◌, ◌≤◌, Bool, true, false, ◌&&◌, eqb, ltb, leb, List, [], ◌∷◌, ◌++◌, length, refl, arith}
use Rattle.std.specs.List.{AllByRecursion as All}
use Rattle.std.proofs.ByRecursion.{All-weaker}
use Rattle.std.proofs.lemmas.Bool.{eq-eqb, or_left, or_right, and_from, lt-ltb, le-leb}
use Rattle.task.specs.declared.Access.{Access}
use Rattle.task.specs.Access.{reads, writes, Numbered, keep, numbered, readers, writers}
use Rattle.host.specs.Meaning.{Fixed, seats, positions}
use Rattle.one_at_a_time.specs.Alone.{AllHeld}
use Rattle.order.specs.Steps.{Step, bring, put, brings, puts, steps, Job}
use Rattle.order.specs.Order.{Sound}
use Rattle.order.proofs.Commute.{size, may}
use Rattle.order.proofs.Conflicts.{has, Of}

-- a bring to a position below n; a bring to a position above q
abbrev pub Below : ℕ → Step → Type 0
Below n (bring x p) = p < n
Below n (put x) = Unit {0}

abbrev pub Above : ℕ → Step → Type 0
Above q (bring x p) = q < p
Above q (put x) = Unit {0}

-- the brings behind this step go to later positions
abbrev pub InOrder : Step → List Step → Type 0
InOrder (bring x p) ss = All (Above p) ss
InOrder (put x) ss = Unit {0}

-- a step that the task's accesses give, that the host does, and that fills one of the positions that the task reads
pub record Fit {V : Type 0} (h : Fixed V) (j : Job) (σ : Step) : Type 0 where
  pub own : Of j.accesses σ
  pub allowed : may h j σ ≡ true
  pub low : Below (size j) σ

-- these steps may be left to the task
abbrev pub Left : {V : Type 0} → Fixed V → Job → List Step → Type 0
Left h j [] = Unit {0}
Left h j (σ ∷ ss) = Fit h j σ × InOrder σ ss × Left h j ss

-- puts fill no position
above_puts : (q : ℕ) (ws : List Numbered) → All (Above q) (puts ws)
above_puts q [] = tt
above_puts q (x ∷ ws) = (tt, above_puts q ws)

-- brings from p on fill no position before p
above_steps : (q p : ℕ) (rs ws : List Numbered) → q < p → All (Above q) (brings p rs ++ puts ws)
above_steps q p [] ws lt = above_puts q ws
above_steps q p (x ∷ rs) ws lt = (lt, above_steps q (suc p) rs ws (omega arith))

-- an access that passes the test, to an address that the host holds
abbrev Listed : {V : Type 0} → Fixed V → (Access → Bool) → List Access → Numbered → Type 0
Listed h p xs x = (has p xs x.address ≡ true) × (h.held x.address ≡ true)

-- what holds of an element if the test does, and of each of a list
all_keep : {A : Type 0} (P : A → Type 0) (b : Bool) (x : A) (rest : List A) → (b ≡ true → P x) → All P rest → All P (keep b x rest)
all_keep P true x rest here there = (here refl, there)
all_keep P false x rest here there = there

-- the accesses that pass the test are such
listed : {V : Type 0} (h : Fixed V) (p : Access → Bool) (i : ℕ) (xs : List Access) → AllHeld h xs → All (Listed h p xs) (numbered p i xs)
listed h p i [] held = tt
listed h p i (x ∷ xs) held =
    all_keep (Listed h p (x ∷ xs)) (p x) (record { number = i; address = x.address }) (numbered p (suc i) xs)
    (λ e. (or_left (eqb x.address x.address && p x) (has p xs x.address) (and_from (eqb x.address x.address) (p x) (eq-eqb x.address x.address refl) e), held.0))
    (All-weaker (Listed h p xs) (Listed h p (x ∷ xs)) (λ y l. (or_right (eqb x.address y.address && p x) (has p xs y.address) l.0, l.1))
    (numbered p (suc i) xs) (listed h p (suc i) xs held.1))

-- with one more element, if the test holds, a list is at most one longer
keep_few : {A : Type 0} (b : Bool) (x : A) (rest : List A) → length (keep b x rest) ≤ suc (length rest)
keep_few true x rest = omega arith
keep_few false x rest = omega arith

-- the accesses that pass the test are at most as many as all
pub numbered_few : (p : Access → Bool) (i : ℕ) (xs : List Access) → length (numbered p i xs) ≤ length xs
numbered_few p i [] = omega arith
numbered_few p i (x ∷ xs) = omega (arith, keep_few (p x) (record { number = i; address = x.address }) (numbered p (suc i) xs), numbered_few p (suc i) xs)

module _ {V : Type 0} (h : Fixed V) (j : Job) (s : Sound h j) where
  abbrev xs : List Access
  xs = j.accesses

  -- it reads no more values than a seat has positions
  few : size j ≤ positions
  few = let n : length xs ≤ 15 = s.few in omega (arith, numbered_few reads 0 xs)

  -- its seat is within the table
  seated : ltb j.seat seats ≡ true
  seated = lt-ltb j.seat seats s.low

  -- its puts
  left_puts : (ws : List Numbered) → All (Listed h writes xs) ws → Left h j (puts ws)
  left_puts [] l = tt
  left_puts (x ∷ ws) l = (
    record {
      own = l.0.0;
      allowed = and_from (h.held x.address) (ltb j.seat seats && leb (size j) positions) l.0.1 (and_from (ltb j.seat seats) (leb (size j) positions) seated (le-leb (size j) positions few));
      low = tt;
    },
    tt,
    left_puts ws l.1,
  )

  -- its brings from a position on, and its puts
  left_steps : (p : ℕ) (rs ws : List Numbered) → p + length rs ≤ size j → All (Listed h reads xs) rs → All (Listed h writes xs) ws → Left h j (brings p rs ++ puts ws)
  left_steps p [] ws le l m = left_puts ws m
  left_steps p (x ∷ rs) ws le l m =
      let lt : p < size j = omega arith in (
        record {
          own = l.0.0;
          allowed = and_from (h.held x.address) (ltb j.seat seats && ltb p positions) l.0.1 (and_from (ltb j.seat seats) (ltb p positions) seated (lt-ltb p positions (omega (arith, few))));
          low = lt;
        },
        above_steps p (suc p) rs ws (omega arith),
        left_steps (suc p) rs ws (omega arith) l.1 m,
      )

  -- all steps of a sound task
  pub all_left : Left h j (steps xs)
  all_left = left_steps 0 (readers xs) (writers xs) (omega arith) (listed h reads 0 xs s.held) (listed h writes 0 xs s.held)
