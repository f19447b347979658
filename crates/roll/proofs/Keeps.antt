-- When a task waits, and what a change of standing, a new entry, a removal and a waking leave of that and of the seats and the ready
-- tasks. Assumes nothing.
use Rattle.std.proofs.Common.{◌≡◌, ℕ, suc, ◌+◌, Bool, true, false, ◌||◌, List, [], ◌∷◌, ◌++◌, length, sym, refl, ap, ◌∙◌, subst, arith}
use Rattle.std.specs.List.{AllByRecursion as All}
use Rattle.std.proofs.lemmas.Bool.{or_parts, or_from}
use Rattle.task.specs.declared.Access.{Access}
use Rattle.task.specs.Access.{conflict}
use Rattle.order.specs.Steps.{Step, Job, steps}
use Rattle.roll.specs.Roll.{Standing, waiting, ready, running, Entry, Roll, blocked, stand, rouse, wake, roused, woken}
use Rattle.roll.proofs.Split.{count, count-++, seats_of}

-- the steps that are left to a task: all of them until it runs
abbrev pub steps_left : Standing → List Access → List Step
steps_left waiting xs = steps xs
steps_left ready xs = steps xs
steps_left (running ss) xs = ss

-- whether a task waits
abbrev pub waits : Standing → Bool
waits waiting = true
waits ready = false
waits (running ss) = false

-- each task waits exactly if an earlier one conflicts with it; those before the list are handed over the latest first
abbrev pub Rightly : Roll → Roll → Type 0
Rightly earlier [] = Unit {0}
Rightly earlier (e ∷ es) = (waits e.standing ≡ blocked earlier e.job.accesses) × Rightly (e ∷ earlier) es

-- an entry that does not conflict with these accesses
abbrev pub Clear : List Access → Entry → Type 0
Clear xs e = conflict e.job.accesses xs ≡ false

-- no task before one that does not wait conflicts with it: neither those before the list
unblocked : (k : Entry) (pre post earlier : Roll) → waits k.standing ≡ false → Rightly earlier (pre ++ (k ∷ post)) → blocked earlier k.job.accesses ≡ false
unblocked k [] post earlier w j = sym j.0 ∙ w
unblocked k (e ∷ pre) post earlier w j =
    (or_parts (conflict e.job.accesses k.job.accesses) (blocked earlier k.job.accesses) (unblocked k pre post (e ∷ earlier) w j.1)).1

-- nor those of the list
pub clear_before : (k : Entry) (pre post earlier : Roll) → waits k.standing ≡ false → Rightly earlier (pre ++ (k ∷ post)) → All (Clear k.job.accesses) pre
clear_before k [] post earlier w j = tt
clear_before k (e ∷ pre) post earlier w j = (
  (or_parts (conflict e.job.accesses k.job.accesses) (blocked earlier k.job.accesses) (unblocked k pre post (e ∷ earlier) w j.1)).0,
  clear_before k pre post (e ∷ earlier) w j.1,
)

-- of the entries before the list it matters only whom they block
rightly_earlier : (ds es roll : Roll) → ((xs : List Access) → blocked ds xs ≡ blocked es xs) → Rightly ds roll → Rightly es roll
rightly_earlier ds es [] h j = tt
rightly_earlier ds es (e ∷ roll) h j =
    (j.0 ∙ h e.job.accesses, rightly_earlier (e ∷ ds) (e ∷ es) roll (λ xs. ap (λ (b : Bool). conflict e.job.accesses xs || b) (h xs)) j.1)

-- a change of standing between two in which a task does not wait
pub rightly_change : (st : Standing) (k : Entry) → waits st ≡ waits k.standing → (pre post ds : Roll) → Rightly ds (pre ++ (k ∷ post)) → Rightly ds (pre ++ (stand st k ∷ post))
rightly_change st k w [] post ds j = (w ∙ j.0, rightly_earlier (k ∷ ds) (stand st k ∷ ds) post (λ xs. refl) j.1)
rightly_change st k w (e ∷ pre) post ds j = (j.0, rightly_change st k w pre post (e ∷ ds) j.1)

-- three tests in another order
pub or_swap : (a b c : Bool) → ((a || b) || c) ≡ (b || (a || c))
or_swap true true c = refl
or_swap true false c = refl
or_swap false b c = refl

-- a new entry at the end
pub rightly_join : (k : Entry) (roll ds : Roll) → waits k.standing ≡ (blocked roll k.job.accesses || blocked ds k.job.accesses) → Rightly ds roll → Rightly ds (roll ++ (k ∷ []))
rightly_join k [] ds w j = (w, tt)
rightly_join k (e ∷ roll) ds w j =
    let xs : List Access = k.job.accesses in
    (j.0, rightly_join k roll (e ∷ ds) (w ∙ or_swap (conflict e.job.accesses xs) (blocked roll xs) (blocked ds xs)) j.1)

-- each task that does not wait is blocked by no earlier one
abbrev pub Safely : Roll → Roll → Type 0
Safely ds [] = Unit {0}
Safely ds (e ∷ es) = (waits e.standing ≡ false → blocked ds e.job.accesses ≡ false) × Safely (e ∷ ds) es

-- with fewer entries before the list that is so still
safely_from : (ds es roll : Roll) → ((xs : List Access) → blocked ds xs ≡ false → blocked es xs ≡ false) → Rightly ds roll → Safely es roll
safely_from ds es [] h j = tt
safely_from ds es (e ∷ roll) h j = (
  λ w. h e.job.accesses (sym j.0 ∙ w),
  safely_from (e ∷ ds) (e ∷ es) roll
      (λ xs f. let p : (conflict e.job.accesses xs ≡ false) × (blocked ds xs ≡ false) = or_parts (conflict e.job.accesses xs) (blocked ds xs) f in
      or_from (conflict e.job.accesses xs) (blocked es xs) p.0 (h xs p.1))
      j.1,
)

-- and with one entry removed
pub safely_without : (k : Entry) (pre post ds : Roll) → Rightly ds (pre ++ (k ∷ post)) → Safely ds (pre ++ post)
safely_without k [] post ds j = safely_from (k ∷ ds) ds post (λ xs f. (or_parts (conflict k.job.accesses xs) (blocked ds xs) f).1) j.1
safely_without k (e ∷ pre) post ds j = (λ w. sym j.0 ∙ w, safely_without k pre post (e ∷ ds) j.1)

-- after a waking a task waits exactly if it is blocked
waits_rouse : (b : Bool) (st : Standing) → (waits st ≡ false → b ≡ false) → waits (rouse b st) ≡ b
waits_rouse true waiting h = refl
waits_rouse false waiting h = refl
waits_rouse b ready h = sym (h refl)
waits_rouse b (running ss) h = sym (h refl)

-- after a waking each task waits exactly if an earlier one conflicts with it
pub rightly_wake : (ds es roll : Roll) → ((xs : List Access) → blocked ds xs ≡ blocked es xs) → Safely ds roll → Rightly es (wake ds roll)
rightly_wake ds es [] h k = tt
rightly_wake ds es (e ∷ roll) h k =
    let xs : List Access = e.job.accesses in (
      waits_rouse (blocked ds xs) e.standing k.0 ∙ h xs,
      rightly_wake (e ∷ ds) (stand (rouse (blocked ds xs) e.standing) e ∷ es) roll (λ ys. ap (λ (b : Bool). conflict xs ys || b) (h ys)) k.1,
    )

-- waking leaves each task its steps
pub left_rouse : (xs : List Access) (b : Bool) (st : Standing) → steps_left (rouse b st) xs ≡ steps_left st xs
left_rouse xs true waiting = refl
left_rouse xs false waiting = refl
left_rouse xs b ready = refl
left_rouse xs b (running ss) = refl

-- what holds of each task and its steps left holds after a waking
pub all_wake : (P : Job → List Step → Type 0) (ds roll : Roll) → All (λ e. P e.job (steps_left e.standing e.job.accesses)) roll → All (λ e. P e.job (steps_left e.standing e.job.accesses)) (wake ds roll)
all_wake P ds [] h = tt
all_wake P ds (e ∷ roll) h =
    (subst (P e.job) (sym (left_rouse e.job.accesses (blocked ds e.job.accesses) e.standing)) h.0, all_wake P (e ∷ ds) roll h.1)

-- the seats, and how many there are, stay
pub seats_wake : (ds roll : Roll) → seats_of (wake ds roll) ≡ seats_of roll
seats_wake ds [] = refl
seats_wake ds (e ∷ roll) = ap (λ (xs : List ℕ). e.job.seat ∷ xs) (seats_wake (e ∷ ds) roll)

pub length_wake : (ds roll : Roll) → length (wake ds roll) ≡ length roll
length_wake ds [] = refl
length_wake ds (e ∷ roll) = ap suc (length_wake (e ∷ ds) roll)

-- the seats of the ready tasks
abbrev pub if_ready : Standing → ℕ → List ℕ
if_ready waiting s = []
if_ready ready s = s ∷ []
if_ready (running ss) s = []

abbrev pub readies : Roll → List ℕ
readies [] = []
readies (e ∷ es) = if_ready e.standing e.job.seat ++ readies es

-- in two parts of a roll
pub count_readies-++ : (s : ℕ) (xs ys : Roll) → count s (readies (xs ++ ys)) ≡ count s (readies xs) + count s (readies ys)
count_readies-++ s [] ys = omega arith
count_readies-++ s (x ∷ xs) ys =
    let m : List ℕ = if_ready x.standing x.job.seat in
    omega (arith, count-++ s m (readies (xs ++ ys)), count-++ s m (readies xs), count_readies-++ s xs ys)

-- one task: ready before, or woken
count_rouse : (s : ℕ) (b : Bool) (st : Standing) (x : ℕ) → count s (if_ready (rouse b st) x) ≡ count s (if_ready st x) + count s (roused b st x)
count_rouse s true waiting x = omega arith
count_rouse s false waiting x = omega arith
count_rouse s b ready x = omega arith
count_rouse s b (running ss) x = omega arith

-- after a waking the ready tasks are those before it and those that it woke
pub count_wake : (s : ℕ) (ds roll : Roll) → count s (readies (wake ds roll)) ≡ count s (readies roll) + count s (woken ds roll)
count_wake s ds [] = omega arith
count_wake s ds (e ∷ roll) =
    let b : Bool = blocked ds e.job.accesses in
    let x : ℕ = e.job.seat in
    omega (
      arith,
      count-++ s (if_ready (rouse b e.standing) x) (readies (wake (e ∷ ds) roll)),
      count-++ s (if_ready e.standing x) (readies roll),
      count-++ s (roused b e.standing x) (woken (e ∷ ds) roll),
      count_rouse s b e.standing x,
      count_wake s (e ∷ ds) roll,
    )
