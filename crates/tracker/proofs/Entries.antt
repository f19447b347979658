-- What holds of every entry of a roll, entry by entry and by the ways of cutting the roll at an entry. Assumes nothing.
use Rattle.std.proofs.Common.{◌≡◌, ℕ, true, false, eqb, ◌⊎◌, List, [], ◌∷◌, ◌++◌, refl, ap, subst, inl, inr, ⊎_elim}
use Rattle.std.specs.List.{AllByRecursion as All}
use Rattle.std.proofs.lemmas.Bool.{or_parts, or_from, cases_Bool, eqb-true}
use Rattle.task.specs.declared.Access.{Access}
use Rattle.admission.specs.Admission.{occurs}
use Rattle.order.proofs.Opens as opens
use Rattle.order.proofs.Update.{eqb_flip}
use Rattle.roll.specs.Roll.{Entry, Roll}
use Rattle.claims.specs.Queues.{Apart, AbsentSeat}
use Rattle.tracker.specs.Tracked.{repeats, taken, doubled}

-- wherever the roll is cut, the entry there has the property
abbrev pub Cut : (Entry → Type 0) → Roll → Type 0
Cut P v = (pre post : Roll) (e : Entry) → v ≡ pre ++ (e ∷ post) → P e

-- the one from the other
pub all_of_cut : (P : Entry → Type 0) (v : Roll) → Cut P v → All P v
all_of_cut P [] h = tt
all_of_cut P (x ∷ v) h = (h [] v x refl, all_of_cut P v (λ pre post e s. h (x ∷ pre) post e (ap (λ (u : Roll). x ∷ u) s)))

-- the last of the entries before
pub all_last : (P : Entry → Type 0) (pre post : Roll) (e : Entry) → All P (pre ++ (e ∷ post)) → P e
all_last P [] post e h = h.0
all_last P (x ∷ pre) post e h = all_last P pre post e h.1

-- the other from the one
pub cut_of_all : (P : Entry → Type 0) (v : Roll) → All P v → Cut P v
cut_of_all P v h pre post e s = all_last P pre post e (subst (All P) s h)

-- two rolls, one after the other
pub all-++ : (P : Entry → Type 0) (v u : Roll) → All P v → All P u → All P (v ++ u)
all-++ P [] u h k = k
all-++ P (e ∷ v) u h k = (h.0, all-++ P v u h.1 k)

-- another property, entry by entry
pub all_map : (P Q : Entry → Type 0) (v : Roll) → ((e : Entry) → P e → Q e) → All P v → All Q v
all_map P Q [] f h = tt
all_map P Q (e ∷ v) f h = (f e h.0, all_map P Q v f h.1)

-- two properties at once
pub all_both : (P Q : Entry → Type 0) (v : Roll) → All P v → All Q v → All (λ e. P e × Q e) v
all_both P Q v h k = opens.all_both P Q (λ e. P e × Q e) (λ e p q. (p, q)) v h k

-- no address twice, as a fact and as a test
pub apart_of : (xs : List Access) → repeats xs ≡ false → Apart xs
apart_of [] h = tt
apart_of (x ∷ xs) h = let f = or_parts (occurs x.address xs) (repeats xs) h in (f.0, apart_of xs f.1)

-- the other way round
pub repeats_of : (xs : List Access) → Apart xs → repeats xs ≡ false
repeats_of [] h = refl
repeats_of (x ∷ xs) h = or_from (occurs x.address xs) (repeats xs) h.0 (repeats_of xs h.1)

-- no task has the seat, as a fact and as a test
pub absent_of : (s : ℕ) (v : Roll) → taken s v ≡ false → AbsentSeat s v
absent_of s [] h = tt
absent_of s (e ∷ v) h = let f = or_parts (eqb e.job.seat s) (taken s v) h in (f.0, absent_of s v f.1)

-- the other way round
pub taken_of : (s : ℕ) (v : Roll) → AbsentSeat s v → taken s v ≡ false
taken_of s [] h = refl
taken_of s (e ∷ v) h = or_from (eqb e.job.seat s) (taken s v) h.0 (taken_of s v h.1)

-- so it is entry by entry
pub absent_all : (s : ℕ) (v : Roll) → AbsentSeat s v → All (λ e. eqb e.job.seat s ≡ false) v
absent_all s [] h = tt
absent_all s (e ∷ v) h = (h.0, absent_all s v h.1)

-- and in two rolls
pub absent-++ : (s : ℕ) (v u : Roll) → AbsentSeat s v → AbsentSeat s u → AbsentSeat s (v ++ u)
absent-++ s [] u h k = k
absent-++ s (e ∷ v) u h k = (h.0, absent-++ s v u h.1 k)

-- in the first of them
pub absent_left : (s : ℕ) (v u : Roll) → AbsentSeat s (v ++ u) → AbsentSeat s v
absent_left s [] u h = tt
absent_left s (e ∷ v) u h = (h.0, absent_left s v u h.1)

-- in the second of them
pub absent_right : (s : ℕ) (v u : Roll) → AbsentSeat s (v ++ u) → AbsentSeat s u
absent_right s [] u h = h
absent_right s (e ∷ v) u h = absent_right s v u h.1

-- the accesses of an entry are no matter
pub absent_same : (s : ℕ) (pre post : Roll) (e f : Entry) → e.job.seat ≡ f.job.seat → AbsentSeat s (pre ++ (e ∷ post)) → AbsentSeat s (pre ++ (f ∷ post))
absent_same s [] post e f q h = (subst (λ (n : ℕ). eqb n s ≡ false) q h.0, h.1)
absent_same s (x ∷ pre) post e f q h = (h.0, absent_same s pre post e f q h.1)

-- and an entry can go
pub absent_gone : (s : ℕ) (pre post : Roll) (e : Entry) → AbsentSeat s (pre ++ (e ∷ post)) → AbsentSeat s (pre ++ post)
absent_gone s [] post e h = h.1
absent_gone s (x ∷ pre) post e h = (h.0, absent_gone s pre post e h.1)

-- no two tasks have one seat
abbrev pub Distinct : Roll → Type 0
Distinct [] = Unit {0}
Distinct (e ∷ es) = AbsentSeat e.job.seat es × Distinct es

-- as a test, and back
pub distinct_of : (v : Roll) → doubled v ≡ false → Distinct v
distinct_of [] h = tt
distinct_of (e ∷ v) h = let f = or_parts (taken e.job.seat v) (doubled v) h in (absent_of e.job.seat v f.0, distinct_of v f.1)

-- the other way round
pub doubled_of : (v : Roll) → Distinct v → doubled v ≡ false
doubled_of [] h = refl
doubled_of (e ∷ v) h = or_from (taken e.job.seat v) (doubled v) (taken_of e.job.seat v h.0) (doubled_of v h.1)

-- around an entry nobody has its seat
pub apart_before : (pre post : Roll) (e : Entry) → Distinct (pre ++ (e ∷ post)) → AbsentSeat e.job.seat pre
apart_before [] post e h = tt
apart_before (x ∷ pre) post e h =
    let k = absent_right x.job.seat pre (e ∷ post) h.0 in
    (eqb_flip e.job.seat x.job.seat k.0, apart_before pre post e h.1)

-- nor after it
pub apart_after : (pre post : Roll) (e : Entry) → Distinct (pre ++ (e ∷ post)) → AbsentSeat e.job.seat post
apart_after [] post e h = h.0
apart_after (x ∷ pre) post e h = apart_after pre post e h.1

-- a task with a new seat at the end
pub distinct_more : (v : Roll) (e : Entry) → Distinct v → AbsentSeat e.job.seat v → Distinct (v ++ (e ∷ []))
distinct_more [] e h k = (tt, tt)
distinct_more (x ∷ v) e h k =
    (absent-++ x.job.seat v (e ∷ []) h.0 (eqb_flip x.job.seat e.job.seat k.0, tt), distinct_more v e h.1 k.1)

-- an entry with other accesses
pub distinct_same : (pre post : Roll) (e f : Entry) → e.job.seat ≡ f.job.seat → Distinct (pre ++ (e ∷ post)) → Distinct (pre ++ (f ∷ post))
distinct_same [] post e f q h = (subst (λ (n : ℕ). AbsentSeat n post) q h.0, h.1)
distinct_same (x ∷ pre) post e f q h = (absent_same x.job.seat pre post e f q h.0, distinct_same pre post e f q h.1)

-- an entry that goes
pub distinct_gone : (pre post : Roll) (e : Entry) → Distinct (pre ++ (e ∷ post)) → Distinct (pre ++ post)
distinct_gone [] post e h = h.1
distinct_gone (x ∷ pre) post e h = (absent_gone x.job.seat pre post e h.0, distinct_gone pre post e h.1)

-- a seat is some task's, or nobody's
pub record Seated (s : ℕ) (v : Roll) : Type 0 where
  pub pre : Roll
  pub post : Roll
  pub entry : Entry
  pub is : v ≡ pre ++ (entry ∷ post)
  pub seat : entry.job.seat ≡ s

pub seated_or : (s : ℕ) (v : Roll) → Seated s v ⊎ AbsentSeat s v
seated_or s [] = inr tt
seated_or s (e ∷ v) = ⊎_elim
    (λ (y : eqb e.job.seat s ≡ true). inl (record { pre = []; post = v; entry = e; is = refl; seat = eqb-true e.job.seat s y }))
    (λ (n : eqb e.job.seat s ≡ false). ⊎_elim
    (λ (f : Seated s v). inl (record { pre = e ∷ f.pre; post = f.post; entry = f.entry; is = ap (λ (u : Roll). e ∷ u) f.is; seat = f.seat }))
    (λ a. inr (n, a))
    (seated_or s v))
    (cases_Bool (eqb e.job.seat s))
