-- The law over runs, from what holds after every list of calls and from what orders of steps reach, which is handed over. Assumes
-- nothing.
use Rattle.std.proofs.Common.{◌≡◌, ℕ, zero, suc, ◌+◌, ◌<◌, ◌≤◌, Bool, true, false, cond, eqb, ◌↔◌, List, [], ◌∷◌, ◌++◌, length, Some, None, Option, sym, refl, ap, ◌∙◌, subst, arith}
use Rattle.std.specs.List.{AllByRecursion as All}
use Rattle.std.proofs.lemmas.Bool.{true≢false, eq-eqb, ne_eqb, eqb-true, cond-true}
use Rattle.task.specs.declared.Access.{Access}
use Rattle.host.specs.Meaning.{Values, seats}
use Rattle.order.specs.Steps.{steps}
use Rattle.order.specs.Order.{Each, begins, AnyOrderIsSerial}
use Rattle.roll.specs.Roll.{Standing, waiting, ready, running, Entry, Roll, sits, stand, find, change, without, wake}
use Rattle.roll.specs.Tables.{tally, lasting_fault, stall, by_tables, submit_fault}
use Rattle.roll.specs.Calls.{Setting, setting, State, Call, submit, take, step, finish, Outcome, give_seat, begun_at, took, stepped_at, finished_at, perform, numbers}
use Rattle.roll.specs.History.{History, noted, next, after, beginning, works, enters, worked, entered, owed}
use Rattle.roll.specs.Law.{Idle, Stalls, Holds, Law}
use Rattle.roll.proofs.Split.{Split, split, count, count-++, once_itself, seats_of}
use Rattle.roll.proofs.Keeps.{Rightly, if_ready, readies}
use Rattle.roll.proofs.Owed.{due, dues, dues-++, dues_wake, dues_none, owed_dues, paid_finish}
use Rattle.roll.proofs.ByCall.{by_call}
use Rattle.roll.proofs.Fits.{fitting, no_fault, enters_if, stalls_none}
use Rattle.roll.proofs.Opens.{opens}
use Rattle.roll.proofs.Invariant.{Low, Kept, kept_submit, kept_take, kept_step, kept_finish}

-- a ready entry is an entry
ready_few : (s x : ℕ) (st : Standing) → count s (if_ready st x) ≤ tally (eqb x s)
ready_few s x waiting = omega arith
ready_few s x ready = omega arith
ready_few s x (running ss) = omega arith

-- so a seat is a ready entry's at most as often as an entry's
readies_few : (s : ℕ) (roll : Roll) → count s (readies roll) ≤ count s (seats_of roll)
readies_few s [] = omega arith
readies_few s (e ∷ es) =
    omega (arith, readies_few s es, ready_few s e.job.seat e.standing, count-++ s (if_ready e.standing e.job.seat) (readies es))

-- the entry of a seat that is a ready one's is found
ready_found : (s : ℕ) (roll : Roll) → 1 ≤ count s (readies roll) → count s (seats_of roll) ≤ 1 → (e : Entry) × (find s roll ≡ Some (stand ready e))
ready_found s [] le few = absurd (omega (arith, le))
ready_found s (e ∷ es) le few = by e.standing (sits s e) refl le few (λ m f. ready_found s es m f)
  where
    by : (st : Standing) (b : Bool) → sits s e ≡ b → 1 ≤ count s (if_ready st e.job.seat ++ readies es) → tally b + count s (seats_of es) ≤ 1 →
        (1 ≤ count s (readies es) → count s (seats_of es) ≤ 1 → (d : Entry) × (find s es ≡ Some (stand ready d))) →
        (d : Entry) × (cond b (Some (stand st e)) (find s es) ≡ Some (stand ready d))
    by ready true q m f rest = (e, refl)
    by waiting true q m f rest = absurd (omega (arith, readies_few s es))
    by (running ss) true q m f rest = absurd (omega (arith, readies_few s es))
    by ready false q m f rest = rest (omega (arith, ap tally q, m)) (omega (arith, f))
    by waiting false q m f rest = rest m (omega (arith, f))
    by (running ss) false q m f rest = rest m (omega (arith, f))

module _ {V : Type 0} (theorem : AnyOrderIsSerial V) (m : Setting V) (w0 : Values V) (h : History V) (i : Kept m w0 h) where
  abbrev here : Roll
  here = h.state.roll

  -- every call keeps what holds
  kept_next : (c : Call) → Kept m w0 (next m h c)
  kept_next =
      by_call m h.state (λ c o. Kept m w0 (noted m h c o)) (λ c fault. i) (kept_submit m w0 h i) (kept_take m w0 h i) (kept_step m w0 h i theorem) (kept_finish m w0 h i)

  -- each take, step or finish that succeeds pays one of what is due
  abbrev Pays : Call → Outcome V → Type 0
  Pays c o = enters c o ≡ 0 → works c o + dues (noted m h c o).state.roll ≡ dues here

  -- a change of standing after which one call less is due
  pays_change : (s : ℕ) (k : Entry) (st : Standing) → find s here ≡ Some k → due k.job.accesses k.standing ≡ suc (due k.job.accesses st) → 1 + dues (change s st here) ≡ dues here
  pays_change s k st f less =
      let r : Split s k here = split s k here f in
      omega (arith, ap dues (r.changed st), dues-++ r.pre (stand st k ∷ r.post), ap dues r.is, dues-++ r.pre (k ∷ r.post), less)

  -- a removal, and the waking after it
  pays_finish : (s : ℕ) (e : Entry) → find s here ≡ Some (stand (running []) e) → 1 + dues (wake [] (without s here)) ≡ dues here
  pays_finish s e f =
      let k : Entry = stand (running []) e in
      let r : Split s k here = split s k here f in
      omega (arith, dues_wake [] (without s here), ap dues r.removed, dues-++ r.pre r.post, ap dues r.is, dues-++ r.pre (k ∷ r.post))

  -- every call
  pays : (c : Call) → Pays c (perform m h.state c)
  pays =
      by_call m h.state Pays (λ c fault z. omega arith) (λ name kind xs s free e q z. absurd (omega (arith, z)))
      (λ s line e q f z. pays_change s (stand ready e) (running (steps e.job.accesses)) f (omega arith))
      (λ s e σ ss f z. pays_change s (stand (running (σ ∷ ss)) e) (running ss) f (omega arith)) (λ s e f z. pays_finish s e f)

  -- at an empty roll no task is open, so the values are those of the one-at-a-time run
  values_agree : Idle h → (a : ℕ) → m.host.held a ≡ true → h.state.values.at a ≡ h.serial a
  values_agree idle a held =
      let none_left : Each (λ o. o.left ≡ []) (opens h.reads here) = subst (λ (r : Roll). Each (λ o. o.left ≡ []) (opens h.reads r)) (sym idle) tt in
      ap (λ (f : ℕ → V). f a) (theorem.values_agree m.host w0 (opens h.reads here) h.state.values h.serial i.reached none_left)

  -- a take succeeds if the ready line is not empty
  line_taken : (line : List ℕ) → h.state.ready_line ≡ line → (s : ℕ) → 1 ≤ count s line → works {V = V} take (took h.state line) ≡ 1
  line_taken [] e s le = absurd (omega (arith, le))
  line_taken (x ∷ line) e s le =
      let f : (d : Entry) × (find x here ≡ Some (stand ready d)) = ready_found x here (omega (arith, i.lined x, ap (count x) e, once_itself x)) (omega (arith, i.apart x)) in
      subst (λ (o : Option Entry). works take (begun_at h.state x line o) ≡ 1) (sym f.1) refl

  -- the first task of the roll can be taken, or its next step done, or it can be finished
  first_found : (k : Entry) (es : Roll) → here ≡ k ∷ es → find k.job.seat here ≡ Some k
  first_found k es e = ap (find k.job.seat) e ∙ cond-true (eqb k.job.seat k.job.seat) (Some k) (find k.job.seat es) (eq-eqb k.job.seat k.job.seat refl)

  -- by its standing: it does not wait, since there is no earlier task
  first_goes : (k : Entry) (st : Standing) (es : Roll) → here ≡ stand st k ∷ es → (c : Call) × (works c (perform m h.state c) ≡ 1)
  first_goes k waiting es e = absurd (true≢false (subst (Rightly []) e i.rightly).0)
  first_goes k ready es e =
      let s : ℕ = k.job.seat in
      (take, line_taken h.state.ready_line refl s (omega (arith, i.lined s, ap (λ (r : Roll). count s (readies r)) e, once_itself s)))
  first_goes k (running []) es e =
      let s : ℕ = k.job.seat in
      (finish s, subst (λ (o : Option Entry). works (finish s) (finished_at h.state s o) ≡ 1) (sym (first_found (stand (running []) k) es e)) refl)
  first_goes k (running (σ ∷ ss)) es e =
      let s : ℕ = k.job.seat in
      (step s, subst (λ (o : Option Entry). works (step s) (stepped_at m.host h.state s o) ≡ 1) (sym (first_found (stand (running (σ ∷ ss)) k) es e)) refl)

  some_goes : (roll : Roll) → here ≡ roll → (roll ≡ [] → ⊥) → (c : Call) × (works c (perform m h.state c) ≡ 1)
  some_goes [] e some_left = absurd (some_left refl)
  some_goes (k ∷ es) e some_left = first_goes k k.standing es e

  -- so while there is a task, some call succeeds
  goes_on : (Idle h → ⊥) → (c : Call) × (works c (perform m h.state c) ≡ 1)
  goes_on some_left = some_goes here refl some_left

module _ {V : Type 0} (theorem : AnyOrderIsSerial V) (m : Setting V) (w0 : Values V) where
  -- what holds is kept by every list of calls
  kept_after : (h : History V) → Kept m w0 h → (cs : List Call) → Kept m w0 (after m h cs)
  kept_after h i [] = i
  kept_after h i (c ∷ cs) = kept_after (next m h c) (kept_next theorem m w0 h i c) cs

  -- what succeeds until the next accepted submission, and what is due then, make up what was due
  pays_all : (h : History V) → Kept m w0 h → (cs : List Call) → entered m h cs ≡ 0 → worked m h cs + dues (after m h cs).state.roll ≡ dues h.state.roll
  pays_all h i [] z = omega arith
  pays_all h i (c ∷ cs) z =
      omega (arith, pays theorem m w0 h i c (omega (arith, z)), pays_all (next m h c) (kept_next theorem m w0 h i c) cs (omega (arith, z)))

  owed_exactly : (h : History V) → Kept m w0 h → (cs : List Call) → entered m h cs ≡ 0 → Idle (after m h cs) ↔ (worked m h cs ≡ owed h.spent h.state.roll)
  owed_exactly h i cs z =
      let all : worked m h cs + dues (after m h cs).state.roll ≡ dues h.state.roll = pays_all h i cs z in
      let same : owed h.spent h.state.roll ≡ dues h.state.roll = owed_dues h.spent h.state.roll i.paid in
      (λ e. omega (arith, all, same, ap dues e), λ e. dues_none (after m h cs).state.roll (omega (arith, all, same, e)))

  -- a submission that stalls has no lasting fault, so that beside an empty roll it has none
  stalled_is_accepted : (h : History V) → Kept m w0 h → (name kind : ℕ) (xs : List Access) → Stalls (perform m h.state (submit name kind xs)) →
      (cs : List Call) → Idle (after m h cs) → enters (submit name kind xs) (perform m (after m h cs).state (submit name kind xs)) ≡ 1
  stalled_is_accepted h i name kind xs stalls cs idle =
      let fine : lasting_fault m.tables m.host.held xs ≡ None =
      stalls_none m.tables m.host.held h.state name kind xs (by_tables (stall m.tables h.state.roll h.state.free_line xs)) (give_seat h.state.free_line) stalls in
      let b : State V = (after m h cs).state in
      let le : 1 ≤ length b.free_line =
      omega (arith, (kept_after h i cs).total, ap (λ (r : Roll). length r) idle, (fitting m.tables m.host xs fine).some_seat) in
      enters_if b name kind xs (submit_fault m.tables m.host.held b.roll b.free_line xs) b.free_line
      (no_fault m.tables m.host xs fine b.roll b.free_line idle le) le

  -- all clauses of the law
  holds : (h : History V) → Kept m w0 h → Holds m h
  holds h i = record {
    reads_agree = i.agrees;
    values_agree = values_agree theorem m w0 h i;
    goes_on = goes_on theorem m w0 h i;
    owed_exactly = owed_exactly h i;
    owes_its_finish = paid_finish h.spent h.state.roll i.paid;
    stalled_is_accepted = stalled_is_accepted h i;
  }

-- the numbers from i on: none is below i, each stands there once, and they are as many as they should be
numbers_below : (n i s : ℕ) → s < i → count s (numbers i n) ≡ 0
numbers_below zero i s lt = refl
numbers_below (suc n) i s lt = omega (arith, ap tally (ne_eqb i s (λ e. omega arith)), numbers_below n (suc i) s (omega arith))

numbers_once : (n i s : ℕ) → count s (numbers i n) ≤ 1
numbers_once zero i s = omega arith
numbers_once (suc n) i s = by (eqb i s) refl (numbers_once n (suc i) s)
  where
    by : (b : Bool) → eqb i s ≡ b → count s (numbers (suc i) n) ≤ 1 → tally b + count s (numbers (suc i) n) ≤ 1
    by true e le = omega (arith, numbers_below n (suc i) s (omega (arith, eqb-true i s e)))
    by false e le = omega (arith, le)

numbers_low : (n i : ℕ) → i + n ≤ seats → All Low (numbers i n)
numbers_low zero i le = tt
numbers_low (suc n) i le = (omega arith, numbers_low n (suc i) (omega arith))

numbers_length : (n i : ℕ) → length (numbers i n) ≡ n
numbers_length zero i = refl
numbers_length (suc n) i = ap suc (numbers_length n (suc i))

-- what holds of a manager that was just made
kept_beginning : {V : Type 0} (m : Setting V) (w0 : Values V) → m.tables.seats ≤ seats → Kept m w0 (beginning m w0)
kept_beginning m w0 le = record {
  rightly = tt;
  reached = begins;
  reads_on = tt;
  agrees = λ s p lt. absurd (omega (arith, lt));
  apart = λ s. omega (arith, numbers_once m.tables.seats 0 s);
  lined = λ s. refl;
  paid = tt;
  low_free = numbers_low m.tables.seats 0 (omega arith);
  low_roll = tt;
  total = omega (arith, numbers_length m.tables.seats 0);
}

-- the law, if any order of steps is serial
pub law : {V : Type 0} → AnyOrderIsSerial V → Law V
law {V} theorem host w0 seats versions cs =
    let m : Setting V = setting host seats versions in
    holds theorem m w0 (after m (beginning m w0) cs) (kept_after theorem m w0 (beginning m w0) (kept_beginning m w0 (omega arith)) cs)
