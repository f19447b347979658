-- What holds of the history after every list of calls, and that each call that succeeds keeps it. Of the values it says one thing: what
-- the calls have done is an order of steps in which a task's steps come after those of each earlier task that it conflicts with. Assumes
-- nothing; what such orders reach is handed over.
use Rattle.std.proofs.Common.{◌≡◌, ℕ, zero, suc, ◌+◌, ◌<◌, ◌≤◌, Bool, true, false, cond, ◌||◌, eqb, List, [], ◌∷◌, ◌++◌, length, Some, None, sym, refl, ap, ◌∙◌, subst, ⊎_elim, arith, length-append}
use Rattle.std.specs.List.{AllByRecursion as All}
use Rattle.std.proofs.ByRecursion.{All-append}
use Rattle.std.proofs.lemmas.Bool.{eqb-true, cases_lt}
use Rattle.task.specs.declared.Access.{Access}
use Rattle.task.specs.Access.{Numbered, readers, writers}
use Rattle.host.specs.Meaning.{Values, update, seats}
use Rattle.one_at_a_time.specs.Alone.{values_read, alone}
use Rattle.order.specs.Steps.{Step, bring, put, brings, puts, steps, Job, done}
use Rattle.order.specs.Order.{Open, Each, OutOfTheWay, Reached, enters, goes, leaves, nth, AnyOrderIsSerial}
use Rattle.order.proofs.Update.{update_here, update_other}
use Rattle.order.proofs.Opens.{all_both}
use Rattle.roll.specs.Roll.{Standing, waiting, ready, running, Entry, Roll, blocked, stand, find, change, without, wake, woken}
use Rattle.roll.specs.Tables.{tally, lasting_fault}
use Rattle.roll.specs.Calls.{Setting, submit, take, step, finish, succeeded, accepted, begun, said, stepped, finished}
use Rattle.roll.specs.History.{History, read_more, noted}
use Rattle.roll.proofs.Split.{Elsewhere, Split, split, count, count-++, once_itself, seats_of, seats-++, count_none}
use Rattle.roll.proofs.Keeps.{steps_left, waits, Rightly, clear_before, rightly_change, rightly_join, Safely, safely_without, rightly_wake, all_wake, seats_wake, length_wake, if_ready, readies, count_readies-++, count_wake}
use Rattle.roll.proofs.Owed.{due, length_steps, Paid, paid_wake}
use Rattle.roll.proofs.Fits.{Fitting, fitting}
use Rattle.roll.proofs.Changed.{all_found, all_without, seats_split, seats_changed, seats_removed, readies_split, readies_changed, readies_removed, length_changed, length_removed, all_changed, paid_changed}
use Rattle.roll.proofs.Opens.{opened, opens, opens-++, opens_wake, opens_elsewhere, opens_clear, opens_apart}

-- the brings among these steps go to the positions p, suc p and so on
abbrev InTurn : ℕ → List Step → Type 0
InTurn p [] = Unit {0}
InTurn p (bring x q ∷ ss) = (q ≡ p) × InTurn (suc p) ss
InTurn p (put x ∷ ss) = InTurn p ss

-- so it is with the steps that a task comes to
in_turn_puts : (p : ℕ) (ws : List Numbered) → InTurn p (puts ws)
in_turn_puts p [] = tt
in_turn_puts p (w ∷ ws) = in_turn_puts p ws

in_turn_brings : (p : ℕ) (rs ws : List Numbered) → InTurn p (brings p rs ++ puts ws)
in_turn_brings p [] ws = in_turn_puts p ws
in_turn_brings p (x ∷ rs) ws = (refl, in_turn_brings (suc p) rs ws)

-- the brings that are left to a task go on behind what it has read
abbrev ReadsOn : {V : Type 0} → (ℕ → List V) → Entry → Type 0
ReadsOn got e = InTurn (length (got e.job.seat)) (steps_left e.standing e.job.accesses)

-- a seat within the table of values held aside
abbrev pub Low : ℕ → Type 0
Low s = s < seats

-- an entry with such a seat
abbrev SeatedLow : Entry → Type 0
SeatedLow e = Low e.job.seat

-- for a history that began with the values w0
pub record Kept {V : Type 0} (m : Setting V) (w0 : Values V) (h : History V) : Type 0 where
  -- each task waits exactly if an earlier one conflicts with it
  pub rightly : Rightly [] h.state.roll
  -- the steps that were done are such an order, from which the unfinished tasks are left open
  pub reached : Reached m.host w0 (opens h.reads h.state.roll) h.state.values h.serial
  -- each unfinished task reads on behind what it has read, and what was read is as in the one-at-a-time run
  pub reads_on : All (ReadsOn h.got) h.state.roll
  pub agrees : (s p : ℕ) → p < length (h.got s) → nth (h.got s) p ≡ nth (h.reads s) p
  -- a seat is free, or one task's, or neither, and never two of these
  pub apart : (s : ℕ) → count s h.state.free_line + count s (seats_of h.state.roll) ≤ 1
  -- the ready line has the seats of the ready tasks
  pub lined : (s : ℕ) → count s h.state.ready_line ≡ count s (readies h.state.roll)
  -- what each task has spent and what is due of it make up the whole
  pub paid : All (Paid h.spent) h.state.roll
  -- every seat is within the table of values held aside
  pub low_free : All Low h.state.free_line
  pub low_roll : All SeatedLow h.state.roll
  -- the free seats and the tasks are as many as the seats
  pub total : length h.state.free_line + length h.state.roll ≡ m.tables.seats

-- a list with one more element at the end: the others stay
nth_front : {V : Type 0} (vs : List V) (v : V) (p : ℕ) → p < length vs → nth (vs ++ (v ∷ [])) p ≡ nth vs p
nth_front [] v p lt = absurd (omega arith)
nth_front (x ∷ vs) v zero lt = refl
nth_front (x ∷ vs) v (suc p) lt = nth_front vs v p (omega arith)

-- and it is the last
nth_end : {V : Type 0} (vs : List V) (v : V) → nth (vs ++ (v ∷ [])) (length vs) ≡ Some v
nth_end [] v = refl
nth_end (x ∷ vs) v = nth_end vs v

-- so what was read agrees after one more value that does
agrees_more : {V : Type 0} (vs all : List V) (v : V) → nth all (length vs) ≡ Some v → ((p : ℕ) → p < length vs → nth vs p ≡ nth all p) →
    (p : ℕ) → p < length (vs ++ (v ∷ [])) → nth (vs ++ (v ∷ [])) p ≡ nth all p
agrees_more vs all v e h p lt = ⊎_elim (λ (l : p < length vs). nth_front vs v p l ∙ h p l)
    (λ (g : length vs ≤ p). let z : length vs ≡ p = omega (arith, length-append vs (v ∷ [])) in
    subst (λ (q : ℕ). nth (vs ++ (v ∷ [])) q ≡ nth all q) z (nth_end vs v ∙ sym e))
    (cases_lt p (length vs))

-- two lists chosen by the same test agree if they do either way
agrees_at : {V : Type 0} (b : Bool) (g g' r r' : List V) → (b ≡ true → (p : ℕ) → p < length g → nth g p ≡ nth r p) → ((p : ℕ) → p < length g' → nth g' p ≡ nth r' p) →
    (p : ℕ) → p < length (cond b g g') → nth (cond b g g') p ≡ nth (cond b r r') p
agrees_at true g g' r r' h k p lt = h refl p lt
agrees_at false g g' r r' h k p lt = k p lt

-- a choice between equals
cond_same : {A : Type 0} (b : Bool) (x : A) → cond b x x ≡ x
cond_same true x = refl
cond_same false x = refl

-- a new entry, which waits or is ready: whether it waits, its steps, what is due of it, and the ready line
abbrev first_standing : Bool → Standing
first_standing b = cond b waiting ready

first_waits : (b : Bool) → waits (first_standing b) ≡ (b || false)
first_waits true = refl
first_waits false = refl

first_left : (xs : List Access) (b : Bool) → steps_left (first_standing b) xs ≡ steps xs
first_left xs true = refl
first_left xs false = refl

first_due : (xs : List Access) (b : Bool) → due xs (first_standing b) ≡ length (steps xs) + 2
first_due xs true = refl
first_due xs false = refl

first_lined : (x s : ℕ) (line : List ℕ) (b : Bool) → count x (cond b line (line ++ (s ∷ []))) ≡ count x line + count x (if_ready (first_standing b) s)
first_lined x s line true = omega arith
first_lined x s line false = count-++ x line (s ∷ [])

module _ {V : Type 0} (m : Setting V) (w0 : Values V) (h : History V) (i : Kept m w0 h) where
  -- the roll and the host's values
  abbrev here : Roll
  here = h.state.roll

  abbrev now : Values V
  now = h.state.values

  -- with these tasks open the present values are reached
  abbrev Reaches : List (Open V) → Type 0
  Reaches os = Reached m.host w0 os now h.serial

  -- a seat is one task's at most
  once : (s : ℕ) → count s (seats_of here) ≤ 1
  once s = omega (arith, i.apart s)

  -- submit: a task enters
  pub kept_submit : (name kind : ℕ) (xs : List Access) (s : ℕ) (free : List ℕ) → h.state.free_line ≡ s ∷ free → lasting_fault m.tables m.host.held xs ≡ None →
      Kept m w0 (noted m h (submit name kind xs) (succeeded (accepted h.state name kind xs s free)))
  kept_submit name kind xs s free e fine =
      let b : Bool = blocked here xs in
      let j : Job = record { seat = s; kind = kind; accesses = xs } in
      let n : Entry = record { name = name; job = j; standing = first_standing b } in
      let ok : Fitting m.tables m.host xs = fitting m.tables m.host xs fine in
      let low : Low s × All Low free = subst (All Low) e i.low_free in
      let elsewhere : All (Elsewhere s) here = count_none s here (omega (arith, i.apart s, ap (count s) e, once_itself s)) in
      let vs : List V = values_read h.serial xs in
      let reads : ℕ → List V = update h.reads s vs in
      let got : ℕ → List V = update h.got s [] in
      let spent : ℕ → ℕ = update h.spent s 0 in
      let new : List Step → List V → Open V = λ ss ws. record { job = j; left = ss; reads = ws } in
      let same : opens h.reads here ++ (new (steps xs) vs ∷ []) ≡ opens reads (here ++ (n ∷ [])) =
      sym (opens-++ reads here (n ∷ []) ∙ ap (λ (os : List (Open V)). os ++ (opened reads n ∷ [])) (opens_elsewhere h.reads s vs here elsewhere)
      ∙ ap (λ (ss : List Step). opens h.reads here ++ (new ss (reads s) ∷ [])) (first_left xs b)
      ∙ ap (λ (ws : List V). opens h.reads here ++ (new (steps xs) ws ∷ [])) (update_here h.reads s vs)) in
      record {
        rightly = rightly_join n here [] (first_waits b) i.rightly;
        reached = subst (λ (os : List (Open V)). Reached m.host w0 os now (alone m.host kind xs h.serial)) same
            (enters (opens h.reads here) now h.serial j (record { few = ok.few; held = ok.held; low = low.0 }) (opens_apart h.reads s here elsewhere) i.reached);
        reads_on = All-append (ReadsOn got) here (n ∷ [])
            (all_both (Elsewhere s) (ReadsOn h.got) (ReadsOn got)
            (λ d ne l. subst (λ (us : List V). InTurn (length us) (steps_left d.standing d.job.accesses)) (sym (update_other h.got s [] d.job.seat ne)) l)
            here elsewhere i.reads_on) (
              subst (λ (us : List V). InTurn (length us) (steps_left (first_standing b) xs)) (sym (update_here h.got s []))
                  (subst (InTurn 0) (sym (first_left xs b)) (in_turn_brings 0 (readers xs) (writers xs))),
              tt,
            );
        agrees = λ x p lt. agrees_at (eqb x s) [] (h.got x) vs (h.reads x) (λ e q z. absurd (omega (arith, z))) (i.agrees x) p lt;
        apart = λ x. omega (arith, i.apart x, ap (count x) e, ap (count x) (seats-++ here (n ∷ [])), count-++ x (seats_of here) (s ∷ []));
        lined = λ x. omega (arith, i.lined x, first_lined x s h.state.ready_line b, count_readies-++ x here (n ∷ []), count-++ x (if_ready (first_standing b) s) []);
        paid = All-append (Paid spent) here (n ∷ [])
            (all_both (Elsewhere s) (Paid h.spent) (Paid spent) (λ d ne p. omega (arith, p, update_other h.spent s 0 d.job.seat ne)) here elsewhere i.paid)
            (omega (arith, first_due xs b, length_steps xs, update_here h.spent s 0), tt);
        low_free = low.1;
        low_roll = All-append SeatedLow here (n ∷ []) i.low_roll (low.0, tt);
        total = omega (arith, i.total, ap (λ (l : List ℕ). length l) e, length-append here (n ∷ []));
      }

  -- take: the same steps are left
  pub kept_take : (s : ℕ) (line : List ℕ) (e : Entry) → h.state.ready_line ≡ s ∷ line → find s here ≡ Some (stand ready e) → Kept m w0 (noted m h take (begun h.state s line e ready))
  kept_take s line e q f =
      let k : Entry = stand ready e in
      let st : Standing = running (steps e.job.accesses) in
      let r : Split s k here = split s k here f in
      let same : opens h.reads here ≡ opens h.reads (change s st here) =
      ap (opens h.reads) r.is ∙ opens-++ h.reads r.pre (k ∷ r.post) ∙ sym (ap (opens h.reads) (r.changed st) ∙ opens-++ h.reads r.pre (stand st k ∷ r.post)) in
      record {
        rightly = subst (Rightly []) (sym (r.changed st)) (rightly_change st k refl r.pre r.post [] (subst (Rightly []) r.is i.rightly));
        reached = subst Reaches same i.reached;
        reads_on = all_changed r (ReadsOn h.got) (ReadsOn h.got) st (once s) (λ d ne x. x) (λ x. x) i.reads_on;
        agrees = i.agrees;
        apart = λ x. omega (arith, i.apart x, seats_changed r st x);
        lined = λ x. omega (arith, i.lined x, ap (count x) q, readies_split r x, readies_changed r st x, ap (λ (y : ℕ). tally (eqb y x)) r.sits_there);
        paid = paid_changed r h.spent st (once s) (omega arith) i.paid;
        low_free = i.low_free;
        low_roll = all_changed r SeatedLow SeatedLow st (once s) (λ d ne x. x) (λ x. x) i.low_roll;
        total = omega (arith, i.total, length_changed r st);
      }

  -- step: the next step of a task that no earlier one blocks
  module _ (s : ℕ) (e : Entry) (σ : Step) (ss : List Step) (r : Split s (stand (running (σ ∷ ss)) e) here) where
    -- the open tasks before it and behind it, and itself with these steps left
    abbrev before : List (Open V)
    before = opens h.reads r.pre

    abbrev behind : List (Open V)
    behind = opens h.reads r.post

    abbrev with-left : List Step → Open V
    with-left left = record { job = e.job; left = left; reads = h.reads e.job.seat }

    -- what the step leaves: the host's values, and the values that the task has read
    abbrev values-then : Values V
    values-then = done m.host e.job σ now

    abbrev got-then : List V
    got-then = read_more (said σ) (h.got s) (values-then.aside s)

    -- no earlier task conflicts with it, so that the step may be done next
    clear : Each (OutOfTheWay e.job) before
    clear = opens_clear h.reads e.job r.pre (clear_before (stand (running (σ ∷ ss)) e) r.pre r.post [] refl (subst (Rightly []) r.is i.rightly))

    -- the order so far, with the step as the next one of its task
    may_go : Reaches (before ++ (with-left (σ ∷ ss) ∷ behind))
    may_go = subst Reaches (ap (opens h.reads) r.is ∙ opens-++ h.reads r.pre (stand (running (σ ∷ ss)) e ∷ r.post)) i.reached

    -- and after it the order has gone on by one step
    gone_on : Reached m.host w0 (opens h.reads (change s (running ss) here)) values-then h.serial
    gone_on =
        subst (λ (os : List (Open V)). Reached m.host w0 os values-then h.serial)
        (sym (ap (opens h.reads) (r.changed (running ss)) ∙ opens-++ h.reads r.pre (stand (running ss) e ∷ r.post)))
        (goes before behind now h.serial e.job σ ss (h.reads e.job.seat) clear may_go)

  -- right after a bring, what stands in the seat's position is what its task reads there in the one-at-a-time run
  reads_next : AnyOrderIsSerial V → (s : ℕ) (e : Entry) (x : Numbered) (q : ℕ) (ss : List Step) (r : Split s (stand (running (bring x q ∷ ss)) e) here) →
      nth (h.reads s) q ≡ Some ((done m.host e.job (bring x q) now).aside s q)
  reads_next theorem s e x q ss r =
      let w : Values V = done m.host e.job (bring x q) now in
      let both : (w.aside e.job.seat q ≡ now.at x.address) × (nth (h.reads e.job.seat) q ≡ Some (now.at x.address)) =
      theorem.reads_agree m.host w0 (before s e (bring x q) ss r) (behind s e (bring x q) ss r) now h.serial e.job x q ss (h.reads e.job.seat)
      (clear s e (bring x q) ss r) (may_go s e (bring x q) ss r) in
      subst (λ (y : ℕ). nth (h.reads y) q ≡ Some (w.aside y q)) r.sits_there (both.1 ∙ ap (λ (v : V). Some v) (sym both.0))

  -- what a task has read after its next step is as in the one-at-a-time run
  next_agrees : AnyOrderIsSerial V → (s : ℕ) (e : Entry) (σ : Step) (ss : List Step) (r : Split s (stand (running (σ ∷ ss)) e) here) →
      (p : ℕ) → p < length (got-then s e σ ss r) → nth (got-then s e σ ss r) p ≡ nth (h.reads s) p
  next_agrees theorem s e (bring x q) ss r =
      let w : Values V = done m.host e.job (bring x q) now in
      let z : q ≡ length (h.got s) = (all_found r (ReadsOn h.got) i.reads_on).0 ∙ ap (λ (y : ℕ). length (h.got y)) r.sits_there in
      agrees_more (h.got s) (h.reads s) (w.aside s (length (h.got s)))
      (subst (λ (n : ℕ). nth (h.reads s) n ≡ Some (w.aside s n)) z (reads_next theorem s e x q ss r)) (i.agrees s)
  next_agrees theorem s e (put x) ss r = i.agrees s

  -- and it reads on behind that
  next_turn : (s : ℕ) (e : Entry) (σ : Step) (ss : List Step) (r : Split s (stand (running (σ ∷ ss)) e) here) → InTurn (length (got-then s e σ ss r)) ss
  next_turn s e (bring x q) ss r =
      let w : Values V = done m.host e.job (bring x q) now in
      let more : suc (length (h.got e.job.seat)) ≡ length (h.got s ++ (w.aside s (length (h.got s)) ∷ [])) =
      ap (λ (y : ℕ). suc (length (h.got y))) r.sits_there ∙ omega (arith, length-append (h.got s) (w.aside s (length (h.got s)) ∷ [])) in
      subst (λ (n : ℕ). InTurn n ss) more (all_found r (ReadsOn h.got) i.reads_on).1
  next_turn s e (put x) ss r = subst (λ (y : ℕ). InTurn (length (h.got y)) ss) r.sits_there (all_found r (ReadsOn h.got) i.reads_on)

  -- all of it after a step
  pub kept_step : AnyOrderIsSerial V → (s : ℕ) (e : Entry) (σ : Step) (ss : List Step) → find s here ≡ Some (stand (running (σ ∷ ss)) e) →
      Kept m w0 (noted m h (step s) (stepped m.host h.state s e.job (running (σ ∷ ss))))
  kept_step theorem s e σ ss f =
      let k : Entry = stand (running (σ ∷ ss)) e in
      let st : Standing = running ss in
      let r : Split s k here = split s k here f in
      let new : List V = got-then s e σ ss r in
      let got : ℕ → List V = update h.got s new in
      record {
        rightly = subst (Rightly []) (sym (r.changed st)) (rightly_change st k refl r.pre r.post [] (subst (Rightly []) r.is i.rightly));
        reached = gone_on s e σ ss r;
        reads_on = all_changed r (ReadsOn h.got) (ReadsOn got) st (once s)
            (λ d ne l. subst (λ (us : List V). InTurn (length us) (steps_left d.standing d.job.accesses)) (sym (update_other h.got s new d.job.seat ne)) l)
            (λ l. subst (λ (us : List V). InTurn (length us) ss) (sym (ap got r.sits_there ∙ update_here h.got s new)) (next_turn s e σ ss r)) i.reads_on;
        agrees = λ x p lt. subst (λ (us : List V). nth (got x) p ≡ nth us p) (cond_same (eqb x s) (h.reads x))
            (agrees_at (eqb x s) new (h.got x) (h.reads x) (h.reads x)
            (λ q. subst (λ (y : ℕ). (p : ℕ) → p < length new → nth new p ≡ nth (h.reads y) p) (sym (eqb-true x s q)) (next_agrees theorem s e σ ss r)) (i.agrees x) p lt);
        apart = λ x. omega (arith, i.apart x, seats_changed r st x);
        lined = λ x. omega (arith, i.lined x, readies_split r x, readies_changed r st x);
        paid = paid_changed r h.spent st (once s) (omega arith) i.paid;
        low_free = i.low_free;
        low_roll = all_changed r SeatedLow SeatedLow st (once s) (λ d ne x. x) (λ x. x) i.low_roll;
        total = omega (arith, i.total, length_changed r st);
      }

  -- finish: a task with no step left leaves, and a waking leaves the others their steps
  pub kept_finish : (s : ℕ) (e : Entry) → find s here ≡ Some (stand (running []) e) → Kept m w0 (noted m h (finish s) (finished h.state s (running [])))
  kept_finish s e f =
      let k : Entry = stand (running []) e in
      let r : Split s k here = split s k here f in
      let rest : Roll = without s here in
      let all : Reaches (opens h.reads r.pre ++ (opened h.reads k ∷ opens h.reads r.post)) =
      subst Reaches (ap (opens h.reads) r.is ∙ opens-++ h.reads r.pre (k ∷ r.post)) i.reached in
      let same : opens h.reads r.pre ++ opens h.reads r.post ≡ opens h.reads (wake [] rest) =
      sym (opens_wake h.reads [] rest ∙ ap (opens h.reads) r.removed ∙ opens-++ h.reads r.pre r.post) in
      record {
        rightly = rightly_wake [] [] rest (λ xs. refl) (subst (Safely []) (sym r.removed) (safely_without k r.pre r.post [] (subst (Rightly []) r.is i.rightly)));
        reached = subst Reaches same (leaves (opens h.reads r.pre) (opens h.reads r.post) now h.serial e.job (h.reads e.job.seat) all);
        reads_on = all_wake (λ j ss. InTurn (length (h.got j.seat)) ss) [] rest (all_without r (ReadsOn h.got) i.reads_on);
        agrees = i.agrees;
        apart = λ x. omega (arith, i.apart x, seats_split r x, seats_removed r x, ap (count x) (seats_wake [] rest), count-++ x h.state.free_line (s ∷ []), ap (λ (y : ℕ). tally (eqb y x)) r.sits_there);
        lined = λ x. omega (arith, i.lined x, readies_split r x, readies_removed r x, count_wake x [] rest, count-++ x h.state.ready_line (woken [] rest));
        paid = paid_wake h.spent [] rest (all_without r (Paid h.spent) i.paid);
        low_free = All-append Low h.state.free_line (s ∷ []) i.low_free (subst Low r.sits_there (all_found r SeatedLow i.low_roll), tt);
        low_roll = all_wake (λ j ss. Low j.seat) [] rest (all_without r SeatedLow i.low_roll);
        total = omega (arith, i.total, length-append h.state.free_line (s ∷ []), length_wake [] rest, length_removed r);
      }
