-- What each call makes of the fields when a task enters, and that together they are `Entering`. Assumes nothing.
use Rattle.std.proofs.Common.{◌≡◌, ℕ, ◌<◌, ◌≤◌, Bool, true, false, cond, not, ltb, List, [], ◌∷◌, ◌++◌, length, get_or, set, Some, None, vec_items, Option, sym, refl, ap, ◌∙◌, arith, MatchOption}
use Rattle.std.specs.Vec.{with_item}
use Rattle.std.proofs.lemmas.List.{length-take}
use Rattle.std.proofs.lemmas.Bool.{lt-ltb}
use Rattle.fault.specs.declared.TableFault.{TableFault}
use Rattle.fault.specs.declared.TableFault.TheVariants.{NeverFits}
use Rattle.task.specs.declared.Access.{Access}
use Rattle.task.specs.declared.tasks.Task.{Task}
use Rattle.task.specs.Task.{accesses_of}
use Rattle.roll.specs.Roll.{Roll, blocked}
use Rattle.roll.specs.Tables.{Tables, never_fits, stall}
use Rattle.acceptance.specs.declared.Acceptance.{Acceptance}
use Rattle.acceptance.specs.Listed.{member, listed}
use Rattle.claims.specs.Queues.{bare, bares, Apart, AbsentSeat}
use Rattle.ring.specs.declared.Ring.{Ring}
use Rattle.ring.specs.Model.{contents_of}
use Rattle.seat.specs.declared.seats.Seat.{Seat}
use Rattle.seat.specs.declared.Standing.{Standing}
use Rattle.seat.specs.declared.Event.TheVariants.{Entered}
use Rattle.seat.specs.Phases.{entered, moved, or_else, is_free_in}
use Rattle.tracker.specs.declared.tracker.Tracker.{Tracker}
use Rattle.tracker.specs.Tracked.{Tracked, sized}
use Rattle.manager.specs.declared.inner.Inner.{Inner}
use Rattle.manager.specs.Model.{seat_at, roll_of, ready_of, free_of, tables_of}
use Rattle.manager.specs.Sound.{is_free, Sound}
use Rattle.manager.specs.Entered.{table_fault}
use Rattle.manager.proofs.Fits.{stall_bares}
use Rattle.manager.proofs.Seats.{lent_is, seat_set, seat_other}
use Rattle.manager.proofs.Standings.{only_free}
use Rattle.manager.proofs.FirstFree.{first_free, first_low, not_listed, few_tasks, ready_room, seat_absent}
use Rattle.manager.proofs.Entering.{Entering}

-- a line that is not empty gives up its first
popped : (o : Option ℕ) (q q' : Ring ℕ) (s : ℕ) (rest : List ℕ) → contents_of q ≡ s ∷ rest →
    MatchOption o ((contents_of q ≡ []) × (q' ≡ q)) (λ x. contents_of q ≡ x ∷ contents_of q') → contents_of q ≡ s ∷ contents_of q'
popped None q q' s rest first h = let none : contents_of q ≡ [] = h.0 in absurd cc
popped (Some x) q q' s rest first h =
    let both : x ∷ contents_of q' ≡ s ∷ rest = sym h ∙ first in
    let same : x ≡ s = cc in
    h ∙ ap (λ (t : ℕ). t ∷ contents_of q') same

-- a free seat takes the task
occupied_task : (r r' : Seat) (task : Task) → is_free r.standing ≡ true → r'.task ≡ cond (is_free_in r.standing) task r.task → r'.task ≡ task
occupied_task r r' task free e = e ∙ ap (λ (st : Standing). cond (is_free_in st) task r.task) (only_free r.standing free)

occupied_standing : (r r' : Seat) (xs : List Access) (b : Bool) → is_free r.standing ≡ true →
    r'.standing ≡ or_else (moved xs r.standing (Entered b)) r.standing → r'.standing ≡ entered b
occupied_standing r r' xs b free e = e ∙ ap (λ (st : Standing). or_else (moved xs st (Entered b)) st) (only_free r.standing free)

-- a task has at most 15 accesses
few_accesses : (t : Task) → length (accesses_of t) ≤ 15
few_accesses t = let few = t.few in omega (arith, length-take t.count t.slots)

-- a task that the tables take does not stall
goes_on : (n : Bool) (fault : Option TableFault) → cond n (Some NeverFits) fault ≡ None → fault ≡ None
goes_on true fault h = absurd cc
goes_on false fault h = h

no_stall : (z : Tables) (v : Roll) (free : List ℕ) (xs : List Access) (s : ℕ) (rest : List ℕ) → free ≡ s ∷ rest → table_fault z v free xs ≡ None →
    stall z (bares v) (0 ∷ []) xs ≡ None
no_stall z v free xs s rest first fits =
    sym (stall_bares z v (0 ∷ []) xs) ∙ goes_on (never_fits z xs) (stall z v (s ∷ rest) xs) (ap (λ (l : List ℕ). table_fault z v l xs) (sym first) ∙ fits)

-- what the dependence tables say when a task enters
abbrev Joins : Tracker → Tracker → ℕ → List Access → Bool → Type 0
Joins tr tr' s xs b =
    (v : Roll) (versions : ℕ) → Tracked tr v → AbsentSeat s v → length v < 256 → Apart xs → length xs ≤ 15 → versions ≤ 512 →
    stall (sized 0 versions) v (0 ∷ []) xs ≡ None → (b ≡ blocked v xs) × Tracked tr' (v ++ (bare s xs ∷ []))

module _ (i : Inner) (sound : Sound i) (s : ℕ) (task : Task) (rest : List ℕ) (first : free_of i ≡ s ∷ rest) where
  -- so the tables stand for the roll with the task
  joined : (tr' : Tracker) (xs : List Access) (b : Bool) → xs ≡ accesses_of task → Joins i.tracker tr' s xs b → Apart (accesses_of task) →
      table_fault (tables_of i) (roll_of i) (free_of i) (accesses_of task) ≡ None →
      (b ≡ blocked (bares (roll_of i)) (accesses_of task)) × Tracked tr' (bares (roll_of i) ++ (bare s (accesses_of task) ∷ []))
  joined tr' xs b same joins apart fits =
      let here : Joins i.tracker tr' s (accesses_of task) b = rw same at joins in
      let seated = sound.seated in
      here (bares (roll_of i)) i.versions seated.tracked (seat_absent i seated s rest first) (few_tasks i seated s rest first) apart (few_accesses task)
      seated.few_versions (no_stall (tables_of i) (roll_of i) (free_of i) (accesses_of task) s rest first fits)

  -- the record that is lent is that of the seat
  lent_free : (r : Seat) → r ≡ get_or (vec_items i.table.records) s r → is_free r.standing ≡ true
  lent_free r e =
      ap (λ (x : Seat). is_free x.standing) (lent_is i s r sound.seated.full (first_low i sound.seated s rest first) e) ∙ first_free i sound.seated s rest first

  -- the seat is listed
  pushed : (order' : Acceptance) (r : Bool) → r ≡ not (member s (listed i.order)) → listed order' ≡ cond r (listed i.order ++ (s ∷ [])) (listed i.order) →
      listed order' ≡ listed i.order ++ (s ∷ [])
  pushed order' r answer list =
      list ∙ ap (λ (v : Bool). cond v (listed i.order ++ (s ∷ [])) (listed i.order)) (answer ∙ ap not (not_listed i sound.seated s rest first))

  -- and is in the ready line, which had room
  pub readied : (ready' : Ring ℕ) (r : Bool) → r ≡ ltb (length (ready_of i)) 256 → contents_of ready' ≡ cond r (ready_of i ++ (s ∷ [])) (ready_of i) →
      contents_of ready' ≡ ready_of i ++ (s ∷ [])
  readied ready' r answer line =
      line ∙ ap (λ (v : Bool). cond v (ready_of i ++ (s ∷ [])) (ready_of i)) (answer ∙ lt-ltb (length (ready_of i)) 256 (ready_room i sound.seated s rest first))

  -- all steps together, by what each call says; at is the place of the seat's record
  pub entering : (at : ℕ) → at ≡ s → (r r' : Seat) (b : Bool) → r ≡ get_or (vec_items i.table.records) at r →
      r'.task ≡ cond (is_free_in r.standing) task r.task → r'.standing ≡ or_else (moved (accesses_of task) r.standing (Entered b)) r.standing →
      (o : Option ℕ) (free' : Ring ℕ) → MatchOption o ((free_of i ≡ []) × (free' ≡ i.free)) (λ x. free_of i ≡ x ∷ contents_of free') →
      (order' : Acceptance) (lists : Bool) → lists ≡ not (member s (listed i.order)) → listed order' ≡ cond lists (listed i.order ++ (s ∷ [])) (listed i.order) →
      (tr' : Tracker) (xs : List Access) → xs ≡ accesses_of task → Joins i.tracker tr' s xs b → Apart (accesses_of task) →
      table_fault (tables_of i) (roll_of i) (free_of i) (accesses_of task) ≡ None →
      (ready' : Ring ℕ) → contents_of ready' ≡ cond b (ready_of i) (ready_of i ++ (s ∷ [])) →
      Entering i (record { table = record { records = with_item i.table.records at r' }; order = order'; ready = ready'; free = free'; tracker = tr'; seats = i.seats; versions = i.versions }) s task b
  entering at here r r' b lent task-is stands o free' pop order' lists answer list tr' xs same joins apart fits ready' line =
      let i' : Inner = record { table = record { records = with_item i.table.records at r' }; order = order'; ready = ready'; free = free'; tracker = tr'; seats = i.seats; versions = i.versions } in
      let items = ap (λ (p : ℕ). set (vec_items i.table.records) p r') here in
      let set : seat_at i' s ≡ r' = seat_set i i' s r' items sound.seated.full (first_low i sound.seated s rest first) in
      let free = lent_free r (rw here at lent) in
      let tables = joined tr' xs b same joins apart fits in
      record {
        full = sound.seated.full;
        seats = refl;
        versions = refl;
        holds = ap (λ (x : Seat). x.task) set ∙ occupied_task r r' task free task-is;
        stands = ap (λ (x : Seat). x.standing) set ∙ occupied_standing r r' (accesses_of task) b free stands;
        others = seat_other i i' s r' items;
        order = pushed order' lists answer list;
        free = popped o i.free free' s rest first pop;
        ready = line;
        blocks = tables.0;
        tracked = tables.1;
      }
