-- The tables decide of each listed seat whether an earlier task blocks it. Assumes nothing.
--   entry_at, idle_at    the entry of a seat, and whether nothing blocks its task
--   bares_split          the roll of a list of seats that is split at one of them
--   tables_decide        what the tables say of the seats in order
use Rattle.std.proofs.Common.{◌≡◌, ℕ, Bool, true, false, not, eqb, List, [], ◌∷◌, ◌++◌, map, refl, ap, ◌∙◌, subst}
use mathlib.Core.List.{map-append}
use Rattle.claims.specs.Queues.{bare, bares}
use Rattle.claims.proofs.Alike.{bares-++, blocked_bares}
use Rattle.roll.specs.Roll.{Entry, Roll, blocked}
use Rattle.task.specs.declared.Access.{Access}
use Rattle.task.specs.Task.{accesses_of}
use Rattle.tracker.specs.declared.tracker.Tracker.{Tracker}
use Rattle.tracker.specs.Tracked.{Tracked, blocked_at}
use Rattle.tracker.proofs.Laws.{tracked_blocked}
use Rattle.manager.specs.declared.inner.Inner.{Inner}
use Rattle.manager.specs.Model.{seat_at, entry_of}
use Rattle.manager.proofs.Wakes.{Decides}

-- the entry of a seat, and whether nothing blocks its task
abbrev pub entry_at : Inner → ℕ → Entry
entry_at i t = entry_of (seat_at i t) t

abbrev pub idle_at : Inner → ℕ → Bool
idle_at i t = eqb (blocked_at i.tracker t) 0

-- the roll of a list of seats that is split at one of them, with nothing but seats and accesses
pub bares_split : (f : ℕ → Entry) (pre : List ℕ) (t : ℕ) (post : List ℕ) →
    bares (map f (pre ++ (t ∷ post))) ≡ bares (map f pre) ++ (bare (f t).job.seat (f t).job.accesses ∷ bares (map f post))
bares_split f pre t post = ap bares (map-append f pre (t ∷ post)) ∙ bares-++ (map f pre) (f t ∷ map f post)

not_turn : (a b : Bool) → a ≡ not b → b ≡ not a
not_turn true true e = e
not_turn true false e = refl
not_turn false true e = refl
not_turn false false e = e

-- tables that stand for the roll of these seats decide of each whether an earlier one's task blocks its own
pub tables_decide : (i : Inner) (z : Tracker) (l : List ℕ) → Tracked z (bares (map (entry_at i) l)) → Decides (entry_at i) (λ t. eqb (blocked_at z t) 0) [] l
tables_decide i z l k pre post t e =
    let xs : List Access = accesses_of (seat_at i t).task in
    let split = subst (λ (v : Roll). Tracked z v) (ap (λ (m : List ℕ). bares (map (entry_at i) m)) e ∙ bares_split (entry_at i) pre t post) k in
    let law = tracked_blocked z (bares (map (entry_at i) pre)) (bares (map (entry_at i) post)) (bare t xs) split in
    blocked_bares (map (entry_at i) pre) xs ∙ not_turn (eqb (blocked_at z t) 0) (blocked (bares (map (entry_at i) pre)) xs) law
