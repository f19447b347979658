-- What a roll uses of the tables: it follows its live addresses, and grows by what a task needs that enters at the end. Assumes nothing.
use Rattle.std.proofs.Common.{◌≡◌, ℕ, ◌+◌, Bool, true, false, not, ◌&&◌, ◌||◌, eqb, List, [], ◌∷◌, ◌++◌, sym, refl, ap, ◌∙◌, ap₂, add-zero, add_assoc, zero-add}
use mathlib.Core.Bool.{or-false}
use Rattle.task.specs.declared.Access.{Access}
use Rattle.task.specs.Access.{writes}
use Rattle.admission.specs.Admission.{occurs}
use Rattle.roll.specs.Roll.{Entry, Roll}
use Rattle.roll.specs.Tables.{Tables, tally, live, needs, used, fresh, occupied}

-- rolls with the same live addresses
abbrev pub LiveAlike : Roll → Roll → Type 0
LiveAlike e f = (a : ℕ) → live e a ≡ live f a

-- one more entry before both
pub live_more : (t : Entry) (e f : Roll) → LiveAlike e f → LiveAlike (t ∷ e) (t ∷ f)
live_more t e f h a = ap (λ b. occurs a t.job.accesses || b) (h a)

-- beside them a submission needs as many versions, and has as many new addresses of a set
pub needs_live : (e f : Roll) (xs : List Access) → LiveAlike e f → needs e xs ≡ needs f xs
needs_live e f [] h = refl
needs_live e f (x ∷ xs) h = ap₂ (λ b n. tally (writes x || not b) + n) (h x.address) (needs_live e f xs h)

-- and has as many new addresses of a set
pub fresh_live : (z : Tables) (set : ℕ) (e f : Roll) (xs : List Access) → LiveAlike e f → fresh z e set xs ≡ fresh z f set xs
fresh_live z set e f [] h = refl
fresh_live z set e f (x ∷ xs) h = ap₂ (λ b n. tally (eqb (z.set_of x.address) set && not b) + n) (h x.address) (fresh_live z set e f xs h)

-- and so a roll after them
pub used_live : (e f v : Roll) → LiveAlike e f → used e v ≡ used f v
used_live e f [] h = refl
used_live e f (t ∷ v) h = ap₂ ◌+◌ (needs_live e f t.job.accesses h) (used_live (t ∷ e) (t ∷ f) v (live_more t e f h))

-- and has as many live addresses of a set
pub occupied_live : (z : Tables) (set : ℕ) (e f v : Roll) → LiveAlike e f → occupied z set e v ≡ occupied z set f v
occupied_live z set e f [] h = refl
occupied_live z set e f (t ∷ v) h = ap₂ ◌+◌ (fresh_live z set e f t.job.accesses h) (occupied_live z set (t ∷ e) (t ∷ f) v (live_more t e f h))

-- a roll before the earlier entries, the latest first
abbrev before : Roll → Roll → Roll
before [] e = e
before (t ∷ v) e = before v (t ∷ e)

-- the live addresses do not depend on the order
live_before : (v e : Roll) (a : ℕ) → live (before v e) a ≡ (live v a || live e a)
live_before [] e a = refl
live_before (t ∷ v) e a = live_before v (t ∷ e) a ∙ turn (live v a) (occurs a t.job.accesses) (live e a)
  where
    turn : (b c d : Bool) → (b || (c || d)) ≡ ((c || b) || d)
    turn true true d = refl
    turn true false d = refl
    turn false true d = refl
    turn false false d = refl

-- so a roll has the same live addresses the other way round
before_alike : (v : Roll) → LiveAlike (before v []) v
before_alike v a = live_before v [] a ∙ or-false (live v a)

-- two rolls, one after the other
used-++ : (e v u : Roll) → used e (v ++ u) ≡ used e v + used (before v e) u
used-++ e [] u = sym (zero-add (used e u))
used-++ e (t ∷ v) u = ap (λ n. needs e t.job.accesses + n) (used-++ (t ∷ e) v u) ∙ sym (add_assoc _ _ _)

-- and their live addresses of a set
occupied-++ : (z : Tables) (set : ℕ) (e v u : Roll) → occupied z set e (v ++ u) ≡ occupied z set e v + occupied z set (before v e) u
occupied-++ z set e [] u = sym (zero-add (occupied z set e u))
occupied-++ z set e (t ∷ v) u = ap (λ n. fresh z e set t.job.accesses + n) (occupied-++ z set (t ∷ e) v u) ∙ sym (add_assoc _ _ _)

-- a task that enters adds the versions that it needs
pub used_enter : (v : Roll) (e : Entry) → used [] (v ++ (e ∷ [])) ≡ used [] v + needs v e.job.accesses
used_enter v e = used-++ [] v (e ∷ []) ∙ ap (λ n. used [] v + n) (add-zero (needs (before v []) e.job.accesses)
    ∙ needs_live (before v []) v e.job.accesses (before_alike v))

-- and its new addresses of each set
pub occupied_enter : (z : Tables) (set : ℕ) (v : Roll) (e : Entry) → occupied z set [] (v ++ (e ∷ [])) ≡ occupied z set [] v + fresh z v set e.job.accesses
occupied_enter z set v e =
    occupied-++ z set [] v (e ∷ [])
    ∙ ap (λ n. occupied z set [] v + n) (add-zero (fresh z (before v []) set e.job.accesses)
    ∙ fresh_live z set (before v []) v e.job.accesses (before_alike v))
