-- What a task does when it runs alone, from its first step to its last: it reads all its reading accesses in order of access
-- number as one list, then sets each writing access in the same order by the work rule. Assumes nothing.
--
--   values_read       the list that it reads
--   values_written    the values that it sets, in order
--   alone             the value at each address afterwards
--   done_alone        all of a host's values afterwards, those held aside for its seat included
use Rattle.std.specs.Prelude.{◌≡◌, ℕ, suc, true, List, [], ◌∷◌, map}
use Rattle.task.specs.declared.Access.{Access}
use Rattle.task.specs.Access.{Numbered, readers, writers}
use Rattle.host.specs.Meaning.{Fixed, Values, update}

-- the values at the reading accesses, in order of access number
abbrev pub values_read : {V : Type 0} → (ℕ → V) → List Access → List V
values_read at xs = map (λ (x : Numbered). at x.address) (readers xs)

-- the work rule's value for each writing access, from the list that was read
abbrev pub values_written : {V : Type 0} → Fixed V → ℕ → List V → List Access → List V
values_written h kind vs xs = map (λ (x : Numbered). h.rule kind x.number vs) (writers xs)

-- each of these accesses sets its address to the work rule's value
abbrev pub written : {V : Type 0} → Fixed V → ℕ → List V → List Numbered → (ℕ → V) → ℕ → V
written h kind vs [] at = at
written h kind vs (x ∷ xs) at = written h kind vs xs (update at x.address (h.rule kind x.number vs))

-- the value at each address after the task has run alone
abbrev pub alone : {V : Type 0} → Fixed V → ℕ → List Access → (ℕ → V) → ℕ → V
alone h kind xs at = written h kind (values_read at xs) (writers xs) at

-- a row of positions, with these values from position p on
abbrev pub filled : {V : Type 0} → ℕ → List V → (ℕ → V) → ℕ → V
filled p [] f = f
filled p (v ∷ vs) f = filled (suc p) vs (update f p v)

-- a host's values after the task has run alone on a seat
abbrev pub done_alone : {V : Type 0} → Fixed V → ℕ → ℕ → List Access → Values V → Values V
done_alone h seat kind xs w =
    record { at = alone h kind xs w.at; aside = update w.aside seat (filled 0 (values_read w.at xs) (w.aside seat)) }

-- a host's values after these values were brought to a seat's positions from 0 on; and after the writing accesses were put
abbrev pub brought_alone : {V : Type 0} → ℕ → List V → Values V → Values V
brought_alone seat vs w = record { at = w.at; aside = update w.aside seat (filled 0 vs (w.aside seat)) }

abbrev pub put_alone : {V : Type 0} → Fixed V → ℕ → List V → List Access → Values V → Values V
put_alone h kind vs xs w = record { at = written h kind vs (writers xs) w.at; aside = w.aside }

-- the host holds the address of each access
abbrev pub AllHeld : {V : Type 0} → Fixed V → List Access → Type 0
AllHeld h [] = Unit {0}
AllHeld h (x ∷ xs) = (h.held x.address ≡ true) × AllHeld h xs
