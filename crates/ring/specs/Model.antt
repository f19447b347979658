-- What a ring holds, first in first. Assumes nothing.
use Rattle.std.specs.Prelude.{List, [], ◌∷◌, Some, None, Option, replicate, refl}
use Rattle.std.proofs.Common.{lit≤}
use Rattle.queue.specs.Window.{window_of}
use Rattle.ring.specs.Capacity.{capacity}
use Rattle.ring.specs.declared.Ring.{Ring}

-- the elements in the ring
abbrev pub contents_of : {X : Type 0} → Ring X → List X
contents_of r = window_of r.window r.slots

-- the first element of a list, if it has one
abbrev pub first_of : {X : Type 0} → List X → Option X
first_of [] = None
first_of (x ∷ xs) = Some x

-- the ring with no element and a filler in every slot
abbrev pub empty : {X : Type 0} → X → Ring X
empty x = record { slots = replicate capacity x; window = record { head = 0; len = 0 }; whole = refl; within = record { few = lit≤ tt; low = lit≤ tt } }
