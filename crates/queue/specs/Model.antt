-- What a line holds, first in first, and its slots. Assumes nothing.
use Rattle.std.specs.Prelude.{ℕ, Bool, List, length, ◌==◌}
use Rattle.queue.specs.Contents.{next_slot}
use Rattle.queue.specs.Window.{window_of}
use Rattle.queue.specs.declared.Line.{Line}

-- the slots, used or not
abbrev pub slots_of : {X : Type 0} → Line X → List X
slots_of l = l.slots.now

-- the elements in the line
abbrev pub contents_of : {X : Type 0} → Line X → List X
contents_of l = window_of l.window (slots_of l)

-- is there an element in every slot?
abbrev pub full : {X : Type 0} → Line X → Bool
full l = length (contents_of l) == length (slots_of l)

-- the slot that the next element goes into
abbrev pub slot_after : {X : Type 0} → Line X → ℕ
slot_after l = next_slot (length (slots_of l)) l.window.head l.window.len
