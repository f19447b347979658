-- The one-at-a-time run over a list of messages: what is done at each, and the values that it leaves. Assumes nothing.
--
--   Line        what is done at a message
--   journal     the lines of a list of messages
--   run         the value at each address afterwards
--   run_all     all of a host's values afterwards
use Rattle.std.specs.Prelude.{ℕ, List, [], ◌∷◌, ◌++◌}
use Rattle.task.specs.declared.Access.{Access}
use Rattle.host.specs.Meaning.{Fixed, Values}
use Rattle.layout.specs.Layout.{Contents, submits, finishes, layout}
use Rattle.one_at_a_time.specs.Alone.{values_read, values_written, alone, done_alone}

-- what is done at a message: a task, by its name, kind and accesses, with what it read and what it wrote; or nothing, at a finish
-- notice of a seat
pub data Line (V : Type 0) : Type 0 where
  did : ℕ → ℕ → List Access → List V → List V → Line V
  passed : ℕ → Line V

-- the message of a line
abbrev pub said : {V : Type 0} → Line V → Contents
said (did name kind xs read wrote) = submits name kind xs
said (passed seat) = finishes seat

-- the line of a message, where these values stand at the addresses
abbrev pub line : {V : Type 0} → Fixed V → Contents → (ℕ → V) → Line V
line h (submits name kind xs) at = did name kind xs (values_read at xs) (values_written h kind (values_read at xs) xs)
line h (finishes seat) at = passed seat

-- the value at each address after a message
abbrev pub after : {V : Type 0} → Fixed V → Contents → (ℕ → V) → ℕ → V
after h (submits name kind xs) at = alone h kind xs at
after h (finishes seat) at = at

-- the value at each address after a list of messages, one at a time
abbrev pub run : {V : Type 0} → Fixed V → List Contents → (ℕ → V) → ℕ → V
run h [] at = at
run h (m ∷ ms) at = run h ms (after h m at)

-- what is done at each of them
abbrev pub journal : {V : Type 0} → Fixed V → List Contents → (ℕ → V) → List (Line V)
journal h [] at = []
journal h (m ∷ ms) at = line h m at ∷ journal h ms (after h m at)

-- a host's values after a message; each task runs on seat 0
abbrev pub after_all : {V : Type 0} → Fixed V → Contents → Values V → Values V
after_all h (submits name kind xs) w = done_alone h 0 kind xs w
after_all h (finishes seat) w = w

-- a host's values after a list of messages
abbrev pub run_all : {V : Type 0} → Fixed V → List Contents → Values V → Values V
run_all h [] w = w
run_all h (m ∷ ms) w = run_all h ms (after_all h m w)

-- the bytes of a list of messages, one after another
abbrev pub stream : List Contents → List ℕ
stream [] = []
stream (m ∷ ms) = layout m ++ stream ms
