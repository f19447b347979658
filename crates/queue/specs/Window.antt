-- What a window says of slots that are used as a ring. Assumes nothing.
use Rattle.std.specs.Prelude.{ℕ, ◌-◌, ◌≤◌, List}
use Rattle.queue.specs.Contents.{contents}
use Rattle.queue.specs.declared.window.Window.{Window}

-- a window on so many slots: no more are in use than there are, and its head is one of them, if there are any
pub record Within (w : Window) (n : ℕ) : Type 0 where
  pub few : w.len ≤ n
  pub low : w.head ≤ n - 1

-- the elements in the slots that are in use, first in first
abbrev pub window_of : {X : Type 0} → Window → List X → List X
window_of w xs = contents xs w.head w.len
