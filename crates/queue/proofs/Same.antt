-- A line whose window is as it was is the same line. Assumes nothing.
use Rattle.std.proofs.Common.{◌≡◌, ℕ, length, ap, subst}
use Rattle.std.proofs.Props.{props}
use Rattle.queue.specs.Window.{Within}
use Rattle.queue.specs.declared.Line.{Line}
use Rattle.queue.specs.declared.window.Window.{Window}

-- there is one proof that a window is on so many slots
within_once : (w : Window) (n : ℕ) (h k : Within w n) → h ≡ k
within_once w n = Prim.hlevel props

pub same_line : {X : Type 0} (l : Line X) (w : Window) (h : Within w (length l.slots.now)) → l.window ≡ w → ◌≡◌ {A = Line X} (record { slots = l.slots; window = w; within = h }) l
same_line {X} l w h e =
    let n = length l.slots.now in
    let P : Window → Type 0 = λ v. (k : Within v n) → ◌≡◌ {A = Line X} (record { slots = l.slots; window = v; within = k }) l in
    let here : P l.window = λ k. ap (λ (q : Within l.window n). record { slots = l.slots; window = l.window; within = q }) (within_once l.window n k l.within) in
    subst P e here h
