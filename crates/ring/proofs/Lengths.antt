-- How many elements a ring holds. Assumes nothing.
use Rattle.std.proofs.Common.{◌≡◌, ◌≤◌, length, arith}
use Rattle.queue.proofs.Steps.{length_window}
use Rattle.ring.specs.Capacity.{capacity}
use Rattle.ring.specs.Model.{contents_of}
use Rattle.ring.specs.declared.Ring.{Ring}

-- it holds as many elements as it counts
pub length_contents_of : {X : Type 0} (r : Ring X) → length (contents_of r) ≡ r.window.len
length_contents_of r = length_window r.slots capacity r.window r.whole r.within

-- it never holds more than it has room for
pub contents_of_fit : {X : Type 0} (r : Ring X) → length (contents_of r) ≤ capacity
contents_of_fit r =
    let e : length (contents_of r) ≡ r.window.len = length_contents_of r in
    let few = r.within.few in
    omega (arith, e, few)
