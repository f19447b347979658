use Rattle.std.proofs.Common.{◌≡◌, List, get_or, replicate, vec_items, ap, ◌∙◌}
use lib.ListN.{get_or-replicate}
use Rattle.tracker.specs.State.{state_of, blank}
use Rattle.tracker.specs.declared.ways.Slot.{Slot}
use Rattle.tracker.proofs.ways.AddressTable.new.Goals as goal

pub returns : goal.returns
returns c =
    let free : Slot = record { address = 0; lock = c.new.result } in
    let items : vec_items c.in_ok-slots.slots ≡ replicate 512 free = c.in_ok-slots.ensures.items_if_clones_equal (λ y e. e) in
    let zeros : vec_items c.in_ok-live.live ≡ replicate 64 0 = c.in_ok-live.ensures.items_if_clones_equal (λ y e. e) in
    let none : Slot = record { address = 0; lock = blank } in
    record {
      locks = λ i lt. ap (λ (ss : List Slot). state_of (get_or ss i none).lock) items ∙ ap (λ (s : Slot). state_of s.lock) (get_or-replicate 512 i free none lt) ∙ c.new.ensures;
      counts = λ z lt. ap (λ ns. get_or ns z 0) zeros ∙ get_or-replicate 64 z 0 0 lt;
    }
