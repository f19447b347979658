use Rattle.std.proofs.Common.{◌≡◌, ℕ, get_or, replicate, vec_items, vec_len, arith, rules}
use Rattle.seat.specs.declared.Standing.TheVariants.{Free}
use Rattle.manager.specs.Model.{vacant}
use Rattle.manager.proofs.Made.{sound_new, all_alike}
use Rattle.manager.proofs.manager.Manager.new.Goals as goal

-- every record is that of a free seat
pub invariant_of-result : goal.invariant_of-result
invariant_of-result c =
    let none = c.in_ok-new.ensures in
    let items : vec_items c.in_ok-vec.field-0 ≡ replicate 256 c.free.result = c.in_ok-vec.ensures.items_if_clones_equal (λ y e. e) in
    let full : vec_len c.in_ok-vec.field-0 ≡ 256 = search rules in
    let free : (s : ℕ) → (get_or (vec_items c.in_ok-vec.field-0) s vacant).standing ≡ Free = λ s. rw items (all_alike 256 s c.free.result c.free.ensures.standing) in
    record { sound = sound_new _ free full (omega arith) (omega arith) none c.free_line.ensures c.new-2.ensures c.in_ok-new-2.ensures }
