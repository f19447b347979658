use Rattle.std.proofs.Common.{◌≡◌, ℕ, ◌<◌, Bool, true, false, cond, List, [], ◌∷◌, ◌++◌, length, get_or, vec_items, refl, ap, ◌∙◌, subst, arith}
use Rattle.std.proofs.lemmas.Bool.{lt-ltb}
use Rattle.acceptance.specs.Listed.{removed, listed}
use Rattle.claims.specs.Queues.{bare, bares}
use Rattle.ring.specs.Model.{contents_of}
use Rattle.roll.specs.Roll.{Roll, blocked}
use Rattle.seat.specs.declared.Standing.{Standing}
use Rattle.seat.specs.declared.Standing.TheVariants.{Free, Running}
use Rattle.seat.specs.declared.Phase.TheVariants.{Done}
use Rattle.seat.specs.declared.Event.TheVariants.{Finished}
use Rattle.seat.specs.declared.seats.Seat.{Seat}
use Rattle.seat.specs.Phases.{moved, or_else}
use Rattle.task.specs.declared.Access.{Access}
use Rattle.task.specs.Task.{accesses_of}
use Rattle.tracker.specs.Tracked.{Tracked}
use Rattle.manager.specs.declared.inner.Inner.{Inner}
use Rattle.manager.specs.Model.{seat_at, roll_of, free_of}
use Rattle.manager.specs.Sound.{is_free, free_at}
use Rattle.manager.proofs.Left.{free_room, left_all}
use Rattle.manager.proofs.Seats.{seat_listed, lent_is}
use Rattle.manager.proofs.inner.Inner.leave.Goals as goal

pub returns : goal.returns
returns c =
    let i : Inner = c.args.self.now in
    let s : ℕ = c.args.seat in
    let k = c.requires.sound in
    let full = k.seated.full in
    let low : s < 256 = omega arith in
    let taken : free_at i s ≡ false = ap is_free c.requires.done in
    let read : c.index-occupant.result.now ≡ get_or (vec_items i.table.records) s c.index-occupant.result.now = rw c.from.ensures at c.index-occupant.ensures in
    let xs : c.accesses.result.now ≡ accesses_of (seat_at i s).task =
    c.accesses.ensures ∙ ap accesses_of (c.task.ensures ∙ ap (λ (x : Seat). x.task) (lent_is i s c.index-occupant.result.now full low read)) in
    let x : Seat = c.lend-occupant.result.now in
    let y : Seat = c.on.new.self in
    let lent : x ≡ get_or (vec_items i.table.records) s x = c.lend-occupant.ensures.value in
    let was : x.standing ≡ Running Done = ap (λ (z : Seat). z.standing) (lent_is i s x full low lent) ∙ c.requires.done in
    let standing : y.standing ≡ Free = c.on.ensures.standing ∙ ap (λ (st : Standing). or_else (moved (accesses_of x.task) st Finished) st) was in
    let room : c.push.result ≡ true = c.push.ensures.answer ∙ lt-ltb (length (free_of i)) 256 (free_room i k.seated s taken) in
    let free : contents_of c.push.new.self ≡ free_of i ++ (s ∷ []) = c.push.ensures.contents ∙ ap (λ (b : Bool). cond b (free_of i ++ (s ∷ [])) (free_of i)) room in
    let lists : c.remove.result ≡ true = c.remove.ensures.answer ∙ seat_listed i k.seated s taken in
    let order : listed c.remove.new.self ≡ removed s (listed i.order) =
    c.remove.ensures.listed ∙ ap (λ (b : Bool). cond b (removed s (listed i.order)) (listed i.order)) lists in
    let tables : (pre post : Roll) → Tracked i.tracker (pre ++ (bare s (accesses_of (seat_at i s).task) ∷ post)) →
    blocked pre (accesses_of (seat_at i s).task) ≡ false → Tracked c.leave.new.self (pre ++ post) =
    subst (λ (l : List Access). (pre post : Roll) → Tracked i.tracker (pre ++ (bare s l ∷ post)) → blocked pre l ≡ false → Tracked c.leave.new.self (pre ++ post)) xs
    c.leave.ensures.tables in
    let all = left_all i _ s y c.leave.new.span k c.requires.done refl refl standing refl free order
    c.remove.ensures.stays refl refl tables (c.leave.ensures.woken (bares (roll_of i)) k.seated.tracked) in
    record { after = all.0; tables = refl; waking = all.1 }
