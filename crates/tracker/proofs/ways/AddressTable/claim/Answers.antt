use Rattle.std.proofs.Common.{◌≡◌, ℕ, ◌+◌, ◌%◌, ◌<◌, not, ◌&&◌, eqb, List, get_or, ap, ◌∙◌, ap₂, arith}
use Rattle.roll.specs.Tables.{tally}
use Rattle.tracker.specs.State.{state_of, blank}
use Rattle.tracker.specs.Table.{live_at}
use Rattle.tracker.specs.declared.ways.Slot.{Slot}
use Rattle.tracker.proofs.Tables.{joins, room, most_live}
use Rattle.tracker.proofs.ways.AddressTable.claim.Goals as goal

-- a way is always found
pub returns-in_err-way : goal.returns-in_err-way
returns-in_err-way c M t few size = absurd (room c.args.self.now M c.args.address t few c.in_err-way.ensures.0 c.in_err-way.ensures.1)

-- and claimed
pub returns : goal.returns
returns c M t few size =
    let w = c.args.self.now in
    let w₁ = c.claim_at-holds.new.self in
    let w' = c.open.new.self in
    let i = c.in_ok-way.way.number in
    let e = c.claim_at-holds.ensures in
    let u = c.open.ensures in
    let fresh = ap not c.is_live-fresh.ensures in
    let at : (z : ℕ) → live_at w₁ z ≡ live_at w z = λ z. ap (λ ns. get_or ns z 0) e.rest.live in
    let low : live_at w₁ (i % 64) < 255 = (let k = t.counted (i % 64) (omega arith) in let m = most_live w (i % 64) 8 in let a = at (i % 64) in omega (arith, k, m, a)) in
    joins w w' M c.args.address i c.args.claim (record { fresh = not c.is_live-fresh.result; holds = c.claim_at-holds.result }) c.in_ok-way.way.low t c.in_ok-way.ensures size
    (ap (λ (ss : List Slot). (get_or ss i (record { address = 0; lock = blank })).address) u.ways ∙ e.tag)
    (λ p q. ap (λ (ss : List Slot). state_of (get_or ss i (record { address = 0; lock = blank })).lock) u.ways ∙ e.here p q)
    (λ j ne. ap (λ (ss : List Slot). get_or ss j (record { address = 0; lock = blank })) u.ways ∙ e.rest.others j ne)
    (λ z zl. u.live low z ∙ ap₂ (λ n b. n + tally (eqb (i % 64) z && b)) (at z) fresh)
    fresh e.answer
