use Rattle.std.proofs.Common.{◌≡◌, ℕ, ◌+◌, ◌≤◌, Bool, true, false, length, sym, refl, ap, ◌∙◌, arith}
use mir.Val.{bool_byte}
use Rattle.roll.specs.Tables.{tally}
use Rattle.manager.proofs.Awake.{line_none, walk_start, place_seat, line_few, line_woken, awake_state, awake_sound}
use Rattle.tracker.proofs.Tables.{tally_most}
use Rattle.manager.proofs.inner.Inner.wake.Goals as goal

-- a test that holds counts as one
counts : (b : Bool) → bool_byte b ≡ tally b
counts true = refl
counts false = refl

pub loop-place-init : goal.loop-place-init
loop-place-init c = (walk_start c.args.self.now c.args.span c.requires, sym (ap length (line_none c.args.self.now c.args.span c.requires)))

pub overflow_add-count : goal.overflow_add-count
overflow_add-count c =
    let few = line_few c.args.self.now c.loop-place.place in
    let count = c.loop-place.invariant.1 in
    let one : c.from-count.result ≤ 1 = rw (c.from-count.ensures ∙ counts c.rouse.result) (tally_most c.rouse.result) in
    omega arith

-- the count and the fields after one place
pub loop-place-preserved : goal.loop-place-preserved
loop-place-preserved c =
    let r : Bool = c.rouse.result in
    let n : ℕ = c.loop-place.count in
    let there = c.in-Some.ensures.cases in
    place_seat c.args.self.now c.loop-place.self c.rouse.new.self c.loop-place.place c.in-Some.seat n _ r c.loop-place.invariant.0 c.loop-place.invariant.1
    (ap (λ (k : ℕ). n + k) (c.from-count.ensures ∙ counts r)) there.0 c.rouse.ensures.answer c.rouse.ensures.after

pub returns-clause-answer : goal.returns-clause-answer
returns-clause-answer c =
    c.loop-place.invariant.1 ∙ ap length (line_woken c.args.self.now c.loop-place.self c.args.span c.loop-place.place c.requires c.loop-place.invariant.0 c.loop-place-test.false)

pub returns-clause-after : goal.returns-clause-after
returns-clause-after c = awake_state c.args.self.now c.loop-place.self c.args.span c.loop-place.place c.requires c.loop-place.invariant.0 c.loop-place-test.false

pub returns-clause-sound : goal.returns-clause-sound
returns-clause-sound c = awake_sound c.args.self.now c.loop-place.self c.args.span c.loop-place.place c.requires c.loop-place.invariant.0 c.loop-place-test.false
