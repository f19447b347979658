use Rattle.std.proofs.Common.{◌≡◌, ◌<◌, true, length, get_or, vec_items, Some, None, Ok, is_ok, refl, sym, ap, ◌∙◌, arith}
use Rattle.std.proofs.lemmas.List.{length_push}
use Rattle.std.proofs.lemmas.Iterator.Adapters.{YieldsList-from_bytes}
use Rattle.std.proofs.lemmas.Iterator.Consumers.{YieldsList-from_filter_map, YieldsList-turn, YieldsList-end}
use Rattle.hex.specs.Hex.{hex_digit_value}
use Rattle.cases.proofs.Pairs.{values, paired_none, paired_high, paired_low, paired_all, values_fit, decoded}
use Rattle.cases.proofs.hexadecimal.from_hex.Goals as goal
use Rattle.cases.proofs.hexadecimal.from_hex.Goals.{In-Some, In-Some-take}

-- the value of this turn is the next of the text's
turn : (c : In-Some) → (length c.loop-digit.yielded < length (values c.args.text.now)) × (c.in-Some.digit ≡ get_or (values c.args.text.now) (length c.loop-digit.yielded) c.in-Some.digit)
turn c =
    YieldsList-turn (YieldsList-from_filter_map _ hex_digit_value (YieldsList-from_bytes c.args.text.now cc) c.filter_map-digit-items.ensures.closure (λ x r q k. (refl, k.met)))
    c.loop-digit.yielded _ c.loop-digit.yielded_by _ _ c.in-Some.digit c.in-Some.is c.next.ensures.steps

digit_fits : (c : In-Some) → c.in-Some.digit < 16
digit_fits c = rw (turn c).1 (values_fit c.args.text.now (length c.loop-digit.yielded) c.in-Some.digit (turn c).0)

high_fits : (c : In-Some-take) → c.in-Some-take.high < 16
high_fits c = c.loop-digit.invariant.small c.in-Some-take.high (sym c.take.ensures.value ∙ c.in-Some-take.is)

pub loop-digit-init : goal.loop-digit-init
loop-digit-init c = rw c.new-bytes.ensures.items (paired_none (values c.args.text.now))

pub loop-digit-preserved-in-None-take : goal.loop-digit-preserved-in-None-take
loop-digit-preserved-in-None-take c =
    let t = turn (goal.at.loop-digit-preserved-in-None-take c).In-Some in
    let fits = digit_fits (goal.at.loop-digit-preserved-in-None-take c).In-Some in
    let none : c.loop-digit.high ≡ None = sym c.take.ensures.value ∙ c.in-None-take.is in
    rw (length_push c.loop-digit.yielded c.in-Some.digit)
    (paired_high (values c.args.text.now) (length c.loop-digit.yielded) (vec_items c.loop-digit.bytes) c.in-Some.digit (rw none at c.loop-digit.invariant) t.0 t.1 fits)

pub overflow_mul-high : goal.overflow_mul-high
overflow_mul-high c = omega (arith, high_fits (goal.at.overflow_mul-high c).In-Some-take)

pub overflow_add-high : goal.overflow_add-high
overflow_add-high c =
    omega (arith, high_fits (goal.at.overflow_add-high c).In-Some-take, digit_fits (goal.at.overflow_add-high c).In-Some)

pub loop-digit-preserved : goal.loop-digit-preserved
loop-digit-preserved c =
    let t = turn (goal.at.loop-digit-preserved c).In-Some in
    let some : c.loop-digit.high ≡ Some c.in-Some-take.high = sym c.take.ensures.value ∙ c.in-Some-take.is in
    let pushed : is_ok c.push.result ≡ true = ap is_ok c.in_ok-push-in-Some-take.was in
    rw (length_push c.loop-digit.yielded c.in-Some.digit, c.take.ensures.after, c.push.ensures.items, pushed)
    (paired_low (values c.args.text.now) (length c.loop-digit.yielded) (vec_items c.loop-digit.bytes) c.in-Some-take.high c.in-Some.digit (rw some at c.loop-digit.invariant) t.0 t.1)

pub returns : goal.returns
returns c =
    let text = c.args.text.now in
    let end =
    YieldsList-end (YieldsList-from_filter_map _ hex_digit_value (YieldsList-from_bytes text cc) c.filter_map-digit-items.ensures.closure (λ x r q k. (refl, k.met))) c.loop-digit.yielded _
    c.loop-digit.yielded_by _ _ c.in-None.is c.next.ensures.steps in
    record {
      bytes = decoded text ∙ ap Ok (paired_all (values text) (length c.loop-digit.yielded) (vec_items c.loop-digit.bytes) c.loop-digit.high c.loop-digit.invariant (omega (arith, end.1)));
    }
