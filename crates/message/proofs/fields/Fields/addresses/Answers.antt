use Rattle.std.proofs.Common.{◌≡◌, ℕ, suc, ◌+◌, ◌-◌, ◌<◌, ◌≤◌, List, length, take, drop, set, Ok, sym, ap, ◌∙◌, arith, rules, length-set}
use Rattle.std.proofs.lemmas.List.{take_more_set, take_all}
use Rattle.std.proofs.lemmas.Result.{err_from_is_err_and}
use Rattle.layout.specs.Reading.{number, addresses}
use Rattle.message.proofs.Numbers.{value_all}
use Rattle.message.proofs.Prefix.{prefixed, prefixed_all, addresses_more, addresses_fault}
use Rattle.message.proofs.fields.Fields.addresses.Goals as goal

pub returns-in_err-field-clause-read : goal.returns-in_err-field-clause-read
returns-in_err-field-clause-read c =
    let p = err_from_is_err_and c.from_residual.result c.from_residual.ensures.1 in
    let n = length c.args.list.now in
    let i = c.loop-slot.slot-index in
    let at = c.loop-slot.self.place.now.at in
    let k = at - c.loop-slot.self.start in
    let bs = drop at c.loop-slot.self.bytes.now in
    let xs = take i c.loop-slot.slot-items in
    let left : n - i ≡ suc (n - i - 1) = omega arith in
    rw (p.1, p.2)
    (c.loop-slot.invariant.read ∙ ap (λ (m : ℕ). prefixed xs (addresses m k bs)) left ∙ addresses_fault xs (n - i - 1) k bs _ c.in_err-field.ensures.read.0)

pub loop-slot-preserved : goal.loop-slot-preserved
loop-slot-preserved c =
    let n = length c.args.list.now in
    let i = c.loop-slot.slot-index in
    let items = c.loop-slot.slot-items in
    let at = c.loop-slot.self.place.now.at in
    let next = c.field.new.self.place.now.at in
    let bytes = c.loop-slot.self.bytes.now in
    let k = at - c.loop-slot.self.start in
    let a = c.from_le_bytes.result in
    let long : length c.in_ok-field.field-0 ≡ 8 = search rules in
    let is : number 8 k (drop at bytes) ≡ Ok (a, drop next bytes) =
    c.in_ok-field.ensures.read.0 ∙ ap (λ (v : ℕ). Ok (v, drop next bytes)) (sym (c.from_le_bytes.ensures ∙ value_all 7 c.in_ok-field.field-0 long)) in
    let left : n - i ≡ suc (n - i - 1) = omega arith in
    let moved : next ≡ at + 8 = c.in_ok-field.ensures.read.1 in
    let room : i < length items = omega arith in
    let fewer : n - i - 1 ≡ n - (i + 1) = omega arith in
    let on : k + 8 ≡ next - c.loop-slot.self.start = omega arith in
    record {
      ends = c.loop-slot.invariant.ends;
      long = length-set items i a ∙ c.loop-slot.invariant.long;
      same = search rules;
      moved = omega arith;
      read =
          rw (c.field.ensures.same.1, c.field.ensures.same.2)
          (c.loop-slot.invariant.read ∙ ap (λ (m : ℕ). prefixed (take i items) (addresses m k (drop at bytes))) left
          ∙ addresses_more (take i items) (n - i - 1) k (drop at bytes) (drop next bytes) a is
          ∙ ap (λ (xs : List ℕ). prefixed xs (addresses (n - i - 1) (k + 8) (drop next bytes))) (sym (take_more_set items i a room))
          ∙ ap (λ (m : ℕ). prefixed (take (i + 1) (set items i a)) (addresses m (k + 8) (drop next bytes))) fewer
          ∙ ap (λ (m : ℕ). prefixed (take (i + 1) (set items i a)) (addresses (n - (i + 1)) m (drop next bytes))) on);
    }

pub returns : goal.returns
returns c =
    let n = length c.args.list.now in
    let i = c.loop-slot.slot-index in
    let items = c.loop-slot.slot-items in
    let at = c.loop-slot.self.place.now.at in
    let bs = drop at c.loop-slot.self.bytes.now in
    let none : n - i ≡ 0 = omega arith in
    let whole : length items ≤ i = omega arith in
    record {
      same = c.loop-slot.invariant.same;
      length = c.loop-slot.invariant.long;
      read = (
        c.loop-slot.invariant.read ∙ ap (λ (m : ℕ). prefixed (take i items) (addresses m (at - c.loop-slot.self.start) bs)) none
            ∙ prefixed_all (take i items) bs ∙ ap (λ (xs : List ℕ). Ok (xs, bs)) (take_all i items whole)
            ∙ ap (λ (b : List ℕ). Ok (items, drop at b)) c.loop-slot.invariant.same.1,
        omega arith,
        omega (arith, c.loop-slot.self.inside, ap length c.loop-slot.invariant.same.1),
      );
    }
