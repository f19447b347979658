use Rattle.std.proofs.Common.{◌≡◌, ℕ, suc, ◌+◌, ◌-◌, true, ltb, List, [], ◌∷◌, ◌++◌, length, get_or, drop, Ok, sym, ap, ◌∙◌, add-one, arith, length-append, drop-cons, lt-ltb, rules}
use Rattle.std.proofs.lemmas.List.{drop_all}
use Rattle.std.proofs.lemmas.Result.{err_from_is_err_and}
use Rattle.task.specs.declared.Access.{Access}
use Rattle.task.specs.Task.{accesses_of}
use Rattle.layout.specs.Reading.{directions}
use Rattle.message.proofs.Prefix.{prefixed, prefixed_all, directions_more, directions_fault}
use Rattle.message.proofs.fields.Fields.directions.Goals as goal

pub returns-in_err-direction-clause-read : goal.returns-in_err-direction-clause-read
returns-in_err-direction-clause-read c =
    let p = err_from_is_err_and c.from_residual.result c.from_residual.ensures.1 in
    let i = c.loop-address.address-index in
    let list = c.args.list.now in
    let at = c.loop-address.self.place.now.at in
    let k = at - c.loop-address.self.start in
    let bs = drop at c.loop-address.self.bytes.now in
    let xs = accesses_of c.loop-address.task in
    rw (p.1, p.2)
    (c.loop-address.invariant.read ∙ ap (λ (l : List ℕ). prefixed xs (directions l k bs)) (drop-cons list i 0 c.loop-address-test.true)
    ∙ directions_fault xs (get_or list i 0) (drop (suc i) list) k bs _ c.in_err-direction.ensures.read.0)

pub loop-address-preserved : goal.loop-address-preserved
loop-address-preserved c =
    let i = c.loop-address.address-index in
    let list = c.args.list.now in
    let at = c.loop-address.self.place.now.at in
    let next = c.direction.new.self.place.now.at in
    let bytes = c.loop-address.self.bytes.now in
    let k = at - c.loop-address.self.start in
    let xs = accesses_of c.loop-address.task in
    let x : Access = record { address = get_or list i 0; direction = c.in_ok-direction.direction } in
    let few : ltb (length xs) 15 ≡ true = rw c.loop-address.invariant.count (lt-ltb i 15 (omega arith)) in
    let pushed : accesses_of c.push.new.self ≡ xs ++ (x ∷ []) = c.push.ensures.accesses ∙ rw few in
    let moved : next ≡ at + 1 = c.in_ok-direction.ensures.read.1 in
    let on : k + 1 ≡ next - c.loop-address.self.start = omega arith in
    record {
      same = search rules;
      moved = omega arith;
      count = ap length pushed ∙ simp length-append (omega arith);
      name = c.push.ensures.name ∙ c.loop-address.invariant.name;
      kind = c.push.ensures.kind ∙ c.loop-address.invariant.kind;
      read =
          rw (c.direction.ensures.same.1, c.direction.ensures.same.2)
          (c.loop-address.invariant.read ∙ ap (λ (l : List ℕ). prefixed xs (directions l k (drop at bytes))) (drop-cons list i 0 c.loop-address-test.true)
          ∙ directions_more xs (get_or list i 0) (drop (suc i) list) k (drop at bytes) (drop next bytes) _ c.in_ok-direction.ensures.read.0
          ∙ ap (λ (ys : List Access). prefixed ys (directions (drop (suc i) list) (k + 1) (drop next bytes))) (sym pushed)
          ∙ ap (λ (m : ℕ). prefixed (accesses_of c.push.new.self) (directions (drop m list) (k + 1) (drop next bytes))) (sym (add-one i))
          ∙ ap (λ (m : ℕ). prefixed (accesses_of c.push.new.self) (directions (drop (i + 1) list) m (drop next bytes))) on);
    }

pub returns : goal.returns
returns c =
    let i = c.loop-address.address-index in
    let list = c.args.list.now in
    let xs = accesses_of c.loop-address.task in
    let at = c.loop-address.self.place.now.at in
    let bs = drop at c.loop-address.self.bytes.now in
    record {
      same = c.loop-address.invariant.same;
      kept = (c.loop-address.invariant.name, c.loop-address.invariant.kind, omega arith);
      read = (
        c.loop-address.invariant.read ∙ ap (λ (l : List ℕ). prefixed xs (directions l (at - c.loop-address.self.start) bs)) (drop_all i list c.loop-address-test.false)
            ∙ prefixed_all xs bs ∙ ap (λ (b : List ℕ). Ok (xs, drop at b)) c.loop-address.invariant.same.1,
        omega arith,
        omega (arith, c.loop-address.self.inside, ap length c.loop-address.invariant.same.1),
      );
    }
