use Rattle.std.proofs.Common.{◌≡◌, min, vec_items, vec_len, rules}
use Rattle.host.specs.Limit.{max_values}
use Rattle.host.proofs.Changes.{values_by-blank}
use Rattle.host.proofs.array_host.ArrayHost.zeros.Goals as goal

pub returns-clause-values : goal.returns-clause-values
returns-clause-values g c =
    let n = min c.args.count max_values in
    let count : vec_len c.resize.new.self ≡ n = search rules in
    let aside = rw c.blank-2.ensures at c.in_ok-aside.ensures in
    rw (count, aside) (values_by-blank g.W.Work.STEP n g.W.Work.blank (vec_items c.resize.new.self) (λ k low. search rules))
