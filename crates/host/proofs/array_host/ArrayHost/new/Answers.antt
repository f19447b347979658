use Rattle.std.proofs.Common.{◌≡◌, min, length, take, vec_items, vec_len, rules}
use Rattle.host.specs.Limit.{max_values}
use Rattle.host.proofs.Changes.{values_by-take}
use Rattle.host.proofs.array_host.ArrayHost.new.Goals as goal

pub returns-clause-values : goal.returns-clause-values
returns-clause-values g c =
    let values = c.args.values.now in
    let n = min (length values) max_values in
    let count : vec_len c.in_ok-values.values ≡ n = search rules in
    let items : vec_items c.in_ok-values.values ≡ take n values = search rules in
    let aside = rw c.blank.ensures at c.in_ok-aside.ensures in
    rw (count, items, aside) (values_by-take g.W.Work.STEP n g.W.Work.blank values _)
