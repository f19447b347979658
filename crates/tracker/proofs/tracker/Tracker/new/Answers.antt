use Rattle.std.proofs.Common.{refl}
use Rattle.tracker.proofs.Empty.{empty_table, empty}
use Rattle.tracker.proofs.tracker.Tracker.new.Goals as goal

pub returns : goal.returns
returns c =
    let u = c.in_ok-table.ensures in
    empty _ (empty_table c.in_ok-table.table u.locks u.counts) u.counts refl
