use Rattle.std.proofs.Common.{◌≡◌, ℕ, ◌+◌, ◌*◌, rules, tests}
use Rattle.std.proofs.lemmas.Iterator.{YieldsList-from_range, YieldsList-from_map_by, first_from_find}
use Rattle.tracker.specs.State.{state_of}
use Rattle.tracker.specs.Table.{Live, lock_at}
use Rattle.tracker.specs.declared.ways.Way.{Way}
use Rattle.tracker.proofs.Searches.{first_way, free_way}
use Rattle.tracker.proofs.ways.AddressTable.vacancy.Goals as goal

pub returns : goal.returns
returns c =
    let w = c.args.self.now in
    let a = c.args.address in
    let s = c.of-set.result.number in
    free_way w a c.find.result
    (first_way (λ n. (state_of (lock_at w n)).holders ≡ 0) (λ n. Live w n) a s c.find.result c.of-set.ensures
    (first_from_find _ _ _ (λ n. (state_of (lock_at w n)).holders ≡ 0) (λ n. Live w n) c.find.ensures.ran
    (YieldsList-from_map_by _ (λ (x : Way). x.number) (λ (k : ℕ). s + 64 * k) (YieldsList-from_range 0 8 8 c.map.ensures.source cc) c.map.ensures.closure (λ x r q k. search rules))
    (λ x q k. search (rules, tests))
    (λ x q k. search (rules, tests))))
