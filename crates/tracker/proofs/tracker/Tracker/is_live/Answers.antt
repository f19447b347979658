use Rattle.std.proofs.Common.{◌≡◌, ℕ, ◌%◌, ◌<◌, ltb, is_some, Some, None, Option, MatchOption, sym, ap, ◌∙◌, subst}
use Rattle.claims.specs.Claims.{State}
use Rattle.claims.specs.Queues.{map_of}
use Rattle.claims.proofs.Held.{live_of_held, live_held}
use Rattle.roll.specs.Roll.{Roll}
use Rattle.roll.specs.Tables.{live}
use Rattle.tracker.specs.Table.{Absent, Found}
use Rattle.tracker.specs.Tracked.{Tracked}
use Rattle.tracker.specs.declared.tracker.Tracker.{Tracker}
use Rattle.tracker.specs.declared.ways.Way.{Way}
use Rattle.tracker.proofs.Tables.{absent_none}
use Rattle.tracker.proofs.tracker.Tracker.is_live.Goals as goal

-- a way of the address is live exactly if a claim holds it
found_live : (t : Tracker) (v : Roll) (a : ℕ) (r : Option Way) → Tracked t v →
    MatchOption r (Absent t.table a) (λ w. (w.number % 64 ≡ a % 64) × Found t.table a w.number) → is_some r ≡ live v a
found_live t v a (Some w) k f =
    sym (live_of_held v a (subst (λ (s : State). 0 < s.holders) (k.table.here _ w.low f.1.1 ∙ ap (map_of v) f.1.0) f.1.1))
found_live t v a None k f = sym (sym (live_held v a) ∙ ap (λ n. ltb 0 n) (absent_none t.table (map_of v) a k.table f))

pub returns : goal.returns
returns c v k = c.is_some.ensures ∙ found_live c.args.self.now v c.args.address c.find.result k c.find.ensures
