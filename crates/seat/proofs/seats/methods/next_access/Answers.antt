use Rattle.std.proofs.Common.{◌≡◌, ℕ, ◌+◌, option_map, drop, ◌∙◌, ap, rules, arith}
use Rattle.std.proofs.lemmas.Iterator.{YieldsList-from_slice}
use Rattle.std.proofs.lemmas.Iterator.Adapters.{YieldsList-from_skip, position_from-zero}
use Rattle.std.proofs.lemmas.Iterator.Search.{position_from_yields_List}
use Rattle.std.specs.List.{position_from}
use Rattle.task.specs.Task.{accesses_of}
use Rattle.seat.specs.Phases.{next_from}
use Rattle.seat.proofs.Next.{option_map-position_from}
use Rattle.seat.proofs.seats.methods.next_access.Goals as goal

pub returns : goal.returns
returns g c test same =
    let xs = accesses_of c.args.task.now in
    let from = c.args.from in
    let zero : from + 0 ≡ from = omega arith in
    let at : c.position.result ≡ position_from test 0 (drop from xs) =
    position_from_yields_List test _ _ _ c.position.ensures.ran (YieldsList-from_skip from (YieldsList-from_slice xs cc) cc)
    (λ x b q k. (
      g.met.F.Fn.1.step_stays _ _ _ _ (record { met = k.met }),
      same x b ((g.met.F.FnMut.1.post_iff _ _ _).1 (q, record { met = k.met })),
    ))
    ∙ position_from-zero test (drop from xs) in
    let mapped : c.map.result ≡ option_map (λ (n : ℕ). from + n) c.position.result = search rules in
    mapped ∙ ap (option_map (λ (n : ℕ). from + n)) at ∙ option_map-position_from test from 0 (drop from xs)
    ∙ ap (λ (i : ℕ). next_from test i (drop from xs)) zero
