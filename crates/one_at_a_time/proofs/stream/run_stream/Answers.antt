use Rattle.std.proofs.Common.{List, vec_items, ◌∙◌, subst}
use Rattle.host.specs.Meaning.{Fixed}
use Rattle.one_at_a_time.specs.Journal.{Line}
use Rattle.one_at_a_time.specs.Ran.{lines_of, Next}
use Rattle.one_at_a_time.proofs.Runs.{fewer_left, progress_more}
use Rattle.one_at_a_time.proofs.stream.run_stream.Goals as goal

pub loop-end-smaller : goal.loop-end-smaller
loop-end-smaller g c =
    fewer_left (g.H.Host.fixed c.loop-end.host) c.args.bytes.now c.loop-end.place.at c.run_next.new.place.at (lines_of (vec_items c.loop-end.entries))
    (lines_of (vec_items c.run_next.new.entries)) (g.H.Host.values c.loop-end.host) (g.H.Host.values c.run_next.new.host) c.in_default.ensures.cases

pub loop-end-preserved : goal.loop-end-preserved
loop-end-preserved g c =
    let V = g.row.H-Value.Denot in
    let h = g.H.Host.fixed c.args.host.now in
    let bytes = c.args.bytes.now in
    let at = c.loop-end.place.at in
    let next = c.run_next.new.place.at in
    let ls : List (Line V) = lines_of (vec_items c.loop-end.entries) in
    let ls' : List (Line V) = lines_of (vec_items c.run_next.new.entries) in
    let w = g.H.Host.values c.loop-end.host in
    let w' = g.H.Host.values c.run_next.new.host in (
      c.in_default.ensures.fixed ∙ c.loop-end.invariant.0,
      progress_more h bytes at next ls ls' (g.H.Host.values c.args.host.now) w w' c.loop-end.invariant.1
          (subst (λ (f : Fixed V). Next f bytes at next ls ls' w w') c.loop-end.invariant.0 c.in_default.ensures.cases),
    )
