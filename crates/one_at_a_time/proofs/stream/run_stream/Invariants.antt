use Rattle.std.proofs.Common.{◌≡◌, ◌-◌, length, vec_items}
use Rattle.one_at_a_time.specs.Ran.{lines_of, Progress}
use Rattle.one_at_a_time.proofs.stream.run_stream.Given as goal

-- the bytes up to the place were run
abbrev pub invariant-loop-end : goal.invariant-loop-end
invariant-loop-end g l =
    (g.H.Host.fixed l.host ≡ g.H.Host.fixed l.initial.host)
    × Progress (g.H.Host.fixed l.initial.host) l.bytes l.place.at (lines_of (vec_items l.entries)) (g.H.Host.values l.initial.host) (g.H.Host.values l.host)

-- the bytes that are left
abbrev pub decreases-loop-end : goal.decreases-loop-end
decreases-loop-end g l = length l.bytes - l.place.at
