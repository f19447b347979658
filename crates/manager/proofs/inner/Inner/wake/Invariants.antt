use Rattle.std.proofs.Common.{◌≡◌, length}
use Rattle.manager.proofs.Awake.{Walked, line_at}
use Rattle.manager.proofs.inner.Inner.wake.Given as goal

-- after the places before this one
abbrev pub invariant-loop-place : goal.invariant-loop-place
invariant-loop-place l = Walked l.initial.self l.self l.place × (l.count ≡ length (line_at l.initial.self l.place))
