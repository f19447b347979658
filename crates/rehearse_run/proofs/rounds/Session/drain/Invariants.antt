use Rattle.std.proofs.Common.{◌≡◌, ◌-◌, ◌++◌}
use Rattle.roll.specs.Rehearsal.{drained}
use Rattle.rehearse_run.specs.Rounds.{drained_state}
use Rattle.rehearse_run.specs.Session.{setting_at, state_at, lines_at}
use Rattle.rehearse_run.proofs.rounds.Session.drain.Given as goal

-- with the turns that are left, the lines and the state come to those of all turns
abbrev pub invariant-loop : goal.invariant-loop
invariant-loop l =
    (setting_at l.self ≡ setting_at l.initial.self)
    × (lines_at l.self ++ drained (setting_at l.self) (l.most - l.counter) (state_at l.self)
    ≡ lines_at l.initial.self ++ drained (setting_at l.initial.self) l.most (state_at l.initial.self))
    × (drained_state (setting_at l.self) (l.most - l.counter) (state_at l.self) ≡ drained_state (setting_at l.initial.self) l.most (state_at l.initial.self))
