use Rattle.std.proofs.Common.{◌≡◌, ◌-◌, ◌++◌}
use Rattle.roll.specs.Rehearsal.{rehearsed}
use Rattle.rehearse_run.specs.Rounds.{rounds, rehearsed_state}
use Rattle.rehearse_run.specs.Session.{setting_at, state_at, lines_at}
use Rattle.rehearse_run.proofs.rounds.Session.feed_all.Given as goal

-- with the rounds that are left, the lines and the state come to those of all rounds
abbrev pub invariant-loop-round : goal.invariant-loop-round
invariant-loop-round l =
    (setting_at l.self ≡ setting_at l.initial.self)
    × (lines_at l.self ++ rehearsed (setting_at l.self) l.reader.bytes.now (rounds - l.round) l.reader.place.at (state_at l.self)
    ≡ lines_at l.initial.self ++ rehearsed (setting_at l.initial.self) l.initial.reader.bytes.now rounds l.initial.reader.place.at (state_at l.initial.self))
    × (rehearsed_state (setting_at l.self) l.reader.bytes.now (rounds - l.round) l.reader.place.at (state_at l.self)
    ≡ rehearsed_state (setting_at l.initial.self) l.initial.reader.bytes.now rounds l.initial.reader.place.at (state_at l.initial.self))
