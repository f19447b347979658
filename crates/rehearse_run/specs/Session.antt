-- A rehearsal under way, in the words of the roll. Assumes nothing.
use Rattle.std.specs.Prelude.{ℕ, List, vec_items}
use Rattle.roll.specs.Calls.{Setting, State}
use Rattle.roll.specs.Rehearsal.{Line}
use Rattle.manager.specs.Answers.{state_with, setting_with}
use Rattle.stamp_host.specs.Stamps.{fixed_of, values_of}
use Rattle.rehearse_run.specs.declared.rounds.Session.{Session}
use Rattle.rehearse_run.specs.Rounds.{lines_of}

-- what never changes of its manager and its host: the tables, the held addresses and the work rule
abbrev pub setting_at : Session → Setting ℕ
setting_at s = setting_with s.manager (fixed_of s.host)

-- the state of its manager, beside the values of its host
abbrev pub state_at : Session → State ℕ
state_at s = state_with s.manager (values_of s.host)

-- its lines so far
abbrev pub lines_at : Session → List Line
lines_at s = lines_of (vec_items s.lines)
