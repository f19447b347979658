use Rattle.std.proofs.Common.{◌≡◌, ◌+◌, ◌≤◌, ◌++◌, length, drop, vec_items, vec_len, vec_capacity}
use Rattle.roll.specs.Built.{state_after}
use Rattle.manager.specs.Model.{tables_of}
use Rattle.manager.specs.Answers.{state_with, setting_with}
use Rattle.runs.specs.Told.{calls_of, all_told, answers_to}
use Rattle.runs.proofs.performing.perform_all.Given as goal

-- there is room for the answers that are left; and with the calls that are left, the answers and the state come to those of all calls
abbrev pub invariant-loop-call : goal.invariant-loop-call
invariant-loop-call g l =
    (vec_len l.answers + length l.calls ≤ vec_capacity l.answers + l.call-index)
    × (g.H.Host.fixed l.host ≡ g.H.Host.fixed l.initial.host)
    × (tables_of l.manager.inner ≡ tables_of l.initial.manager.inner)
    × (all_told (vec_items l.answers) ++ answers_to (setting_with l.manager (g.H.Host.fixed l.host)) (state_with l.manager (g.H.Host.values l.host)) (calls_of (drop l.call-index l.calls))
    ≡ all_told (vec_items l.initial.answers) ++ answers_to (setting_with l.initial.manager (g.H.Host.fixed l.initial.host)) (state_with l.initial.manager (g.H.Host.values l.initial.host)) (calls_of l.calls))
    × (state_after (setting_with l.manager (g.H.Host.fixed l.host)) (state_with l.manager (g.H.Host.values l.host)) (calls_of (drop l.call-index l.calls))
    ≡ state_after (setting_with l.initial.manager (g.H.Host.fixed l.initial.host)) (state_with l.initial.manager (g.H.Host.values l.initial.host)) (calls_of l.calls))
