use Rattle.std.proofs.Common.{◌≡◌}
use Rattle.manager.specs.Model.{tables_of}
use Rattle.manager.specs.Answers.{state_with, setting_with}
use Rattle.drive.proofs.Running.{left_to, all_done}
use Rattle.drive.proofs.turns.run_steps.Given as goal

-- the tables and what is fixed of the host stay, and the steps that are left come to what all came to at the start
abbrev pub invariant-loop : goal.invariant-loop
invariant-loop g l =
    (g.H.Host.fixed l.host ≡ g.H.Host.fixed l.initial.host) × (tables_of l.manager.inner ≡ tables_of l.initial.manager.inner)
    × (all_done l.seat (setting_with l.initial.manager (g.H.Host.fixed l.initial.host)) (state_with l.manager (g.H.Host.values l.host))
    ≡ all_done l.seat (setting_with l.initial.manager (g.H.Host.fixed l.initial.host)) (state_with l.initial.manager (g.H.Host.values l.initial.host)))

-- the steps that are left
abbrev pub decreases-loop : goal.decreases-loop
decreases-loop g l = left_to l.seat (state_with l.manager (g.H.Host.values l.host))
