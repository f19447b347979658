use Rattle.std.proofs.Common.{◌≡◌, ◌≤◌, drop, vec_items, vec_len, vec_capacity}
use Rattle.task.specs.Access.{reads, numbered, readers}
use Rattle.one_at_a_time.specs.Alone.{AllHeld}
use Rattle.one_at_a_time.proofs.Bringing.{Bringing}
use Rattle.one_at_a_time.proofs.alone.bring_all.Given as goal

-- what is left to bring from here comes to what all comes to from the start
abbrev pub invariant-loop-access : goal.invariant-loop-access
invariant-loop-access g l = record {
  few : vec_len l.read ≤ l.access-index;
  room : 15 ≤ vec_capacity l.read;
  fixed : g.H.Host.fixed l.host ≡ g.H.Host.fixed l.initial.host;
  held : AllHeld (g.H.Host.fixed l.initial.host) (drop l.access-index l.accesses);
  brought : Bringing (g.H.Host.values l.initial.host) (readers l.accesses) (numbered reads l.access-index (drop l.access-index l.accesses)) (vec_len l.read) (vec_items l.read) (g.H.Host.values l.host);
}
