use Rattle.std.proofs.Common.{◌≡◌, ◌≤◌, drop, vec_items, vec_len, vec_capacity}
use Rattle.task.specs.Access.{writes, numbered, writers}
use Rattle.one_at_a_time.specs.Alone.{AllHeld}
use Rattle.one_at_a_time.proofs.Putting.{Putting}
use Rattle.one_at_a_time.proofs.alone.put_all.Given as goal

-- what is left to put from here comes to what all comes to from the start
abbrev pub invariant-loop-i : goal.invariant-loop-i
invariant-loop-i g l = record {
  few : vec_len l.wrote ≤ l.i;
  room : 15 ≤ vec_capacity l.wrote;
  fixed : g.H.Host.fixed l.host ≡ g.H.Host.fixed l.initial.host;
  held : AllHeld (g.H.Host.fixed l.initial.host) (drop l.i l.accesses);
  put : Putting (g.H.Host.fixed l.initial.host) l.task.kind l.n (g.H.Host.values l.initial.host) (writers l.accesses) (numbered writes l.i (drop l.i l.accesses)) (vec_items l.wrote) (g.H.Host.values l.host);
}
