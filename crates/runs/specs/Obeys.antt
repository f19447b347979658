-- The law over the runs of a manager: its history after any list of calls, and what holds of it. Assumes nothing.
use Rattle.std.specs.Prelude.{◌≡◌, ℕ, List}
use Rattle.host.specs.Meaning.{Fixed, Values}
use Rattle.roll.specs.Calls.{Setting, setting, Call, made}
use Rattle.roll.specs.Built.{state_after}
use Rattle.roll.specs.History.{History, after, beginning}
use Rattle.roll.specs.Law.{Holds}

-- the history of these calls, from a manager that was made in this setting, over a host with these values
abbrev pub history : {V : Type 0} → Setting V → Values V → List Call → History V
history m w cs = after m (beginning m w) cs

-- after these calls the law holds, and the state is the one that the calls leave, one after the other
pub record Lawful {V : Type 0} (m : Setting V) (w : Values V) (cs : List Call) : Type 0 where
  pub law : Holds m (history m w cs)
  pub state : (history m w cs).state ≡ state_after m (made m w) cs

-- so after every list of calls
abbrev pub Obeys : {V : Type 0} → Setting V → Values V → Type 0
Obeys m w = (cs : List Call) → Lawful m w cs

-- so on every host with values of this kind, from whatever values it has, with every number of seats and of versions
abbrev pub AllObey : Type 0 → Type 0
AllObey V = (host : Fixed V) (w : Values V) (seats versions : ℕ) → Obeys (setting host seats versions) w
