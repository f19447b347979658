-- What the manager's fields stand for: the roll, the ready line and the free line, beside the values of a host. Assumes nothing.
--
--   seat_at      a seat's record
--   entry_of     the entry of a seat on the roll
--   roll_of      the roll: the seats in order of acceptance, each with its record
--   state_of     the state that the calls are defined on
--   tables_of    the sizes of the tables
use Rattle.std.specs.Prelude.{ℕ, ◌%◌, List, map, replicate, vec_items, slice_index_or, refl}
use Rattle.std.proofs.Common.{lit≤}
use Rattle.task.specs.Task.{accesses_of}
use Rattle.host.specs.Meaning.{Fixed, Values}
use Rattle.roll.specs.Roll.{Entry, Roll}
use Rattle.roll.specs.Tables.{Tables, sets}
use Rattle.roll.specs.Calls.{Setting, State}
use Rattle.ring.specs.Model.{contents_of}
use Rattle.acceptance.specs.Listed.{listed}
use Rattle.seat.specs.declared.seats.Seat.{Seat}
use Rattle.seat.specs.declared.Standing.TheVariants.{Free}
use Rattle.seat.specs.Phases.{standing_of, blank}
use Rattle.manager.specs.declared.inner.Inner.{Inner}

-- a seat with no task
abbrev pub vacant : Seat
vacant = record { task = record { name = 0; kind = 0; slots = replicate 15 blank; count = 0; room = refl; few = lit≤ tt }; standing = Free; phased = refl }

-- the record of a seat; beyond the table, a free one
abbrev pub seat_at : Inner → ℕ → Seat
seat_at i s = slice_index_or (vec_items i.table.records) s vacant

-- what stands on the roll for a seat with this record
abbrev pub entry_of : Seat → ℕ → Entry
entry_of r s = record {
  name = r.task.name;
  job = record { seat = s; kind = r.task.kind; accesses = accesses_of r.task };
  standing = standing_of (accesses_of r.task) r.standing;
}

-- the roll: the seats in order of acceptance, each with its record
abbrev pub roll_of : Inner → Roll
roll_of i = map (λ (s : ℕ). entry_of (seat_at i s) s) (listed i.order)

-- the ready line and the free line
abbrev pub ready_of : Inner → List ℕ
ready_of i = contents_of i.ready

abbrev pub free_of : Inner → List ℕ
free_of i = contents_of i.free

-- the sizes of the tables, and the set of an address
abbrev pub tables_of : Inner → Tables
tables_of i = record { seats = i.seats; versions = i.versions; set_of = λ a. a % sets }

-- the state, beside these values of a host
abbrev pub state_of : {V : Type 0} → Inner → Values V → State V
state_of i w = record { roll = roll_of i; ready_line = ready_of i; free_line = free_of i; values = w }

-- what never changes, beside this host
abbrev pub setting_of : {V : Type 0} → Inner → Fixed V → Setting V
setting_of i h = record { tables = tables_of i; host = h }
