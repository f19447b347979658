-- What a lock stands for. Assumes nothing.
use Rattle.std.specs.Prelude.{ℕ, Bool, true, false}
use Rattle.claims.specs.Claims.{State}
use Rattle.ring.specs.Model.{contents_of, empty}
use Rattle.tracker.specs.declared.lock.Holders.{Holders}
use Rattle.tracker.specs.declared.lock.Holders.TheVariants.{Reading, Writing}
use Rattle.tracker.specs.declared.lock.Lock.{Lock}

-- how many hold an address
abbrev pub count_of : Holders → ℕ
count_of (Reading n) = n
count_of Writing = 1

-- whether they write
abbrev pub writes_of : Holders → Bool
writes_of (Reading n) = false
writes_of Writing = true

-- how many hold the address, whether they write, and who waits
abbrev pub state_of : Lock → State
state_of l = record { holders = count_of l.held; writing = writes_of l.held; waiting = contents_of l.waiting }

-- a lock that nobody holds, for places outside a table
abbrev pub blank : Lock
blank =
    record {
      held = Reading 0;
      waiting = empty (record { seat = 0; writes = false });
    }
