-- Whether a task is blocked can be read off the claims that wait. Assumes nothing.
use Rattle.std.specs.Prelude.{◌≡◌, false, ◌∷◌, ◌++◌}
use Rattle.roll.specs.Roll.{Entry, Roll, blocked}
use Rattle.claims.specs.Queues.{Apart, AbsentSeat, map_of, stuck_of}

-- a task whose addresses are apart and whose seat is no other task's: none of its claims waits exactly if no earlier task blocks it
abbrev pub ClaimsDecide : Type 0
ClaimsDecide =
    (pre post : Roll) (e : Entry) → Apart e.job.accesses → AbsentSeat e.job.seat pre → AbsentSeat e.job.seat post →
    (stuck_of (map_of (pre ++ (e ∷ post))) e.job.seat e.job.accesses ≡ 0 → blocked pre e.job.accesses ≡ false)
    × (blocked pre e.job.accesses ≡ false → stuck_of (map_of (pre ++ (e ∷ post))) e.job.seat e.job.accesses ≡ 0)
