-- The tables: their sizes, what a roll uses of them, and why a submission is refused. Assumes nothing.
--
--   Tables               how many seats and versions there are, and which set an address belongs to
--   live, needs, used    the live addresses, the versions that a submission needs, those in use
--   fresh, occupied      the new addresses of a set, and the live ones
--   submit_fault         the first fault of a submission, in the order of the checks
use Rattle.std.specs.Prelude.{ℕ, ◌+◌, ◌-◌, ◌%◌, min, Bool, true, false, cond, not, ◌&&◌, ◌||◌, List, [], ◌∷◌, length, is_some, Some, None, Option, ◌==◌, nat_lt}
use Rattle.fault.specs.declared.TableFault.{TableFault}
use Rattle.fault.specs.declared.TableFault.TheVariants.{NeverFits, NoFreeSeat, TooFewVersions, SetFull}
use Rattle.fault.specs.declared.ManagerFault.{ManagerFault}
use Rattle.fault.specs.declared.ManagerFault.TheVariants.{Table}
use Rattle.task.specs.declared.Access.{Access}
use Rattle.task.specs.Access.{writes}
use Rattle.admission.specs.Admission.{first_from, occurs, task_fault}
use Rattle.roll.specs.Roll.{Roll}

-- how many seats and versions there are at most, how many sets, and how many addresses a set holds
abbrev pub max_seats : ℕ
max_seats = 256

abbrev pub max_versions : ℕ
max_versions = 512

abbrev pub sets : ℕ
sets = 64

abbrev pub ways : ℕ
ways = 8

-- the numbers of seats and of versions, and the set that an address belongs to
pub record Tables : Type 0 where
  pub seats : ℕ
  pub versions : ℕ
  pub set_of : ℕ → ℕ

-- tables as they are made: above the most, the most is taken, and an address belongs to the set of its remainder
abbrev pub tables : ℕ → ℕ → Tables
tables seats versions = record { seats = min seats max_seats; versions = min versions max_versions; set_of = λ a. a % sets }

-- 1 if the test holds
abbrev pub tally : Bool → ℕ
tally true = 1
tally false = 0

-- an address is live while an unfinished task has an access to it
abbrev pub live : Roll → ℕ → Bool
live [] a = false
live (e ∷ es) a = occurs a e.job.accesses || live es a

-- the versions that a submission needs: one for each access that writes or whose address is not live
abbrev pub needs : Roll → List Access → ℕ
needs roll [] = 0
needs roll (x ∷ xs) = tally (writes x || not (live roll x.address)) + needs roll xs

-- the versions in use: of each address one for each task that writes it, and one more if the first task that touches it only reads
abbrev pub used : Roll → Roll → ℕ
used earlier [] = 0
used earlier (e ∷ es) = needs earlier e.job.accesses + used (e ∷ earlier) es

-- how many of these addresses are of one set and not live; how many of that set are live
abbrev pub fresh : Tables → Roll → ℕ → List Access → ℕ
fresh z roll set [] = 0
fresh z roll set (x ∷ xs) = tally (z.set_of x.address == set && not (live roll x.address)) + fresh z roll set xs

abbrev pub occupied : Tables → ℕ → Roll → Roll → ℕ
occupied z set earlier [] = 0
occupied z set earlier (e ∷ es) = fresh z earlier set e.job.accesses + occupied z set (e ∷ earlier) es

-- the lowest set for which the count is above the ways
abbrev pub crowded : (ℕ → ℕ) → Option ℕ
crowded count = first_from (λ set. nat_lt ways (count set)) 0 sets

-- a task that fits into no such tables, even empty ones: there is no seat, or it has more accesses than there are versions, or over 8
-- addresses in one set
abbrev pub never_fits : Tables → List Access → Bool
never_fits z xs = z.seats == 0 || (nat_lt z.versions (length xs) || is_some (crowded (λ set. fresh z [] set xs)))

-- how many versions are missing
abbrev pub missing : Tables → Roll → List Access → ℕ
missing z roll xs = needs roll xs - (z.versions - used [] roll)

-- is there no free seat?
abbrev pub none_free : List ℕ → Bool
none_free [] = true
none_free (s ∷ free) = false

-- a set that has no room
abbrev pub full_set : Option ℕ → Option TableFault
full_set (Some set) = Some (SetFull set)
full_set None = None

-- a stall: no free seat, too few versions, or a set without room, in that order
abbrev pub stall : Tables → Roll → List ℕ → List Access → Option TableFault
stall z roll free xs =
    cond (none_free free) (Some NoFreeSeat)
    (cond (nat_lt 0 (missing z roll xs)) (Some (TooFewVersions (missing z roll xs)))
    (full_set (crowded (λ set. occupied z set [] roll + fresh z roll set xs))))

-- what the tables refuse, held whole in a fault of the manager
abbrev pub by_tables : Option TableFault → Option ManagerFault
by_tables (Some fault) = Some (Table fault)
by_tables None = None

-- the first of two faults
abbrev pub or_else : Option ManagerFault → Option ManagerFault → Option ManagerFault
or_else (Some fault) next = Some fault
or_else None next = next

-- a fault that no call before it can mend: of the task itself, or because it never fits
abbrev pub lasting_fault : Tables → (ℕ → Bool) → List Access → Option ManagerFault
lasting_fault z held xs = or_else (task_fault held xs) (cond (never_fits z xs) (Some (Table NeverFits)) None)

-- the first fault of a submission
abbrev pub submit_fault : Tables → (ℕ → Bool) → Roll → List ℕ → List Access → Option ManagerFault
submit_fault z held roll free xs = or_else (lasting_fault z held xs) (by_tables (stall z roll free xs))
