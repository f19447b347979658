-- The roll as a queue of claims for each address, in order of acceptance. Assumes nothing.
--
--   bare, bares                an entry, a roll with nothing but seats and accesses
--   on, queue                  the claims of one task on an address; those of a whole roll
--   Apart, AllApart            no task has an address twice
--   map_of                     what a roll makes of each address
--   hit_count, stuck_of        how many accesses conflict with an earlier task; how many claims of a seat wait
--   AbsentSeat                 no task of the roll has the seat
use Rattle.std.specs.Prelude.{◌≡◌, ℕ, ◌+◌, false, List, [], ◌∷◌, ◌++◌, ◌==◌}
use Rattle.task.specs.declared.Access.{Access}
use Rattle.task.specs.Access.{writes, keep}
use Rattle.admission.specs.Admission.{occurs}
use Rattle.roll.specs.Roll.{Entry, Roll}
use Rattle.roll.specs.Roll as roll
use Rattle.roll.specs.Tables.{tally}
use Rattle.claims.specs.declared.Claim.{Claim}
use Rattle.claims.specs.Claims.{State, against, claims, canon}

-- an entry of which only the seat and the accesses matter
abbrev pub bare : ℕ → List Access → Entry
bare s xs = record { name = 0; job = record { seat = s; kind = 0; accesses = xs }; standing = roll.waiting }

-- the roll with nothing but seats and accesses
abbrev pub bares : Roll → Roll
bares [] = []
bares (e ∷ es) = bare e.job.seat e.job.accesses ∷ bares es

-- the claim that an access of a seat's task makes on its address
abbrev pub claim : ℕ → Access → Claim
claim s x = record { seat = s; writes = writes x }

-- the claims of a task on an address
abbrev pub on : ℕ → ℕ → List Access → List Claim
on a s [] = []
on a s (x ∷ xs) = keep (x.address == a) (claim s x) (on a s xs)

-- all claims on an address, in order of acceptance
abbrev pub queue : ℕ → Roll → List Claim
queue a [] = []
queue a (e ∷ es) = on a e.job.seat e.job.accesses ++ queue a es

-- no address occurs twice
abbrev pub Apart : List Access → Type 0
Apart [] = Unit {0}
Apart (x ∷ xs) = (occurs x.address xs ≡ false) × Apart xs

-- so it is in every task
abbrev pub AllApart : Roll → Type 0
AllApart [] = Unit {0}
AllApart (e ∷ es) = Apart e.job.accesses × AllApart es

-- what the roll makes of each address
abbrev pub map_of : Roll → ℕ → State
map_of v a = canon (queue a v)

-- how many accesses conflict with an earlier task
abbrev pub hit_count : Roll → List Access → ℕ
hit_count v [] = 0
hit_count v (x ∷ xs) = tally (against (writes x) (queue x.address v)) + hit_count v xs

-- how many claims of a seat wait at the addresses of these accesses
abbrev pub stuck_of : (ℕ → State) → ℕ → List Access → ℕ
stuck_of M t [] = 0
stuck_of M t (x ∷ xs) = claims t (M x.address).waiting + stuck_of M t xs

-- no entry of the roll has the seat
abbrev pub AbsentSeat : ℕ → Roll → Type 0
AbsentSeat t [] = Unit {0}
AbsentSeat t (e ∷ es) = ((e.job.seat == t) ≡ false) × AbsentSeat t es
