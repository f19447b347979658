-- What a reader makes of bytes: the message that they begin with, or the first fault in the order of the fields, where in each
-- field "beyond the end" comes before its value. Assumes nothing.
--
--   number         a number of some bytes
--   addresses      the addresses of a submission
--   directions     its directions, each joined to its address
--   read           a whole message
use Rattle.std.specs.Prelude.{ℕ, zero, suc, ◌+◌, ◌*◌, cond, List, [], ◌∷◌, length, take, drop, Ok, Err, Result, ◌==◌, nat_lt}
use Rattle.fault.specs.declared.StreamFault.{StreamFault}
use Rattle.fault.specs.declared.StreamFault.TheVariants.{NoByteLeft, UnknownVersion, UnknownKind, BeyondEnd, TooMany, UnknownDirection}
use Rattle.task.specs.declared.Access.{Access}
use Rattle.task.specs.declared.Direction.{Direction}
use Rattle.task.specs.declared.Direction.TheVariants.{In, Out, InOut}
use Rattle.task.specs.Limits.{max_accesses}
use Rattle.layout.specs.Layout.{Contents, submits, finishes, version, submission_kind, notice_kind}

-- what reading gives: a value with the bytes behind it, or a fault
abbrev pub Read : Type 0 → Type 0
Read A = Result (A × List ℕ) StreamFault

-- go on with the value and the bytes behind it, unless there was a fault
abbrev pub then : {A B : Type 0} → Read A → (A → List ℕ → Read B) → Read B
then (Ok p) f = f p.0 p.1
then (Err e) f = Err e

-- the number that bytes write, the lowest first
abbrev pub value : List ℕ → ℕ
value [] = 0
value (b ∷ bs) = b + 256 * value bs

-- a number of w bytes, the field that begins at byte k of the message
abbrev pub number : ℕ → ℕ → List ℕ → Read ℕ
number w k bs = cond (nat_lt (length bs) w) (Err (BeyondEnd k)) (Ok (value (take w bs), drop w bs))

-- n addresses, the first at byte k
abbrev pub addresses : ℕ → ℕ → List ℕ → Read (List ℕ)
addresses zero k bs = Ok ([], bs)
addresses (suc n) k bs = then (number 8 k bs) (λ a rest. then (addresses n (k + 8) rest) (λ more rest. Ok (a ∷ more, rest)))

-- the direction of a byte
abbrev pub direction : ℕ → ℕ → List ℕ → Read Direction
direction k b rest = cond (b == 1) (Ok (In, rest)) (cond (b == 2) (Ok (Out, rest)) (cond (b == 3) (Ok (InOut, rest)) (Err (UnknownDirection k b))))

-- one direction, at byte k
abbrev pub direction_at : ℕ → List ℕ → Read Direction
direction_at k [] = Err (BeyondEnd k)
direction_at k (b ∷ bs) = direction k b bs

-- a direction for each of the addresses, the first at byte k
abbrev pub directions : List ℕ → ℕ → List ℕ → Read (List Access)
directions [] k bs = Ok ([], bs)
directions (a ∷ more) k bs =
    then (direction_at k bs) (λ d rest. then (directions more (k + 1) rest) (λ xs rest. Ok (record { address = a; direction = d } ∷ xs, rest)))

-- a submission of n accesses: its name, its kind of work, its addresses and its directions
abbrev pub submission_of : ℕ → List ℕ → Read Contents
submission_of n bs =
    then (number 4 4 bs) (λ name bs.
    then (number 4 8 bs) (λ kind bs.
    then (addresses n 12 bs) (λ list bs. then (directions list (12 + 8 * n) bs) (λ xs rest. Ok (submits name kind xs, rest)))))

-- a submission behind its first two bytes
abbrev pub submission : List ℕ → Read Contents
submission bs = then (number 2 2 bs) (λ n rest. cond (nat_lt max_accesses n) (Err (TooMany n)) (submission_of n rest))

-- a finish notice behind its first two bytes
abbrev pub notice : List ℕ → Read Contents
notice bs = then (number 2 2 bs) (λ seat rest. Ok (finishes seat, rest))

-- a message behind its first byte
abbrev pub kinded : List ℕ → Read Contents
kinded [] = Err (BeyondEnd 1)
kinded (k ∷ bs) = cond (k == submission_kind) (submission bs) (cond (k == notice_kind) (notice bs) (Err (UnknownKind k)))

-- the message that the bytes begin with, for a reader that stands at the place
abbrev pub read : ℕ → List ℕ → Read Contents
read place [] = Err (NoByteLeft place)
read place (v ∷ bs) = cond (v == version) (kinded bs) (Err (UnknownVersion v))
