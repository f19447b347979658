-- The bytes of a message. Assumes nothing.
--
--   Contents    what a message says
--   layout      its bytes, numbers little-endian
--   Fits        the numbers of a message fit their fields
use Rattle.std.specs.Prelude.{ℕ, zero, suc, ◌/◌, ◌%◌, ◌^◌, ◌<◌, ◌≤◌, List, [], ◌∷◌, ◌++◌, length}
use Rattle.task.specs.declared.Access.{Access}
use Rattle.task.specs.declared.Direction.{Direction}
use Rattle.task.specs.declared.Direction.TheVariants.{In, Out, InOut}
use Rattle.task.specs.Limits.{max_accesses}

-- what a message says: a task is submitted, by its name, its kind of work and its accesses; or a seat is finished
pub data Contents : Type 0 where
  submits : ℕ → ℕ → List Access → Contents
  finishes : ℕ → Contents

-- the first byte of every message; the second byte of a submission and of a finish notice
abbrev pub version : ℕ
version = 2

abbrev pub submission_kind : ℕ
submission_kind = 1

abbrev pub notice_kind : ℕ
notice_kind = 2

-- w bytes of a number, the lowest first
abbrev pub little : ℕ → ℕ → List ℕ
little zero n = []
little (suc w) n = n % 256 ∷ little w (n / 256)

-- the byte of a direction
abbrev pub code : Direction → ℕ
code In = 1
code Out = 2
code InOut = 3

-- the addresses one after another, 8 bytes each
abbrev pub address_bytes : List Access → List ℕ
address_bytes [] = []
address_bytes (x ∷ xs) = little 8 x.address ++ address_bytes xs

-- the directions one after another, a byte each
abbrev pub direction_bytes : List Access → List ℕ
direction_bytes [] = []
direction_bytes (x ∷ xs) = code x.direction ∷ direction_bytes xs

-- the bytes of a message: version and kind; then of a submission the number of accesses in 2 bytes, the name and the kind
-- of work in 4 each, the addresses and the directions; of a finish notice the seat in 2 bytes
abbrev pub layout : Contents → List ℕ
layout (submits name kind xs) =
    version ∷ submission_kind ∷ (little 2 (length xs) ++ (little 4 name ++ (little 4 kind ++ (address_bytes xs ++ direction_bytes xs))))
layout (finishes seat) = version ∷ notice_kind ∷ little 2 seat

-- each address fits 8 bytes
abbrev pub AddressesFit : List Access → Type 0
AddressesFit [] = Unit {0}
AddressesFit (x ∷ xs) = (x.address < 2 ^ 64) × AddressesFit xs

-- a message's numbers fit their fields, and a submission has at most 15 accesses
abbrev pub Fits : Contents → Type 0
Fits (submits name kind xs) = (name < 2 ^ 32) × (kind < 2 ^ 32) × (length xs ≤ max_accesses) × AddressesFit xs
Fits (finishes seat) = seat < 2 ^ 16
