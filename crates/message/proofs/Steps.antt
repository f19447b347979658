-- A message from its fields: what is read of the whole once its fields were read. Assumes nothing.
use Rattle.std.proofs.Common.{◌≡◌, ℕ, ◌+◌, ◌-◌, ◌*◌, false, nat_lt, List, ◌∷◌, length, drop, Ok, Err, Result, IfOk, ap, ◌∙◌, arith}
use Rattle.fault.specs.declared.StreamFault.{StreamFault}
use Rattle.task.specs.declared.Access.{Access}
use Rattle.task.specs.declared.tasks.Task.{Task}
use Rattle.task.specs.Task.{accesses_of}
use Rattle.layout.specs.Layout.{Contents, submits, finishes, version, submission_kind, notice_kind}
use Rattle.layout.specs.Reading.{Read, then, number, addresses, directions, submission, read}
use Rattle.layout.specs.Agreement.{Bytes}
use Rattle.layout.proofs.Message.{message_exact}
use Rattle.message.specs.declared.Message.{Message}
use Rattle.message.specs.Contents.{contents_of, message_width, submitted, submission_width, Answered, ListRead, BodyRead}

-- a number that was read, in other words for the same bytes, byte number and value
pub number_same : (w k k' at after x x' : ℕ) (bytes bytes' : List ℕ) → bytes' ≡ bytes → k' ≡ k → x ≡ x' →
    number w k' (drop at bytes') ≡ Ok (x, drop after bytes') → number w k (drop at bytes) ≡ Ok (x', drop after bytes)
number_same w k k' at after x x' bytes bytes' b i v e = cc

-- the same of addresses
pub addresses_same : (n k k' at after : ℕ) (list : List ℕ) (bytes bytes' : List ℕ) → bytes' ≡ bytes → k' ≡ k →
    addresses n k' (drop at bytes') ≡ Ok (list, drop after bytes') → addresses n k (drop at bytes) ≡ Ok (list, drop after bytes)
addresses_same n k k' at after list bytes bytes' b i e = cc

-- what is done with the accesses of a submission
abbrev pub submit : ℕ → ℕ → List Access → List ℕ → Read Contents
submit name kind xs rest = Ok (submits name kind xs, rest)

-- a submission comes to its directions, once the fields before them were read
pub submission_steps : (n name kind : ℕ) (list bs bs1 bs2 bs3 bs4 : List ℕ) → nat_lt 15 n ≡ false → number 2 2 bs ≡ Ok (n, bs1) → number 4 4 bs1 ≡ Ok (name, bs2) →
    number 4 8 bs2 ≡ Ok (kind, bs3) → addresses n 12 bs3 ≡ Ok (list, bs4) → submission bs ≡ then (directions list (12 + 8 * n) bs4) (submit name kind)
submission_steps n name kind list bs bs1 bs2 bs3 bs4 few e1 e2 e3 e4 = rw (e1, few, e2, e3, e4)

-- and to what the directions say
pub submission_read : (name kind k place at after start : ℕ) (list bytes bytes' : List ℕ) (task : Task) (r : Result Task StreamFault) → bytes' ≡ bytes → at - start ≡ k →
    task.name ≡ name → task.kind ≡ kind → IfOk r (λ t. (t.name ≡ task.name) × (t.kind ≡ task.kind) × (length (accesses_of t) ≡ length list)) →
    at ≡ place + 10 + 8 * length list → submission (drop place bytes) ≡ then (directions list k (drop at bytes)) (submit name kind) →
    ListRead (directions list) accesses_of (length list) bytes' start at r after → BodyRead submission submitted submission_width bytes place r after
submission_read name kind k place at after start list bytes bytes' task (Ok t) same byte is_name is_kind kept moved e said =
    let h = rw (same, byte) at said.0 in
    let long : length (accesses_of t) ≡ length list = kept.2 in (
      e ∙ ap (λ (r : Read (List Access)). then r (submit name kind)) h ∙ rw (kept.0, kept.1, is_name, is_kind),
      omega (arith, said.1),
    )
submission_read name kind k place at after start list bytes bytes' task (Err f) same byte is_name is_kind kept moved e said =
    let h = rw (same, byte) at said in
    e ∙ ap (λ (r : Read (List Access)). then r (submit name kind)) h

-- a message is a submission, or a finish notice
pub read_submission : (place : ℕ) (bs rest behind : List ℕ) (c : Contents) → bs ≡ version ∷ (submission_kind ∷ rest) → submission rest ≡ Ok (c, behind) → read place bs ≡ Ok (c, behind)
read_submission place bs rest behind c e s = rw e s

pub read_notice : (place seat : ℕ) (bs rest behind : List ℕ) → bs ≡ version ∷ (notice_kind ∷ rest) → number 2 2 rest ≡ Ok (seat, behind) → read place bs ≡ Ok (finishes seat, behind)
read_notice place seat bs rest behind e n = rw (e, n)

-- a message that was read from its first byte, where the place p is behind it
pub answered : (bytes : List ℕ) (place after p : ℕ) (m : Message) → Bytes (drop place bytes) → p ≡ after →
    BodyRead (read place) contents_of message_width bytes place (Ok m) after → Answered bytes place (Ok m) p
answered bytes place after p m fit same said =
    let is : read place (drop place bytes) ≡ Ok (contents_of m, drop p bytes) = rw same said.0 in
    (is, (message_exact place (drop place bytes) fit (contents_of m, drop p bytes) is).0, same ∙ said.1)
