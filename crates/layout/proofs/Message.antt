-- A whole message: laid out and read back, read and laid out. Assumes nothing.
use Rattle.std.proofs.Common.{◌≡◌, ℕ, ◌+◌, ◌*◌, ◌≤◌, eqb, ltb, List, [], ◌∷◌, ◌++◌, length, Ok, Err, sym, refl, ap, ◌∙◌, subst, append_assoc, arith}
use Rattle.std.proofs.lemmas.Bool.{ltb-false, le-ltb, eqb-true, cond-false, cond_both}
use Rattle.fault.specs.declared.StreamFault.TheVariants.{NoByteLeft, UnknownVersion, UnknownKind, BeyondEnd, TooMany}
use Rattle.task.specs.declared.Access.{Access}
use Rattle.task.specs.Limits.{max_accesses}
use Rattle.layout.specs.Layout.{Contents, submits, finishes, version, submission_kind, notice_kind, little, address_bytes, direction_bytes, layout, Fits}
use Rattle.layout.specs.Reading.{Read, number, addresses, directions, submission_of, submission, notice, kinded, read}
use Rattle.layout.specs.Agreement.{Bytes}
use Rattle.layout.proofs.Steps.{no_value, then_ok, then_steps, fault_unless, fault_if_not}
use Rattle.layout.proofs.Number.{number_laid, number_exact}
use Rattle.layout.proofs.Lists.{places, addresses_laid, addresses_exact, directions_laid, directions_exact}

-- the bytes of a submission with what stands behind it, field after field
submission_joined : (name kind : ℕ) (xs : List Access) (rest : List ℕ) {bs at_name at-kind at-addresses at-directions : List ℕ} →
    bs ≡ little 2 (length xs) ++ at_name → at_name ≡ little 4 name ++ at-kind → at-kind ≡ little 4 kind ++ at-addresses →
    at-addresses ≡ address_bytes xs ++ at-directions → at-directions ≡ direction_bytes xs ++ rest →
    version ∷ submission_kind ∷ bs ≡ layout (submits name kind xs) ++ rest
submission_joined name kind xs rest a b c d e =
    rw (a, b, c, d, e) (ap (λ (r : List ℕ). version ∷ submission_kind ∷ (little 2 (length xs) ++ (little 4 name ++ (little 4 kind ++ r)))) (sym (append_assoc (address_bytes xs) (direction_bytes xs) rest)))

-- a message that fits is read back from its bytes
pub message_laid : (m : Contents) → Fits m → (place : ℕ) (rest : List ℕ) → read place (layout m ++ rest) ≡ Ok (m, rest)
message_laid (submits name kind xs) h place rest =
    let n = length xs in
    let at-directions = direction_bytes xs ++ rest in
    let at-addresses = address_bytes xs ++ at-directions in
    let at-kind = little 4 kind ++ at-addresses in
    let at_name = little 4 name ++ at-kind in
    let few : n ≤ max_accesses = h.2 in
    ap (read place) (sym (submission_joined name kind xs rest refl refl refl refl refl))
    ∙ (then_ok _ _ (n, at_name) _ (number_laid 2 2 n at_name (omega arith))
    (cond-false (ltb max_accesses n) (Err (TooMany n)) (submission_of n at_name) (le-ltb max_accesses n few)
    ∙ then_ok _ _ (name, at-kind) _ (number_laid 4 4 name at-kind h.0)
    (then_ok _ _ (kind, at-addresses) _ (number_laid 4 8 kind at-addresses h.1)
    (then_ok _ _ (places xs, at-directions) _ (addresses_laid xs h.3 12 at-directions)
    (then_ok _ _ (xs, rest) _ (directions_laid xs (12 + 8 * n) rest) refl)))))
message_laid (finishes seat) h place rest = then_ok _ _ (seat, rest) _ (number_laid 2 2 seat rest h) refl

-- the bytes begin with those of the message, which fits
abbrev pub Says : List ℕ → Contents × List ℕ → Type 0
Says bs p = (bs ≡ layout p.0 ++ p.1) × Fits p.0

-- a submission that is read is laid out as the bytes that it is read from
submission_exact : (bs : List ℕ) → Bytes bs → (p : Contents × List ℕ) → submission bs ≡ Ok p → Says (version ∷ submission_kind ∷ bs) p
submission_exact bs h p e =
    let count = then_steps (number 2 2 bs) _ p e in
    let few = fault_unless (ltb max_accesses count.value) (TooMany count.value) (submission_of count.value count.rest) p count.goes in
    let name = then_steps (number 4 4 count.rest) _ p few.1 in
    let kind = then_steps (number 4 8 name.rest) _ p name.goes in
    let list = then_steps (addresses count.value 12 kind.rest) _ p kind.goes in
    let xs = then_steps (directions list.value (12 + 8 * count.value) list.rest) _ p list.goes in
    let is : (submits name.value kind.value xs.value, xs.rest) ≡ p = cc in
    let at_count = number_exact 2 2 bs h (count.value, count.rest) count.reads in
    let at_name = number_exact 4 4 count.rest at_count.2 (name.value, name.rest) name.reads in
    let at-kind = number_exact 4 8 name.rest at_name.2 (kind.value, kind.rest) kind.reads in
    let at-directions = directions_exact list.value (12 + 8 * count.value) list.rest (xs.value, xs.rest) xs.reads in
    let at-addresses = addresses_exact count.value 12 kind.rest at-kind.2 xs.value list.rest (rw at-directions.0 at list.reads) in
    let laid = submission_joined name.value kind.value xs.value xs.rest (rw at-addresses.0 at at_count.0) at_name.0 at-kind.0 at-addresses.1 at-directions.1 in
    let short : length xs.value ≤ max_accesses = rw at-addresses.0 at (ltb-false max_accesses count.value few.0) in
    subst (Says (version ∷ submission_kind ∷ bs)) is (laid, (at_name.1, at-kind.1, short, at-addresses.2))

-- a finish notice that is read is laid out as the bytes that it is read from
notice_exact : (bs : List ℕ) → Bytes bs → (p : Contents × List ℕ) → notice bs ≡ Ok p → Says (version ∷ notice_kind ∷ bs) p
notice_exact bs h p e =
    let seat = then_steps (number 2 2 bs) _ p e in
    let at-seat = number_exact 2 2 bs h (seat.value, seat.rest) seat.reads in
    let is : (finishes seat.value, seat.rest) ≡ p = cc in
    subst (Says (version ∷ notice_kind ∷ bs)) is (ap (λ (r : List ℕ). version ∷ notice_kind ∷ r) at-seat.0, at-seat.1)

-- a message that is read is laid out as the bytes that it is read from
pub message_exact : (place : ℕ) (bs : List ℕ) → Bytes bs → (p : Contents × List ℕ) → read place bs ≡ Ok p → Says bs p
message_exact place [] h p e = absurd (no_value (NoByteLeft place) p e)
message_exact place (v ∷ []) h p e = absurd (no_value (BeyondEnd 1) p (fault_if_not (eqb v version) (UnknownVersion v) (Err (BeyondEnd 1)) p e).1)
message_exact place (v ∷ k ∷ bs) h p e =
    let known = fault_if_not (eqb v version) (UnknownVersion v) (kinded (k ∷ bs)) p e in
    let first : v ≡ version = eqb-true v version known.0 in
    let P : Read Contents → Type 0 = λ r. r ≡ Ok p → Says (v ∷ k ∷ bs) p in
    cond_both (eqb k submission_kind) _ _ P (λ t e. rw (first, eqb-true k submission_kind t) (submission_exact bs h.1.1 p e))
    (λ _. cond_both (eqb k notice_kind) _ _ P (λ t e. rw (first, eqb-true k notice_kind t) (notice_exact bs h.1.1 p e))
    (λ _ e. absurd (no_value (UnknownKind k) p e))) known.1
