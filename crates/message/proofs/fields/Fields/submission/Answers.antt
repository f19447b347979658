use Rattle.std.proofs.Common.{◌≡◌, ◌+◌, ◌*◌, false, nat_lt, length, drop, Ok, refl, sym, ◌∙◌, arith, rules}
use Rattle.std.proofs.lemmas.Bool.{le-ltb}
use Rattle.layout.specs.Reading.{value, number, addresses}
use Rattle.message.proofs.Numbers.{value_all}
use Rattle.message.proofs.Steps.{number_same, addresses_same, submission_steps, submission_read}
use Rattle.message.proofs.fields.Fields.submission.Goals as goal

pub returns-clause-read : goal.returns-clause-read
returns-clause-read c =
    let bytes = c.args.self.now.bytes.now in
    let at = c.args.self.now.place.now.at in
    let n = c.from-n.result in
    let name = c.from_le_bytes-name.result in
    let kind = c.from_le_bytes-kind.result in
    let at1 = c.field.new.self.place.now.at in
    let at2 = c.field-2.new.self.place.now.at in
    let at3 = c.field-3.new.self.place.now.at in
    let at4 = c.addresses.new.self.place.now.at in
    let same1 = c.field.ensures.same.1 in
    let same2 = c.field-2.ensures.same.1 ∙ same1 in
    let same3 = c.field-3.ensures.same.1 ∙ same2 in
    let same4 = c.addresses.ensures.same.1 ∙ same3 in
    let m1 : at1 ≡ at + 2 = c.in_ok-field.ensures.read.1 in
    let m2 : at2 ≡ at1 + 4 = c.in_ok-field-2.ensures.read.1 in
    let m3 : at3 ≡ at2 + 4 = c.in_ok-field-3.ensures.read.1 in
    let list = c.addresses.new.list in
    let long : length list ≡ n = search rules in
    let m4 : at4 ≡ at3 + 8 * n = rw (sym c.addresses.ensures.length, long) at c.in_ok-addresses.ensures.read.1 in
    let s1 = c.field.ensures.same.2 in
    let s2 = c.field-2.ensures.same.2 in
    let s3 = c.field-3.ensures.same.2 in
    let s4 = c.addresses.ensures.same.2 in
    let v1 : value c.in_ok-field.field-0 ≡ n = sym (c.from-n.ensures ∙ c.from_le_bytes-count.ensures ∙ value_all 1 c.in_ok-field.field-0 (search rules)) in
    let v2 : value c.in_ok-field-2.field-0 ≡ name = sym (c.from_le_bytes-name.ensures ∙ value_all 3 c.in_ok-field-2.field-0 (search rules)) in
    let v3 : value c.in_ok-field-3.field-0 ≡ kind = sym (c.from_le_bytes-kind.ensures ∙ value_all 3 c.in_ok-field-3.field-0 (search rules)) in
    let e1 : number 2 2 (drop at bytes) ≡ Ok (n, drop at1 bytes) = number_same 2 2 _ at at1 _ n bytes bytes refl (omega arith) v1 c.in_ok-field.ensures.read.0 in
    let e2 : number 4 4 (drop at1 bytes) ≡ Ok (name, drop at2 bytes) = number_same 4 4 _ at1 at2 _ name bytes _ same1 (omega arith) v2 c.in_ok-field-2.ensures.read.0 in
    let e3 : number 4 8 (drop at2 bytes) ≡ Ok (kind, drop at3 bytes) = number_same 4 8 _ at2 at3 _ kind bytes _ same2 (omega arith) v3 c.in_ok-field-3.ensures.read.0 in
    let e4 : addresses n 12 (drop at3 bytes) ≡ Ok (list, drop at4 bytes) =
    addresses_same n 12 _ at3 at4 _ bytes _ same3 (omega arith) (rw (sym c.addresses.ensures.length, long) at c.in_ok-addresses.ensures.read.0) in
    let few : nat_lt 15 n ≡ false = le-ltb 15 n c.if-n-gt-MAX_ACCESSES.false in
    let steps = submission_steps n name kind _ (drop at bytes) (drop at1 bytes) (drop at2 bytes) (drop at3 bytes) (drop at4 bytes) few e1 e2 e3 e4 in
    submission_read name kind (12 + 8 * n) at at4 c.directions.new.self.place.now.at c.addresses.new.self.start list bytes
    c.addresses.new.self.bytes.now c.new.result c.directions.result same4 (omega arith) c.new.ensures.name c.new.ensures.kind c.directions.ensures.kept (omega arith)
    steps c.directions.ensures.read
