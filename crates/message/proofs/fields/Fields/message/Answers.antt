use Rattle.std.proofs.Common.{◌≡◌, ◌*◌, ◌++◌, length, drop, Ok, sym, ◌∙◌, arith, rules}
use Rattle.task.specs.Task.{accesses_of}
use Rattle.layout.specs.Layout.{submits, finishes, address_bytes, direction_bytes}
use Rattle.layout.specs.Reading.{value, number, submission, read}
use Rattle.message.proofs.Widths.{length_lists}
use Rattle.message.proofs.Numbers.{value_all}
use Rattle.message.proofs.Steps.{read_submission, read_notice, number_same}
use Rattle.message.proofs.fields.Fields.message.Goals as goal

pub returns-in_ok-submission-in-Submission : goal.returns-in_ok-submission-in-Submission
returns-in_ok-submission-in-Submission c =
    let bytes = c.args.self.now.bytes.now in
    let at = c.args.self.now.place.now.at in
    let task = c.in_ok-submission-in-Submission.field-0 in
    let xs = accesses_of task in
    let behind = c.header.new.self.place.now.at in
    let after = c.submission.new.self.place.now.at in
    let long : length (address_bytes xs ++ direction_bytes xs) ≡ 9 * length xs = length_lists xs in
    let head = rw c.in-Submission.is at c.in_ok-header.ensures.read.0 in
    let body : submission (drop behind bytes) ≡ Ok (submits task.name task.kind xs, drop after bytes) = rw c.header.ensures.same.1 at c.in_ok-submission-in-Submission.ensures.read.0 in
    let is : read at (drop at bytes) ≡ Ok (submits task.name task.kind xs, drop after bytes) =
    read_submission at (drop at bytes) (drop behind bytes) (drop after bytes) (submits task.name task.kind xs) head body in
    record {
      reference = c.submission.ensures.same.0 ∙ c.header.ensures.same.0;
      read = (is, omega (arith, c.in_ok-submission-in-Submission.ensures.read.1, c.in_ok-header.ensures.read.1));
    }

pub returns-in_ok-field-in-Finish : goal.returns-in_ok-field-in-Finish
returns-in_ok-field-in-Finish c =
    let bytes = c.args.self.now.bytes.now in
    let at = c.args.self.now.place.now.at in
    let seat = c.from_le_bytes.result in
    let behind = c.header.new.self.place.now.at in
    let after = c.field.new.self.place.now.at in
    let head = rw c.in-Finish.is at c.in_ok-header.ensures.read.0 in
    let is_seat : value c.in_ok-field-in-Finish.field-0 ≡ seat = sym (c.from_le_bytes.ensures ∙ value_all 1 c.in_ok-field-in-Finish.field-0 (search rules)) in
    let body : number 2 2 (drop behind bytes) ≡ Ok (seat, drop after bytes) =
    number_same 2 2 _ behind after _ seat bytes c.header.new.self.bytes.now c.header.ensures.same.1 (omega (arith, c.in_ok-header.ensures.read.1)) is_seat c.in_ok-field-in-Finish.ensures.read.0 in
    let is : read at (drop at bytes) ≡ Ok (finishes seat, drop after bytes) = read_notice at seat (drop at bytes) (drop behind bytes) (drop after bytes) head body in
    record {
      reference = c.field.ensures.same.0 ∙ c.header.ensures.same.0;
      read = (is, omega (arith, c.in_ok-field-in-Finish.ensures.read.1, c.in_ok-header.ensures.read.1));
    }
