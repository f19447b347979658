use Rattle.std.proofs.Common.{◌≡◌, Ok, ◌∙◌, rules}
use Rattle.message.specs.Contents.{contents_of, message_width, BodyRead}
use Rattle.layout.specs.Reading.{read}
use Rattle.message.proofs.Bytes.{bytes_from}
use Rattle.message.proofs.Steps.{answered}
use Rattle.message.proofs.reader.read_message.Goals as goal

pub returns : goal.returns
returns c =
    let bytes = c.args.bytes.now in
    let at = c.args.place.now.at in
    let after = c.message.new.self.place.now.at in
    let there : c.new-fields.result.place.now ≡ c.args.place.now = c.new-fields.ensures.place ∙ c.new-guard.ensures.place in
    let said : BodyRead (read at) contents_of message_width bytes at (Ok c.in_ok-message.message) after =
    rw (c.new-fields.ensures.bytes, there) at c.in_ok-message.ensures.read in
    answered bytes at after _ c.in_ok-message.message (bytes_from at bytes (λ i. search rules)) (search rules) said
