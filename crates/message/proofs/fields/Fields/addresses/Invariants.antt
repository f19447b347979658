use Rattle.std.proofs.Common.{◌≡◌, ◌+◌, ◌-◌, ◌*◌, length, take, drop}
use Rattle.layout.specs.Reading.{addresses}
use Rattle.message.specs.Fields.{SameMessage}
use Rattle.message.proofs.Prefix.{prefixed}
use Rattle.message.proofs.fields.Fields.addresses.Given as goal

-- all addresses come to those read so far and those that are left
abbrev pub invariant-loop-slot : goal.invariant-loop-slot
invariant-loop-slot l = record {
  ends : l.slot-index-end ≡ length l.fn.list;
  long : length l.slot-items ≡ length l.fn.list;
  same : SameMessage l.initial.self l.self;
  moved : l.self.place.now.at ≡ l.initial.self.place.now.at + 8 * l.slot-index;
  read : addresses (length l.fn.list) (l.initial.self.place.now.at - l.initial.self.start) (drop l.initial.self.place.now.at l.initial.self.bytes.now)
      ≡ prefixed (take l.slot-index l.slot-items) (addresses (length l.fn.list - l.slot-index) (l.self.place.now.at - l.self.start) (drop l.self.place.now.at l.self.bytes.now));
}
