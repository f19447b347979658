use Rattle.std.proofs.Common.{◌≡◌, ◌+◌, ◌-◌, length, drop}
use Rattle.layout.specs.Reading.{directions}
use Rattle.task.specs.Task.{accesses_of}
use Rattle.message.specs.Fields.{SameMessage}
use Rattle.message.proofs.Prefix.{prefixed}
use Rattle.message.proofs.fields.Fields.directions.Given as goal

-- all directions come to those read so far and those that are left
abbrev pub invariant-loop-address : goal.invariant-loop-address
invariant-loop-address l = record {
  same : SameMessage l.initial.self l.self;
  moved : l.self.place.now.at ≡ l.initial.self.place.now.at + l.address-index;
  count : length (accesses_of l.task) ≡ l.address-index;
  name : l.task.name ≡ l.initial.task.name;
  kind : l.task.kind ≡ l.initial.task.kind;
  read : directions l.list (l.initial.self.place.now.at - l.initial.self.start) (drop l.initial.self.place.now.at l.initial.self.bytes.now)
      ≡ prefixed (accesses_of l.task) (directions (drop l.address-index l.list) (l.self.place.now.at - l.self.start) (drop l.self.place.now.at l.self.bytes.now));
}
