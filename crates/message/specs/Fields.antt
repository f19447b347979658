-- What the fields of a message keep while they are read. Assumes nothing.
use Rattle.std.specs.Prelude.{◌≡◌}
use Rattle.message.specs.declared.fields.Fields.{Fields}

-- the same message in the same bytes, with the same record of the place
abbrev pub SameMessage : Fields → Fields → Type 0
SameMessage before after = (after.place.ghost_name ≡ before.place.ghost_name) × (after.bytes.now ≡ before.bytes.now) × (after.start ≡ before.start)
