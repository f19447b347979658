use Rattle.std.proofs.Common.{length, vec_items}
use Rattle.cases.proofs.Pairs.{values, Paired}
use Rattle.cases.proofs.hexadecimal.from_hex.Given as goal

abbrev pub invariant-loop-digit : goal.invariant-loop-digit
invariant-loop-digit l = Paired (values l.text) (length l.yielded) (vec_items l.bytes) l.high
