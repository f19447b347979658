use Rattle.std.proofs.Common.{◌≡◌, ℕ, min, length, take, ap, ◌∙◌, arith}
use Rattle.std.proofs.lemmas.List.{take_min}
use Rattle.serial_run.proofs.looked_at.Goals as goal

pub returns : goal.returns
returns c =
    let bytes = c.args.bytes.now in
    let few : c.min-count.result ≡ min 65536 (length bytes) = omega (arith, c.min-count.ensures) in ap (λ (n : ℕ). take n bytes) few ∙ take_min 65536 bytes
