use Rattle.std.proofs.Common.{◌≡◌, true, [], ◌∷◌, ◌++◌, length, sym, ap, ◌∙◌, arith}
use Rattle.std.proofs.lemmas.Bool.{lt-ltb}
use Rattle.ring.specs.Model.{contents_of}
use Rattle.manager.proofs.Made.{numbers_push, length_numbers}
use Rattle.manager.proofs.manager.makes.free_line.Goals as goal

-- the next seat goes in at the end
pub loop-seat-preserved : goal.loop-seat-preserved
loop-seat-preserved c =
    let n = c.loop-seat.seat in
    let many : length (contents_of c.loop-seat.line) ≡ n = ap length c.loop-seat.invariant ∙ length_numbers 0 n in
    let room : c.push.result ≡ true = c.push.ensures.answer ∙ lt-ltb (length (contents_of c.loop-seat.line)) 256 (omega arith) in
    let line = rw room at c.push.ensures.contents in
    line ∙ ap (λ ks. ks ++ (n ∷ [])) c.loop-seat.invariant ∙ sym (numbers_push n)
