use Rattle.std.proofs.Common.{ℕ, ◌||◌, [], length, is_some, sym, ap, ◌∙◌}
use Rattle.std.proofs.lemmas.Bool.{le-ltb}
use Rattle.roll.specs.Tables.{fresh, crowded}
use Rattle.tracker.specs.Tracked.{sized}
use Rattle.tracker.proofs.Crowds.{crowded_alike}
use Rattle.tracker.proofs.Room.{fresh_sized}
use Rattle.tracker.proofs.tracker.Tracker.never_fits.Goals as goal

-- there are not, so the answer is whether a set is crowded
pub returns-else-accesses-versions : goal.returns-else-accesses-versions
returns-else-accesses-versions c =
    let n = c.args.versions in
    let xs = c.args.accesses.now in
    let counts : ℕ → ℕ = λ z. fresh (sized 0 n) [] z xs in
    c.crowds.ensures
    ∙ ap is_some (crowded_alike (λ z. fresh (sized 0 0) [] z xs) counts (λ z lt. sym (fresh_sized n [] z xs)))
    ∙ sym (ap (λ b. b || is_some (crowded counts)) (le-ltb n (length xs) c.if-accesses-versions.false))
