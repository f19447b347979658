use Rattle.std.proofs.Common.{◌≡◌, ℕ, ◌+◌, ◌-◌, ◌*◌, ◌<◌, ◌≤◌, true, length, get_or, vec_items, arith, rules}
use Rattle.host.specs.SeatValues.{aside_of, within}
use Rattle.host.proofs.Rows.{part_is_row}
use Rattle.host.proofs.seat_values.SeatValues.first.Goals as goal

pub returns-then-n-le-POSITIONS : goal.returns-then-n-le-POSITIONS
returns-then-n-le-POSITIONS g c =
    let xs = vec_items c.args.self.now.values in
    let start : ℕ = c.args.seat * 15 in
    let long : start + c.args.n ≤ length xs = search rules in
    let size : start + c.args.n - start ≡ c.args.n = omega arith in
    record {
      test = search rules;
      value = λ blank.
          let places : (k : ℕ) → k < c.args.n → get_or xs (start + k) blank ≡ aside_of blank c.args.self.now c.args.seat k =
          λ k low. let inside : within c.args.seat k ≡ true = search rules in rw inside in
          rw (size, c.deref.ensures.value) (part_is_row (aside_of blank c.args.self.now c.args.seat) blank xs start c.args.n long places);
    }
