use Rattle.std.proofs.Common.{ℕ, refl, ap}
use Rattle.std.specs.Vec.{with_item}
use Rattle.seat.specs.declared.seats.Seat.{Seat}
use Rattle.manager.specs.declared.inner.SeatTable.{SeatTable}
use Rattle.manager.proofs.inner.SeatTable.lend.Goals as goal

-- the number of the seat is its index
pub returns : goal.returns
returns c =
    let changed : ℕ → Seat → SeatTable = λ s w. record { records = with_item c.args.self.now.records s w } in
    ((refl, λ w. ap (λ (s : ℕ). changed s w) c.from.ensures), record { follows = tt; value = rw c.from.ensures at c.index_mut.ensures.value })
