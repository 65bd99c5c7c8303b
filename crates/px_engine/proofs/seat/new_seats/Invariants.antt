use Rattle.std.proofs.Common.{◌≡◌, length, All}
use Rattle.px_engine.specs.declared.seat.Seat.{Seat}
use Rattle.px_engine.specs.Seats.{new_seat}
use Rattle.px_engine.proofs.seat.new_seats.Given as goal

abbrev pub invariant-loop-made : goal.invariant-loop-made
invariant-loop-made l = record {
  count : length l.seats.items ≡ l._made;
  new : All (λ (t : Seat). t ≡ new_seat) l.seats.items;
}
