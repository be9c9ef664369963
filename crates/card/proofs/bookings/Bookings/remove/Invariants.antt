use Rattle.card.proofs.Shift.{Shifted}
use Rattle.card.proofs.bookings.Bookings.remove.Given as goal

abbrev pub invariant-loop-j : goal.invariant-loop-j
invariant-loop-j l = Shifted l.initial.self.slots l.i l.self.slots l.j
