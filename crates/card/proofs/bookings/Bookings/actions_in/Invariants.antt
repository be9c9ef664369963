use Rattle.std.proofs.Common.{take}
use Rattle.model.specs.Bookings.{BookedFor}
use Rattle.card.proofs.bookings.Bookings.actions_in.Given as goal

abbrev pub invariant-loop-b : goal.invariant-loop-b
invariant-loop-b l = BookedFor (take l.b-index l.b-items) l.round l.actions
