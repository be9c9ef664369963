-- The number of each refusal.
use Rattle.std.specs.Prelude.{ℕ}
use Rattle.card.specs.declared.refusals.Refusal.{Refusal}
use Rattle.card.specs.declared.refusals.Refusal.TheVariants.{ActionTooHigh, RoundTooLate, BookedAlready, Full, NotBooked, TooLong, Stranded}

abbrev pub number : Refusal → ℕ
number ActionTooHigh = 12
number RoundTooLate = 13
number BookedAlready = 14
number Full = 15
number NotBooked = 16
number TooLong = 17
number Stranded = 18
