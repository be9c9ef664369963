-- The bookings of a card, round by round.
use Rattle.std.specs.Prelude.{ℕ, ◌<◌, List, slice_index}
use Rattle.model.specs.Bookings.{BookedFor}
use Rattle.card.specs.declared.Card.{Card}
use Rattle.card.specs.Views.{ledger_of}

-- the table has for each round the actions booked for it
abbrev pub Charged : Card → List ℕ → Type 0
Charged card must = (t : ℕ) → t < 32 → BookedFor (ledger_of card).bookings t (slice_index must t)
