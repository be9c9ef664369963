-- What the tables of the two sieves hold, and how they are filled.
use Rattle.std.specs.Prelude.{◌≡◌, ℕ, ◌-◌, ◌<◌, ◌≤◌, List, Option, bit_and, slice_index}
use Rattle.sets.specs.Sets.{Marks}
use Rattle.model.specs.declared.Booking.{Booking}
use Rattle.model.specs.Tasks.{Task, Has, action}
use Rattle.model.specs.Gaps.{Closer}
use Rattle.model.specs.Ledgers.{Among}
use Rattle.model.specs.Sieves.{Subject, Late, Near}
use Rattle.londex.specs.Bounds.{SomeCloser}
use Rattle.londex.specs.Tables.{Table, at}

-- at each round that a standing may have: the facts that are late there
abbrev pub Lates : Subject → List ℕ → Type 0
Lates x table = (t : ℕ) → t ≤ x.card.rounds → Marks (Late x t) (slice_index table t)

-- at each round: the actions that are near a coming booking there
abbrev pub Nears : Subject → List ℕ → Type 0
Nears x table = (t : ℕ) → t < x.card.rounds → Marks (Near x t) (slice_index table t)

-- by a row of distances from a fact of the group own, a need of the booked action is too far at round t
abbrev pub Missed : Task → (ℕ → Option ℕ) → ℕ → ℕ → Booking → Type 0
Missed b row own t y = Has b y.action × (t ≤ y.round) × SomeCloser row (bit_and (action b y.action).needs own) (y.round - t)

-- by a table of gaps, the action a in round t is closer to the booking than their gap
abbrev pub Crowded : Task → Table → ℕ → ℕ → Booking → Type 0
Crowded b gaps t a y = Has b y.action × (t ≤ y.round) × ((a ≡ y.action) × (y.round ≡ t) → ⊥) × Closer (at gaps a y.action) (y.round - t)

-- some booking of the list is one with P
abbrev pub SomeBooking : (Booking → Type 0) → List Booking → Type 0
SomeBooking P xs = (y : Booking) × Among y xs × P y
