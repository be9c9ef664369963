-- What a card's list of bookings keeps, and what may be asked of it.
use Rattle.std.specs.Prelude.{◌≡◌, ℕ, ◌<◌, ◌≤◌, List, length, Some, None, Option, ◌≢◌, slice_index, slice_index_or}
use Rattle.sets.specs.Sets.{In}
use Rattle.model.specs.declared.Booking.{Booking}
use Rattle.model.specs.Tasks.{Task}
use Rattle.model.specs.Plans.{Valid}
use Rattle.model.specs.Ledgers.{Ledger, slot, HoldsAt, Among}

-- each action is at most 63, and each round below the card's number of rounds
abbrev pub Proper : ℕ → List Booking → Type 0
Proper rounds xs = (x : Booking) → Among x xs → (x.action ≤ 63) × (x.round < rounds)

-- no booking stands twice
abbrev pub Once : List Booking → Type 0
Once xs = (i j : ℕ) → i < j → j < length xs → slice_index_or xs i (slot 0 0) ≢ slice_index_or xs j (slot 0 0)

-- what every card's ledger keeps
pub record Sound (l : Ledger) : Type 0 where
  pub short : l.rounds ≤ 32
  pub few : length l.bookings ≤ 16
  pub proper : Proper l.rounds l.bookings
  pub once : Once l.bookings

-- what stands at place i
abbrev pub At : List Booking → ℕ → Option Booking → Type 0
At xs i None = length xs ≤ i
At xs i (Some x) = HoldsAt xs i x

-- r is the set of the actions booked for round t
abbrev pub BookedFor : List Booking → ℕ → ℕ → Type 0
BookedFor xs t r = (a : ℕ) → (In a r → Among (slot a t) xs) × (Among (slot a t) xs → In a r)

-- every booking of the first list is in the second
abbrev pub AllOf : List Booking → List Booking → Type 0
AllOf xs ys = (x : Booking) → Among x xs → Among x ys

-- the plan holds each of the bookings: its action is in its round
abbrev pub HoldsAll : List Booking → List ℕ → Type 0
HoldsAll bookings plan = (x : Booking) → Among x bookings → In x.action (slice_index plan x.round)

-- a valid plan of the card's rounds that holds its bookings
abbrev pub Serves : Ledger → Task → List ℕ → Type 0
Serves l b plan = (length plan ≡ l.rounds) × Valid b plan × HoldsAll l.bookings plan
