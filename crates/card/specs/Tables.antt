-- The table that holds a card's bookings.
use Rattle.std.specs.Prelude.{◌≡◌, ℕ, ◌<◌, ◌≤◌, List, length, take, Some, None, Option, slice_index_or}
use Rattle.model.specs.declared.Booking.{Booking}
use Rattle.model.specs.Ledgers.{slot, HoldsAt, Among}
use Rattle.card.specs.declared.bookings.Bookings.{Bookings}

-- the bookings that stand, in order
abbrev pub listed : Bookings → List Booking
listed b = take b.len b.slots

-- the table has 16 slots, at most all of them in use
abbrev pub Fit : Bookings → Type 0
Fit b = (length b.slots ≡ 16) × (b.len ≤ 16)

-- an empty slot
abbrev pub Empty : Booking → Type 0
Empty x = (x.action ≡ 0) × (x.round ≡ 0)

-- the slots that are not in use are empty
abbrev pub Clear : Bookings → Type 0
Clear b = (i : ℕ) → b.len ≤ i → Empty (slice_index_or b.slots i (slot 0 0))

-- each action is at most 63
abbrev pub Small : List Booking → Type 0
Small xs = (x : Booking) → Among x xs → x.action ≤ 63

-- where x first stands
abbrev pub Place : List Booking → Booking → Option ℕ → Type 0
Place xs x None = Among x xs → ⊥
Place xs x (Some i) = HoldsAt xs i x × ((j : ℕ) → j < i → HoldsAt xs j x → ⊥)

-- a booking stands in round k or later
abbrev pub Late : ℕ → List Booking → Type 0
Late k xs = (x : Booking) × Among x xs × (k ≤ x.round)
