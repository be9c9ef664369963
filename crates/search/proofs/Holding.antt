-- A round that has all booked actions of t holds the bookings of t, and the other way round.
use Rattle.std.proofs.Common.{◌≡◌, ℕ, ◌<◌, List, Some, None, Option, get_or, refl, subst}
use mathlib.Core.Logic.{∥∥₁_elim}
use native.Mathlib.Nat.{ℕ_set}
use Rattle.sets.specs.Sets.{Part}
use Rattle.model.specs.declared.Booking.{Booking}
use Rattle.model.specs.Ledgers.{slot, Among}
use Rattle.model.specs.Bookings.{BookedFor}
use Rattle.model.specs.Sieves.{Subject, Holds}
use Rattle.rounds.specs.Firsts.{Answered}
use Rattle.search.specs.Courses.{NextFrom}

module _ (bookings : List Booking) (t : ℕ) (must : List ℕ) (charged : ∥ ((t : ℕ) → t < 32 → BookedFor bookings t (get_or must t 0)) ∥₁) (early : t < 32) where
  holds_from : (round : ℕ) → Part (get_or must t 0) round → Holds bookings t round
  holds_from round part y among e =
      let is : y ≡ slot y.action t = λ i. record { action = y.action; round = e i } in
      ∥∥₁_elim charged (ℕ_set _ _) (λ booked. part y.action ((booked t early y.action).1 (subst (λ (z : Booking). Among z bookings) is among)))

  holds_to : (round : ℕ) → Holds bookings t round → Part (get_or must t 0) round
  holds_to round holds a h = ∥∥₁_elim charged (ℕ_set _ _) (λ booked. holds (slot a t) ((booked t early a).0 h) refl)

pub next_from : (x : Subject) (state t from : ℕ) (must : List ℕ) (r : Option ℕ) → ∥ ((t : ℕ) → t < 32 → BookedFor x.card.bookings t (get_or must t 0)) ∥₁ → t < 32 → Answered x.task state (get_or must t 0) from r → NextFrom x state t from r
next_from x state t from must (Some r) charged early found = (
  found.least,
  (found.good.0, holds_from x.card.bookings t must charged early r found.good.1),
  λ q le lt open_round. found.first q le lt (open_round.0, holds_to x.card.bookings t must charged early q open_round.1),
)
next_from x state t from must None charged early none = λ q le open_round. none q le (open_round.0, holds_to x.card.bookings t must charged early q open_round.1)
