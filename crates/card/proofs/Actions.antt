-- The set of the actions booked for a round, as a loop gathers it.
use Rattle.std.proofs.Common.{◌≡◌, ℕ, ◌+◌, ◌^◌, ◌<◌, List, length, get_or, take, sym, ap, subst, ⊎_elim}
use lib.Bits.{bit_or}
use Rattle.sets.specs.Sets.{In}
use Rattle.sets.proofs.Members.{in_or, or_left, or_right, single_is, single_has}
use Rattle.model.specs.declared.Booking.{Booking}
use Rattle.model.specs.Ledgers.{slot}
use Rattle.model.specs.Bookings.{BookedFor}
use Rattle.card.proofs.Fronts.{booking_is, among_more, among_wider, among_last}

module _ (xs : List Booking) (i t r : ℕ) (lt : i < length xs) (so_far : BookedFor (take i xs) t r) where
  abbrev here : Booking
  here = get_or xs i (slot 0 0)

  pub actions_with : here.round ≡ t → BookedFor (take (i + 1) xs) t (bit_or r (2 ^ here.action))
  actions_with e a = (
    λ h. ⊎_elim (λ p. among_wider xs i (slot a t) lt ((so_far a).0 p)) (λ p. among_last xs i (slot a t) lt (booking_is here a t (sym (single_is here.action a p)) e)) (in_or a r (2 ^ here.action) h),
    λ h. ⊎_elim (λ p. or_left a r (2 ^ here.action) ((so_far a).1 p))
        (λ p. or_right a r (2 ^ here.action) (subst (λ (n : ℕ). In n (2 ^ here.action)) (ap (λ (b : Booking). b.action) p) (single_has here.action)))
        (among_more xs i (slot a t) lt h),
  )

  pub actions_without : (here.round ≡ t → ⊥) → BookedFor (take (i + 1) xs) t r
  actions_without ne a = (
    λ h. among_wider xs i (slot a t) lt ((so_far a).0 h),
    λ h. ⊎_elim (so_far a).1 (λ p. absurd (ne (ap (λ (b : Booking). b.round) p))) (among_more xs i (slot a t) lt h),
  )
