-- What the tables of distances and gaps say of late facts and near actions.
use Rattle.std.proofs.Common.{◌≡◌, ℕ, ◌-◌, ◌<◌, ◌⊎◌, Bool, Decides, List, [], length, get_or, slice_index_or, Option, sym, refl, subst, inl, inr, arith}
use Rattle.std.proofs.lemmas.Bool.Decides.{Decides-like}
use lib.Bits.{bit_and}
use Rattle.sets.specs.Sets.{In, Marks}
use Rattle.sets.proofs.Members.{in_and, and_in}
use Rattle.model.specs.declared.Booking.{Booking}
use Rattle.model.specs.Ledgers.{slot}
use Rattle.model.specs.Tasks.{Task, Lawful, Has, action}
use Rattle.model.specs.Distances.{Facts}
use Rattle.model.specs.Gaps.{Closer}
use Rattle.model.specs.Sieves.{Subject, Due, by_goal, by_booking, Late, Near}
use Rattle.londex.specs.Bounds.{SomeCloser}
use Rattle.londex.specs.Tables.{Table, at, Charted, Spaced}
use Rattle.londex.specs.Ways.{Together, entry}
use Rattle.londex.proofs.Rules.{one_far}
use Rattle.lookahead.specs.Tables.{Missed, Crowded, SomeBooking}
use Rattle.lookahead.specs.Says.{closer_ruled, ruled_closer}

-- a booking of some place of the list is one of the list
pub some_booking : (P : Booking → Type 0) (xs : List Booking) {r : Bool} → Decides r ((i : ℕ) × (i < length xs) × P (slice_index_or xs i (slot 0 0))) → Decides r (SomeBooking P xs)
some_booking P xs h = Decides-like _ (λ (i, l, p). (slice_index_or xs i (slot 0 0), (i, (l, refl)), p)) (λ (y, at, p). (at.0, at.1.0, subst P (sym at.1.1) p)) h

module _ (x : Subject) (ok : Lawful x.task) (t : ℕ) where
  abbrev b : Task
  b = x.task

  module _ (dist : Table) (charted : Charted b dist) (v own : ℕ) (group_is : Marks (Together b v) own) (of_v : List (Option ℕ)) (row_is : of_v ≡ get_or dist v []) where
    abbrev row : ℕ → Option ℕ
    row = entry of_v

    facts : (w : ℕ) → Together b v w → Facts b v w (row w)
    facts w both = subst (λ (r : List (Option ℕ)). Facts b v w (entry r w)) (sym row_is) (charted v w both)

    -- what the code looks for
    abbrev pub Overdue : Type 0
    Overdue = SomeCloser row (bit_and b.goal own) (x.card.rounds - t) ⊎ SomeBooking (Missed b row own t) x.card.bookings

    made : (w n : ℕ) → In w own → Due x t w n → Closer (row w) n → Late x t v
    made w n on due far =
        let f = facts w (group_is.only w on) in
        record { g = f.group_of; w = w; n = n; within = f.within; from = f.first; to = f.second; due = due; far = row w; is = f.far; above = far }

    pub overdue_late : Overdue → Late x t v
    overdue_late (inl (w, h, far)) = let k = in_and w b.goal own h in made w (x.card.rounds - t) k.1 (by_goal refl k.0) far
    overdue_late (inr (y, on, (has, coming, (w, h, far)))) =
        let k = in_and w (action b y.action).needs own h in made w (y.round - t) k.1 (by_booking y refl on has coming k.0) far

    told : (w n : ℕ) → Due x t w n → In w own → Closer (row w) n → Overdue
    told w n (by_goal e h) on far = inl (w, and_in w b.goal own h on, subst (λ (m : ℕ). Closer (row w) m) e far)
    told w n (by_booking y e among has coming h) on far = inr (y, among, (has, coming, (w, and_in w (action b y.action).needs own h on, subst (λ (m : ℕ). Closer (row w) m) e far)))

    pub late_overdue : Late x t v → Overdue
    late_overdue l =
        let w = l.w in
        let both : Together b v w = (l.g, l.within, l.from, l.to) in
        let f : Facts b v w l.far = record { group_of = l.g; within = l.within; first = l.from; second = l.to; far = l.is } in
        told w l.n l.due (group_is.all w both) (subst (λ (r : Option ℕ). Closer r l.n) (one_far b ok v w l.far (row w) f (facts w both)) l.above)

  module _ (gaps : Table) (spaced : Spaced b gaps) (a : ℕ) (has : Has b a) where
    pub crowded_near : SomeBooking (Crowded b gaps t a) x.card.bookings → Near x t a
    crowded_near (y, on, (known, coming, other, close)) =
        record { booking = y; stands = on; coming = coming; has = has; has_booked = known; other = other; gap = at gaps a y.action; is = spaced a y.action has known; closer = close }

    pub near_crowded : Near x t a → SomeBooking (Crowded b gaps t a) x.card.bookings
    near_crowded n =
        let y = n.booking in
        let d = y.round - t in (
          y,
          n.stands,
          (
            n.has_booked,
            n.coming,
            n.other,
            ruled_closer b ok a y.action d (at gaps a y.action) (spaced a y.action has n.has_booked) (λ s. n.other (s.0, omega (arith, s.1, n.coming)))
                (closer_ruled b ok a y.action d n.gap n.is n.closer),
          ),
        )
