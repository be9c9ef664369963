-- The flaws of a strip: number, round and values of each, which a strip has, and which of them comes first.
use Rattle.std.specs.Prelude.{◌≡◌, ℕ, ◌<◌, ◌⊎◌, List, length, Ok, Err, Result, ◌≢◌, slice_index}
use Rattle.sets.specs.Sets.{In, Part}
use Rattle.model.specs.declared.Booking.{Booking}
use Rattle.model.specs.Tasks.{Task, Has, action, bar}
use Rattle.model.specs.Plans.{Disturb, next, state_at}
use Rattle.model.specs.Ledgers.{Ledger, slot, Among}
use Rattle.model.specs.Bookings.{Serves}
use Rattle.plan_check.specs.declared.flaws.Flaw.{Flaw}
use Rattle.plan_check.specs.declared.flaws.Flaw.TheVariants.{StripLength, UnknownAction, MissingBooking, UnmetNeed, Disturbance, BarAfter, GoalMissed}

-- the number of a flaw
abbrev pub flaw_number : Flaw → ℕ
flaw_number StripLength = 23
flaw_number (UnknownAction t a) = 24
flaw_number (MissingBooking t a) = 25
flaw_number (UnmetNeed t a) = 26
flaw_number (Disturbance t a c) = 27
flaw_number (BarAfter t i) = 28
flaw_number (GoalMissed t) = 29

-- the round that it names; a wrong length comes before any round
abbrev pub flaw_round : Flaw → ℕ
flaw_round StripLength = 0
flaw_round (UnknownAction t a) = t
flaw_round (MissingBooking t a) = t
flaw_round (UnmetNeed t a) = t
flaw_round (Disturbance t a c) = t
flaw_round (BarAfter t i) = t
flaw_round (GoalMissed t) = t

-- the action or bar that it names, or the smaller of two actions
abbrev pub flaw_first : Flaw → ℕ
flaw_first StripLength = 0
flaw_first (UnknownAction t a) = a
flaw_first (MissingBooking t a) = a
flaw_first (UnmetNeed t a) = a
flaw_first (Disturbance t a c) = a
flaw_first (BarAfter t i) = i
flaw_first (GoalMissed t) = 0

-- the larger of two actions
abbrev pub flaw_second : Flaw → ℕ
flaw_second StripLength = 0
flaw_second (UnknownAction t a) = 0
flaw_second (MissingBooking t a) = 0
flaw_second (UnmetNeed t a) = 0
flaw_second (Disturbance t a c) = c
flaw_second (BarAfter t i) = 0
flaw_second (GoalMissed t) = 0

-- a round at a state has the flaw: an action that the book lacks; a booked action that is missing; a need that is unmet;
-- two actions that disturb each other; a bar in the next state
abbrev pub RoundFlaw : Task → List Booking → (state round : ℕ) → Flaw → Type 0
RoundFlaw b bookings state round StripLength = ⊥
RoundFlaw b bookings state round (UnknownAction t a) = In a round × (Has b a → ⊥)
RoundFlaw b bookings state round (MissingBooking t a) = Among (slot a t) bookings × (In a round → ⊥)
RoundFlaw b bookings state round (UnmetNeed t a) = In a round × (Part (action b a).needs state → ⊥)
RoundFlaw b bookings state round (Disturbance t a c) = (a < c) × In a round × In c round × Disturb (action b a) (action b c)
RoundFlaw b bookings state round (BarAfter t i) = (i < length b.bars) × Part (bar b i) (next b state round)
RoundFlaw b bookings state round (GoalMissed t) = ⊥

-- the strip has the flaw: another length than the card's rounds; a flaw of one of its rounds, at the state before that
-- round; or the goal missed at the end
pub data Fails (b : Task) (l : Ledger) (strip : List ℕ) : Flaw → Type 0 where
  wrong_length : (length strip ≢ l.rounds) → Fails b l strip StripLength
  in_round : {f : Flaw} → flaw_round f < length strip → RoundFlaw b l.bookings (state_at b b.initial strip (flaw_round f)) (slice_index strip (flaw_round f)) f → Fails b l strip f
  misses : {t : ℕ} → t ≡ l.rounds → (Part b.goal (state_at b b.initial strip (length strip)) → ⊥) → Fails b l strip (GoalMissed t)

-- e comes before f: round by round, then by number, then the lowest action, pair (by smaller, then larger action) or bar
abbrev pub Sooner : Flaw → Flaw → Type 0
Sooner e f = (flaw_round e < flaw_round f) ⊎ ((flaw_round e ≡ flaw_round f) × ((flaw_number e < flaw_number f) ⊎ ((flaw_number e ≡ flaw_number f) × ((flaw_first e < flaw_first f) ⊎ ((flaw_first e ≡ flaw_first f) × (flaw_second e < flaw_second f))))))

-- what the check of a strip answers: it serves the card, or its first flaw
abbrev pub Checks : Task → Ledger → List ℕ → Result (Unit {0}) Flaw → Type 0
Checks b l strip (Ok u) = Serves l b strip
Checks b l strip (Err f) = Fails b l strip f × ((e : Flaw) → Fails b l strip e → Sooner e f → ⊥)
