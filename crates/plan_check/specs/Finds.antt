-- What the parts of the check answer.
use Rattle.std.specs.Prelude.{◌≡◌, ℕ, ◌<◌, List, Some, None, Ok, Err, Option, Result}
use Rattle.model.specs.declared.Booking.{Booking}
use Rattle.sets.specs.Sets.{In, Part}
use Rattle.model.specs.Tasks.{Task, action}
use Rattle.model.specs.Plans.{Disturb, next}
use Rattle.plan_check.specs.declared.flaws.Flaw.{Flaw}
use Rattle.plan_check.specs.Flaws.{flaw_round, RoundFlaw, Sooner}

-- the first pair with P, by its first, then its second number, or none
abbrev pub LowestPair : Option (ℕ × ℕ) → (ℕ → ℕ → Type 0) → Type 0
LowestPair None P = (k m : ℕ) → P k m → ⊥
LowestPair (Some (i, j)) P = P i j × ((k m : ℕ) → k < i → P k m → ⊥) × ((m : ℕ) → m < j → P i m → ⊥)

-- a is an action of the round, and its needs are not met in the state
abbrev pub Unmet : Task → (state round a : ℕ) → Type 0
Unmet b state round a = In a round × (Part (action b a).needs state → ⊥)

-- a and c, the smaller first, are actions of the round that disturb each other
abbrev pub ClashIn : Task → (round a c : ℕ) → Type 0
ClashIn b round a c = (a < c) × In a round × In c round × Disturb (action b a) (action b c)

-- a flaw that names round t, and that the round has at the state
abbrev pub FlawOf : Task → List Booking → (t state round : ℕ) → Flaw → Type 0
FlawOf b bookings t state round f = (flaw_round f ≡ t) × RoundFlaw b bookings state round f

-- what the check of round t answers: the next state, where the round has no flaw, or its first flaw
abbrev pub RoundChecks : Task → List Booking → (t state round : ℕ) → Result ℕ Flaw → Type 0
RoundChecks b bookings t state round (Ok s) = (s ≡ next b state round) × ((e : Flaw) → FlawOf b bookings t state round e → ⊥)
RoundChecks b bookings t state round (Err f) = FlawOf b bookings t state round f × ((e : Flaw) → FlawOf b bookings t state round e → Sooner e f → ⊥)
