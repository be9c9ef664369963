-- What a walk goes over.
use Rattle.std.specs.Prelude.{ℕ, List, Some, None, Option}
use Rattle.model.specs.declared.Booking.{Booking}
use Rattle.model.specs.Tasks.{Task, Has}
use Rattle.model.specs.Ledgers.{Among}
use Rattle.model.specs.Sieves.{Subject}
use Rattle.model.specs.Walks.{FirstFrom, NoneFrom}
use Rattle.sieve.specs.Subjects.{subject_of}
use Rattle.search.specs.declared.course.Course.{Course}

-- the task lacks the action of some booking
abbrev pub Unknown : Task → List Booking → Type 0
Unknown b bookings = (y : Booking) × Among y bookings × (Has b y.action → ⊥)

abbrev pub subject_on : Course → Subject
subject_on c = subject_of c.masks.book c.card

-- the first open round from a number on, or none where there is none
abbrev pub NextFrom : Subject → ℕ → ℕ → ℕ → Option ℕ → Type 0
NextFrom x state t from (Some round) = FirstFrom x state t from round
NextFrom x state t from None = NoneFrom x state t from
