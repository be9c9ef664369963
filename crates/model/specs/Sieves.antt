-- What a sieve speaks of, what it may drop, and the law that it keeps.
use Rattle.std.specs.Prelude.{◌≡◌, ℕ, suc, ◌+◌, ◌-◌, ◌<◌, ◌≤◌, Bool, true, List, [], ◌∷◌, length, Some, Option}
use Rattle.sets.specs.Sets.{In, Part}
use Rattle.model.specs.declared.Booking.{Booking}
use Rattle.model.specs.Tasks.{Task, Lawful, Has, action, group}
use Rattle.model.specs.Plans.{Round, next, OneOfEach}
use Rattle.model.specs.Distances.{Distance}
use Rattle.model.specs.Gaps.{Gap, Closer}
use Rattle.model.specs.Ledgers.{Ledger, Among}
use Rattle.model.specs.Bookings.{Sound, AllOf}

-- what a sieve speaks of: a book's task, and a card as its ledger
pub record Subject : Type 0 where
  pub task : Task
  pub card : Ledger

-- what every book and every card keep
pub record Genuine (x : Subject) : Type 0 where
  pub lawful : Lawful x.task
  pub sound : Sound x.card

-- a standing: a state with exactly one fact of each group, and a round of 0 to the card's number of rounds
abbrev pub Standing : Subject → ℕ → ℕ → Type 0
Standing x state t = OneOfEach x.task state × (t ≤ x.card.rounds)

-- the round holds the bookings of t
abbrev pub Holds : List Booking → ℕ → ℕ → Type 0
Holds bookings t round = (y : Booking) → Among y bookings → y.round ≡ t → In y.action round

-- a lawful round of the state at t that holds the bookings of t; with its standing, t below the card's rounds, it is a start
abbrev pub OpenRound : Subject → ℕ → ℕ → ℕ → Type 0
OpenRound x state t round = Round x.task state round × Holds x.card.bookings t round

-- such rounds, one after the other, from a state at t on, and the last state contains the goal
abbrev pub Way : Subject → ℕ → ℕ → List ℕ → Type 0
Way x t state [] = Part x.task.goal state
Way x t state (round ∷ rounds) = OpenRound x state t round × Way x (suc t) (next x.task state round) rounds

-- no such way leads from the standing through all rounds of the card
abbrev pub Hopeless : Subject → ℕ → ℕ → Type 0
Hopeless x state t = (rest : List ℕ) → t + length rest ≡ x.card.rounds → Way x t state rest → ⊥

-- none of those ways begins with the round
abbrev pub HopelessStart : Subject → ℕ → ℕ → ℕ → Type 0
HopelessStart x state t round = (rest : List ℕ) → t + suc (length rest) ≡ x.card.rounds → Way x t state (round ∷ rest) → ⊥

-- the same task and as many rounds, and every booking of x is one of y
pub record Grew (x y : Subject) : Type 0 where
  pub task : x.task ≡ y.task
  pub rounds : x.card.rounds ≡ y.card.rounds
  pub bookings : AllOf x.card.bookings y.card.bookings

-- ---- the meaning of a sieve and its law

-- of each meaning of a kind of sieve: its subject, none before its first begin; the standings that it drops, and the starts;
-- what begin makes of it, given a subject; and what told makes of it, given a hopeless standing
pub record Rules (M : Type 0) : Type 0 where
  pub subject : M → Option Subject
  pub drops_standing : M → (state t : ℕ) → Bool
  pub drops_start : M → (state t round : ℕ) → Bool
  pub begun : M → Subject → M
  pub told : M → (state t : ℕ) → M

-- The law: begin leaves, and told keeps, that all that is dropped is hopeless for the subject. `kept` is what it leaves and
-- keeps; a pile has the same of its sieves in it. `whole` is what every sieve is, begun or not.
pub record Law {M : Type 0} (rules : Rules M) (whole kept : M → Type 0) : Type 0 where
  pub begins : (m : M) (x : Subject) → rules.subject (rules.begun m x) ≡ Some x
  pub leaves : (m : M) (x : Subject) → whole m → Genuine x → kept (rules.begun m x)
  pub stays : (m : M) (state t : ℕ) → rules.subject (rules.told m state t) ≡ rules.subject m
  pub keeps : (m : M) (x : Subject) (state t : ℕ) → kept m → rules.subject m ≡ Some x → Standing x state t → Hopeless x state t → kept (rules.told m state t)
  pub sound : (m : M) → kept m → whole m
  pub standings : (m : M) (x : Subject) (state t : ℕ) → kept m → rules.subject m ≡ Some x → rules.drops_standing m state t ≡ true → Standing x state t × Hopeless x state t
  pub starts : (m : M) (x : Subject) (state t round : ℕ) → kept m → rules.subject m ≡ Some x → rules.drops_start m state t round ≡ true → Standing x state t × HopelessStart x state t round

-- what a sieve may be told: a standing that is hopeless for its subject
pub record MayTell {M : Type 0} (rules : Rules M) (kept : M → Type 0) (m : M) (state t : ℕ) : Type 0 where
  pub x : Subject
  pub known : kept m
  pub of_x : rules.subject m ≡ Some x
  pub standing : Standing x state t
  pub hopeless : Hopeless x state t

-- ---- what the goal sieve and the gap sieve drop

-- fact w has to stand n rounds after round t: at the end, by the goal, or before a coming booking that needs it. A booking
-- whose action the book lacks is passed over
pub data Due (x : Subject) (t w n : ℕ) : Type 0 where
  by_goal : n ≡ x.card.rounds - t → In w x.task.goal → Due x t w n
  by_booking : (y : Booking) → n ≡ y.round - t → Among y x.card.bookings → Has x.task y.action → t ≤ y.round → In w (action x.task y.action).needs → Due x t w n

-- at round t the fact v is too far from a fact of its group: the distance is above the number of rounds in which that is due
pub record Late (x : Subject) (t v : ℕ) : Type 0 where
  pub g : ℕ
  pub w : ℕ
  pub n : ℕ
  pub within : g < length x.task.groups
  pub from : In v (group x.task g)
  pub to : In w (group x.task g)
  pub due : Due x t w n
  pub far : Option ℕ
  pub is : Distance x.task g v w far
  pub above : Closer far n

-- the goal sieve drops a standing with such a fact
abbrev pub GoalDrops : Subject → ℕ → ℕ → Type 0
GoalDrops x state t = Standing x state t × ((v : ℕ) × In v state × Late x t v)

-- in round t the action a stands closer to a coming booking than their gap, and is not the booked step itself. A booking
-- whose action the book lacks is passed over
pub record Near (x : Subject) (t a : ℕ) : Type 0 where
  pub booking : Booking
  pub stands : Among booking x.card.bookings
  pub coming : t ≤ booking.round
  pub has : Has x.task a
  pub has_booked : Has x.task booking.action
  pub other : (a ≡ booking.action) × (booking.round ≡ t) → ⊥
  pub gap : Option ℕ
  pub is : Gap x.task a booking.action gap
  pub closer : Closer gap (booking.round - t)

-- the gap sieve drops a start with such an action
abbrev pub GapDrops : Subject → ℕ → ℕ → ℕ → Type 0
GapDrops x state t round = Standing x state t × (t < x.card.rounds) × ((a : ℕ) × In a round × Near x t a)
