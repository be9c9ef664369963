-- What holds of every list of book, release, stretch and search that alone handle one card from its beginning.
use Rattle.std.specs.Prelude.{◌≡◌, ℕ, ◌-◌, ◌^◌, min, true, false, ◌⊎◌, List, [], ◌∷◌, ◌++◌, map, length, take, drop, Some, None, Option}
use Rattle.model.specs.Tasks.{Task, Lawful}
use Rattle.model.specs.Plans.{Valid, Before}
use Rattle.model.specs.Spacing.{Spaced}
use Rattle.model.specs.Ledgers.{Ledger, opening, Call, book, release, stretch, find, Verdict, done, refused, Turns, ledger, verdicts}
use Rattle.model.specs.Bookings.{AllOf, Serves}
use Rattle.model.specs.Sieves.{Subject, Rules}
use Rattle.model.specs.Walks.{Walk, at}
use Rattle.model.specs.Behaviours.{Behaviour, by_behaviour, KeepsLaw}

-- ---- one search

-- The walk of a search with a sieve of this meaning: the sieve begins and is asked of the initial state at round 0. If that is
-- dropped, the result is none with both numbers 0; else the walk goes from there.
pub data Walked {M : Type 0} (rules : Rules M) (x : Subject) (m : M) : Option (List ℕ) → ℕ → ℕ → M → Type 0 where
  dropped_at_once : rules.drops_standing (rules.begun m x) x.task.initial 0 ≡ true → Walked rules x m None 0 0 (rules.begun m x)
  went : {out : Option (List ℕ)} {o d : ℕ} {n : M} → rules.drops_standing (rules.begun m x) x.task.initial 0 ≡ false → Walk rules x (at x.task.initial 0) (rules.begun m x) out o d n → Walked rules x m out o d n

-- a number of a walk as it is given: it stops at 2 ^ 64 - 1
abbrev pub capped : ℕ → ℕ
capped n = min n (2 ^ 64 - 1)

-- out is what the walk finds, opened and dropped are its numbers, n is what the sieve means in the end; and there is no other such walk
pub record Ends {M : Type 0} (rules : Rules M) (x : Subject) (m : M) (out : Option (List ℕ)) (opened dropped : ℕ) (n : M) : Type 0 where
  pub o : ℕ
  pub d : ℕ
  pub walked : Walked rules x m out o d n
  pub opens : opened ≡ capped o
  pub drops : dropped ≡ capped d
  pub only : (out2 : Option (List ℕ)) (o2 d2 : ℕ) (n2 : M) → Walked rules x m out2 o2 d2 n2 → (out2 ≡ out) × (o2 ≡ o) × (d2 ≡ d) × (n2 ≡ n)

-- what a search answers: the number of its refusal, or none or a plan, each with the numbers of opened and dropped
pub data Answer : Type 0 where
  turned_down : ℕ → Answer
  none : (opened dropped : ℕ) → Answer
  plan : (opened dropped : ℕ) → Answer

-- how it ended, as the ledger has it
abbrev pub ended : Answer → Verdict
ended (turned_down n) = refused n
ended (none opened dropped) = done
ended (plan opened dropped) = done

-- what an answer shows of the walk, and what is left on the strip: only a plan is written, over the first places
abbrev pub Shows : {M : Type 0} → Rules M → Subject → M → (strip : List ℕ) → Answer → M → (left : List ℕ) → Type 0
Shows rules x m strip (turned_down n) last left = (last ≡ m) × (left ≡ strip)
Shows rules x m strip (none opened dropped) last left = Ends rules x m None opened dropped last × (left ≡ strip)
Shows rules x m strip (plan opened dropped) last left = (p : List ℕ) × Ends rules x m (Some p) opened dropped last × (length p ≡ x.card.rounds) × (left ≡ p ++ drop (length p) strip)

-- ---- lists of calls

-- a call and how it ended: of a search also the task, the sieve and the strip that it brought, and the strip that it left
pub data Event : Type 0 where
  booked : (a t : ℕ) → Verdict → Event
  released : (a t : ℕ) → Verdict → Event
  stretched : (k : ℕ) → Verdict → Event
  searched : (b : Task) (sieve : Behaviour) (strip : List ℕ) → Answer → (left : List ℕ) → Event

-- the call alone, as the ledger is fed
abbrev pub call : Event → Call
call (booked a t v) = book a t
call (released a t v) = release a t
call (stretched k v) = stretch k
call (searched b sieve strip answer left) = find b (length strip)

-- its verdict
abbrev pub verdict_of : Event → Verdict
verdict_of (booked a t v) = v
verdict_of (released a t v) = v
verdict_of (stretched k v) = v
verdict_of (searched b sieve strip answer left) = ended answer

-- a search of a card that shows l: refused or not as the ledger says, with a lawful task and a sieve that keeps the law, it answers as the walk goes
pub record Searches (l : Ledger) (b : Task) (sieve : Behaviour) (strip : List ℕ) (answer : Answer) (left : List ℕ) (k : Ledger) : Type 0 where
  pub turns : Turns l (find b (length strip)) (ended answer) k
  pub lawful : Lawful b
  pub law : KeepsLaw sieve
  pub last : Behaviour
  pub shows : Shows by_behaviour (record { task = b; card = l }) sieve strip answer last left

-- what the contracts of the four calls say of a card that showed l before and shows k after
abbrev pub Step : Ledger → Event → Ledger → Type 0
Step l (booked a t v) k = Turns l (book a t) v k
Step l (released a t v) k = Turns l (release a t) v k
Step l (stretched n v) k = Turns l (stretch n) v k
Step l (searched b sieve strip answer left) k = Searches l b sieve strip answer left k

-- these calls, the newest first, and no others, have handled a card from its beginning, and it shows l now
pub data Handled : List Event → Ledger → Type 0 where
  new : Handled [] opening
  next_call : {events : List Event} {l k : Ledger} (e : Event) → Handled events l → Step l e k → Handled (e ∷ events) k

-- what the card shows after the events, by the calls alone
abbrev pub after_calls : List Event → Ledger
after_calls events = ledger (map call events)

-- ---- what is claimed

-- p serves the card, and every other plan that does comes later
abbrev pub FirstPlan : Ledger → Task → List ℕ → Type 0
FirstPlan l b p = Serves l b p × ((q : List ℕ) → Serves l b q → (q ≡ p) ⊎ Before p q)

-- what a search says of a card that shows l: none only where no plan serves the card, else the first that does
abbrev pub Right : Ledger → Task → Answer → (left : List ℕ) → Type 0
Right l b (turned_down n) left = Unit {0}
Right l b (none opened dropped) left = (p : List ℕ) → Serves l b p → ⊥
Right l b (plan opened dropped) left = FirstPlan l b (take l.rounds left)

-- two searches both say none, or both show the same plan of k rounds, where neither is refused
abbrev pub Agree : ℕ → Answer → (left : List ℕ) → Answer → (left : List ℕ) → Type 0
Agree k (turned_down n) left other last = Unit {0}
Agree k (none o d) left (turned_down n) last = Unit {0}
Agree k (none o d) left (none p e) last = Unit {0}
Agree k (none o d) left (plan p e) last = ⊥
Agree k (plan o d) left (turned_down n) last = Unit {0}
Agree k (plan o d) left (none p e) last = ⊥
Agree k (plan o d) left (plan p e) last = take k left ≡ take k last

-- as many rounds, and the same bookings in whatever order
pub record SameCard (l k : Ledger) : Type 0 where
  pub rounds : l.rounds ≡ k.rounds
  pub fewer : AllOf l.bookings k.bookings
  pub more : AllOf k.bookings l.bookings

-- a search of the list, with what came before it
pub record SearchOf (events : List Event) (b : Task) (sieve : Behaviour) (strip : List ℕ) (answer : Answer) (left : List ℕ) (earlier : List Event) : Type 0 where
  pub later : List Event
  pub is : events ≡ later ++ (searched b sieve strip answer left ∷ earlier)

-- what holds of one search, on the card as it then stood: what it says, that its numbers are those of the walk with the sieve that it brought, and
-- that in no valid plan of its task two steps stand closer than their gap
pub record SearchRight (l : Ledger) (b : Task) (sieve : Behaviour) (strip : List ℕ) (answer : Answer) (left : List ℕ) : Type 0 where
  pub says : Right l b answer left
  pub last : Behaviour
  pub walks : Shows by_behaviour (record { task = b; card = l }) sieve strip answer last left
  pub gaps : (p : List ℕ) → Valid b p → Spaced b p

-- The claim: after every such list the card shows the ledger of the calls alone, and each call ended as that ledger says; each search of
-- the list is right; and two searches alike, of the same list or of two lists, each with its own card, agree whatever sieves they brought.
pub record EveryList : Type 0 where
  pub shown : (events : List Event) (l : Ledger) → Handled events l → (l ≡ after_calls events) × (map verdict_of events ≡ verdicts (map call events))
  pub searches : (events : List Event) (l : Ledger) → Handled events l → (b : Task) (sieve : Behaviour) (strip : List ℕ) (answer : Answer) (left : List ℕ) (earlier : List Event) → SearchOf events b sieve strip answer left earlier → SearchRight (after_calls earlier) b sieve strip answer left
  pub alike : (events others : List Event) (l k : Ledger) → Handled events l → Handled others k → (b : Task) (sieve : Behaviour) (strip : List ℕ) (answer : Answer) (left : List ℕ) (earlier : List Event) → SearchOf events b sieve strip answer left earlier → (sieve2 : Behaviour) (strip2 : List ℕ) (answer2 : Answer) (left2 : List ℕ) (earlier2 : List Event) → SearchOf others b sieve2 strip2 answer2 left2 earlier2 → SameCard (after_calls earlier) (after_calls earlier2) → Agree (after_calls earlier).rounds answer left answer2 left2
