-- Rounds of actions that do not disturb each other, and the plans made of them. A round is a set of actions.
use Rattle.std.specs.Prelude.{◌≡◌, ℕ, zero, suc, ◌<◌, cond, ◌⊎◌, List, [], ◌∷◌, length, take, ◌≢◌, bit_or, slice_index}
use Rattle.sets.specs.Sets.{In, has, Part, One, without}
use Rattle.model.specs.declared.Action.{Action}
use Rattle.model.specs.Tasks.{Task, action, Has, group, bar}

-- one deletes a fact that the other needs or adds
abbrev pub Disturb : Action → Action → Type 0
Disturb a c = (f : ℕ) × ((In f a.deletes × (In f c.needs ⊎ In f c.adds)) ⊎ (In f c.deletes × (In f a.needs ⊎ In f a.adds)))

-- all that the actions of a round add, or delete; the list's first action has number i
abbrev pub gathered : (Action → ℕ) → ℕ → List Action → ℕ → ℕ
gathered part i [] round = 0
gathered part i (a ∷ rest) round = bit_or (cond (has i round) (part a) 0) (gathered part (suc i) rest round)

-- the next state: without all that the round deletes, with all that it adds
abbrev pub next : Task → ℕ → ℕ → ℕ
next b state round = bit_or (without state (gathered (λ a. a.deletes) 0 b.actions round)) (gathered (λ a. a.adds) 0 b.actions round)

-- the state contains no bar
abbrev pub Clear : Task → ℕ → Type 0
Clear b state = (i : ℕ) → i < length b.bars → Part (bar b i) state → ⊥

-- a lawful round at a state: actions of the book that are ready and do not disturb each other, and no bar afterwards
pub record Round (b : Task) (state round : ℕ) : Type 0 where
  pub known : (a : ℕ) → In a round → Has b a
  pub ready : (a : ℕ) → In a round → Part (action b a).needs state
  pub calm : (a c : ℕ) → In a round → In c round → (a ≢ c) → Disturb (action b a) (action b c) → ⊥
  pub clear : Clear b (next b state round)

-- lawful rounds, one after the other, from a state
abbrev pub Run : Task → ℕ → List ℕ → Type 0
Run b state [] = Unit {0}
Run b state (round ∷ rounds) = Round b state round × Run b (next b state round) rounds

-- the state before round t
abbrev pub state_at : Task → ℕ → List ℕ → ℕ → ℕ
state_at b state [] t = state
state_at b state (round ∷ rounds) zero = state
state_at b state (round ∷ rounds) (suc t) = state_at b (next b state round) rounds t

-- a valid plan: lawful rounds from the initial state, and the last state contains the goal
abbrev pub Valid : Task → List ℕ → Type 0
Valid b plan = Run b b.initial plan × Part b.goal (state_at b b.initial plan (length plan))

-- a state with exactly one fact of each group
abbrev pub OneOfEach : Task → ℕ → Type 0
OneOfEach b state = (g : ℕ) → g < length b.groups → One state (group b g)

-- of two plans p is the first: in the earliest round in which they differ its number is the smaller
abbrev pub Before : List ℕ → List ℕ → Type 0
Before p q = (t : ℕ) × (take t p ≡ take t q) × (slice_index p t < slice_index q t)
