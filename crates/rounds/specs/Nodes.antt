-- The nodes of the search for a round.
use Rattle.std.specs.Prelude.{◌≡◌, ℕ, ◌<◌, ◌≤◌, length, Some, None, Option, bit_or}
use Rattle.sets.specs.Sets.{In, Part, Meet, Apart}
use Rattle.model.specs.declared.Action.{Action}
use Rattle.model.specs.Tasks.{Task, bar}
use Rattle.model.specs.Plans.{next, Round}
use Rattle.rounds.specs.declared.finder.Node.{Node}
use Rattle.rounds.specs.Joins.{Joins, Loose}
use Rattle.rounds.specs.Tables.{Breaks}

-- q has all the actions that the node has taken, and else only free ones
abbrev pub Inside : Node → ℕ → Type 0
Inside n q = Part n.taken q × Part q (bit_or n.taken n.free)

-- the actions taken can stand in one round and lead to `reached`, and each free one is another that can join them
pub record Sound (b : Task) (state : ℕ) (n : Node) : Type 0 where
  pub loose : Loose b state n.taken
  pub opens : (i : ℕ) → In i n.free → Joins b state n.taken i
  pub apart : Apart n.free n.taken
  pub moved : n.reached ≡ next b state n.taken

-- the action deletes a fact of some bar
abbrev pub BreaksAny : Task → Action → Type 0
BreaksAny b a = (k : ℕ) × (k < length b.bars) × Meet a.deletes (bar b k)

-- bar k stands in the state, and no free action breaks it
pub record Doomed (b : Task) (state free k : ℕ) : Type 0 where
  pub within : k < length b.bars
  pub stands : Part (bar b k) state
  pub stuck : (j : ℕ) → In j free → Breaks b k j → ⊥

-- r is the first lawful round inside the node from `low` on
pub record Found (b : Task) (state low : ℕ) (n : Node) (r : ℕ) : Type 0 where
  pub inside : Inside n r
  pub least : low ≤ r
  pub lawful : Round b state r
  pub first : (q : ℕ) → Inside n q → low ≤ q → q < r → Round b state q → ⊥

-- no number inside the node from `low` on is a lawful round
abbrev pub Lost : Task → ℕ → ℕ → Node → Type 0
Lost b state low n = (q : ℕ) → Inside n q → low ≤ q → Round b state q → ⊥

-- the first lawful round inside the node from `low` on, or none where there is none
abbrev pub Searched : Task → ℕ → ℕ → Node → Option ℕ → Type 0
Searched b state low n (Some r) = Found b state low n r
Searched b state low n None = Lost b state low n

-- the answer is right for every state at which the node is sound
abbrev pub Sought : Task → ℕ → Node → Option ℕ → Type 0
Sought b low n o = (state : ℕ) → Sound b state n → Searched b state low n o
