-- A planning task: facts that may stand, actions that change them, groups of which every state has exactly one
-- fact, and bars, sets of facts that may never stand together.
use Rattle.std.specs.Prelude.{ℕ, ◌^◌, ◌<◌, ◌≤◌, ◌⊎◌, List, length, slice_index, slice_index_or}
use Rattle.sets.specs.Sets.{In, Part, Apart, One, AtMostOne}
use Rattle.model.specs.declared.Action.{Action}

-- what a book says: facts are numbered from 0, and initial, goal, groups and bars are sets of facts
pub record Task : Type 0 where
  pub facts : ℕ
  pub actions : List Action
  pub groups : List ℕ
  pub bars : List ℕ
  pub initial : ℕ
  pub goal : ℕ

-- the action that needs, adds and deletes nothing
abbrev pub idle : Action
idle = record { needs = 0; adds = 0; deletes = 0 }

abbrev pub action : Task → ℕ → Action
action b a = slice_index_or b.actions a idle

-- the book has an action of this number
abbrev pub Has : Task → ℕ → Type 0
Has b a = a < length b.actions

abbrev pub group : Task → ℕ → ℕ
group b g = slice_index b.groups g

abbrev pub bar : Task → ℕ → ℕ
bar b i = slice_index b.bars i

-- an action needs at most one fact of a group; it adds and deletes none of it, or it adds one and deletes one, the needed one
pub record Fits (a : Action) (g : ℕ) : Type 0 where
  pub needs_one : AtMostOne a.needs g
  pub moves : (Apart a.adds g × Apart a.deletes g) ⊎ (One a.adds g × One a.deletes g × ((i : ℕ) → In i g → In i a.deletes → In i a.needs))

-- the limits of a book, its sets below its number of facts, and the five conditions that every book keeps
pub record Lawful (b : Task) : Type 0 where
  pub few_facts : (1 ≤ b.facts) × (b.facts ≤ 64)
  pub few_actions : length b.actions ≤ 64
  pub few_groups : length b.groups ≤ 16
  pub few_bars : length b.bars ≤ 8
  pub initial_known : b.initial < 2 ^ b.facts
  pub goal_known : b.goal < 2 ^ b.facts
  pub actions_known : (a : ℕ) → Has b a → ((action b a).needs < 2 ^ b.facts) × ((action b a).adds < 2 ^ b.facts) × ((action b a).deletes < 2 ^ b.facts)
  pub groups_known : (g : ℕ) → g < length b.groups → (0 < group b g) × (group b g < 2 ^ b.facts)
  pub bars_known : (i : ℕ) → i < length b.bars → (0 < bar b i) × (bar b i < 2 ^ b.facts)
  pub consistent : (a : ℕ) → Has b a → Apart (action b a).adds (action b a).deletes
  pub groups_apart : (g h : ℕ) → g < h → h < length b.groups → Apart (group b g) (group b h)
  pub one_of_each : (g : ℕ) → g < length b.groups → One b.initial (group b g)
  pub fits : (a g : ℕ) → Has b a → g < length b.groups → Fits (action b a) (group b g)
  pub no_bar : (i : ℕ) → i < length b.bars → Part (bar b i) b.initial → ⊥
