-- Actions that can stand in one round at a state, whatever bars stand after it.
use Rattle.std.specs.Prelude.{ℕ, ◌≢◌}
use Rattle.sets.specs.Sets.{In, Part}
use Rattle.model.specs.Tasks.{Task, action, Has}
use Rattle.model.specs.Plans.{Disturb}

-- action i is of the book, ready, and disturbs no other action of s
pub record Joins (b : Task) (state s i : ℕ) : Type 0 where
  pub known : Has b i
  pub ready : Part (action b i).needs state
  pub calm : (c : ℕ) → In c s → (i ≢ c) → Disturb (action b i) (action b c) → ⊥

-- each action of s can stand with the others
abbrev pub Loose : Task → ℕ → ℕ → Type 0
Loose b state s = (i : ℕ) → In i s → Joins b state s i
