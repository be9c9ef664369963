-- The lawful rounds that have all of a set of actions, in the order of their numbers.
use Rattle.std.specs.Prelude.{ℕ, suc, ◌<◌, ◌≤◌, Some, None, Option}
use Rattle.sets.specs.Sets.{Part}
use Rattle.model.specs.Tasks.{Task}
use Rattle.model.specs.Plans.{Round}

-- r is a lawful round at the state and has all of must
abbrev pub Good : Task → ℕ → ℕ → ℕ → Type 0
Good b state must r = Round b state r × Part must r

-- r is the least good number from `from` on
pub record First (b : Task) (state must from r : ℕ) : Type 0 where
  pub least : from ≤ r
  pub good : Good b state must r
  pub first : (q : ℕ) → from ≤ q → q < r → Good b state must q → ⊥

-- no number from `from` on is good
abbrev pub NoneOn : Task → ℕ → ℕ → ℕ → Type 0
NoneOn b state must from = (q : ℕ) → from ≤ q → Good b state must q → ⊥

-- the first good number from `from` on, or none where there is none
abbrev pub Answered : Task → ℕ → ℕ → ℕ → Option ℕ → Type 0
Answered b state must from (Some r) = First b state must from r
Answered b state must from None = NoneOn b state must from

-- the number after the last one; 0 where there was none
abbrev pub past : Option ℕ → ℕ
past None = 0
past (Some last) = suc last
