-- The transition graph of a group, and how many arcs lie between two of its facts.
use Rattle.std.specs.Prelude.{◌≡◌, ℕ, zero, suc, ◌<◌, length, Some, None, Option}
use Rattle.sets.specs.Sets.{In}
use Rattle.model.specs.Tasks.{Task, action, Has, group}

-- some action takes group g from fact v to fact w
abbrev pub Arc : Task → ℕ → ℕ → ℕ → Type 0
Arc b g v w = In v (group b g) × In w (group b g) × ((a : ℕ) × Has b a × In v (action b a).deletes × In w (action b a).adds)

-- n arcs lead from v to w, one after the other
abbrev pub PathOf : Task → ℕ → ℕ → ℕ → ℕ → Type 0
PathOf b g v w zero = v ≡ w
PathOf b g v w (suc n) = (x : ℕ) × Arc b g v x × PathOf b g x w n

-- the least number of arcs from v to w; None, never, where no way exists
abbrev pub Distance : Task → ℕ → ℕ → ℕ → Option ℕ → Type 0
Distance b g v w (Some r) = PathOf b g v w r × ((n : ℕ) → n < r → PathOf b g v w n → ⊥)
Distance b g v w None = (n : ℕ) → PathOf b g v w n → ⊥

-- v and w are facts of one group, and r is their distance in it
pub record Facts (b : Task) (v w : ℕ) (r : Option ℕ) : Type 0 where
  pub group_of : ℕ
  pub within : group_of < length b.groups
  pub first : In v (group b group_of)
  pub second : In w (group b group_of)
  pub far : Distance b group_of v w r
