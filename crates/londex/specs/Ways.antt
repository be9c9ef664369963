-- The arcs of all groups as one graph, and the ways along it.
use Rattle.std.specs.Prelude.{◌≡◌, ℕ, zero, suc, ◌<◌, List, length, Some, None, Option, slice_index, slice_index_or}
use Rattle.sets.specs.Sets.{In}
use Rattle.model.specs.Tasks.{Task, group}
use Rattle.model.specs.Distances.{Arc}

-- some group has both v and w
abbrev pub Together : Task → ℕ → ℕ → Type 0
Together b v w = (g : ℕ) × (g < length b.groups) × In v (group b g) × In w (group b g)

-- an arc of some group leads from v to w
abbrev pub Step : Task → ℕ → ℕ → Type 0
Step b v w = (g : ℕ) × (g < length b.groups) × Arc b g v w

-- a table of sets as a graph: the set at x has what x leads to
abbrev pub graph : List ℕ → ℕ → ℕ
graph t x = slice_index t x

-- some member of the set leads to y
abbrev pub Led : (ℕ → ℕ) → ℕ → ℕ → Type 0
Led f set y = (x : ℕ) × In x set × In y (f x)

-- n steps lead from v to w, one after the other
abbrev pub Steps : (ℕ → ℕ) → ℕ → ℕ → ℕ → Type 0
Steps f v w zero = v ≡ w
Steps f v w (suc n) = (x : ℕ) × In x (f v) × Steps f x w n

-- the least number of steps from v to w; None where no way exists
abbrev pub Least : (ℕ → ℕ) → ℕ → ℕ → Option ℕ → Type 0
Least f v w (Some r) = Steps f v w r × ((n : ℕ) → n < r → Steps f v w n → ⊥)
Least f v w None = (n : ℕ) → Steps f v w n → ⊥

-- a row of a table as a function
abbrev pub entry : List (Option ℕ) → ℕ → Option ℕ
entry row w = slice_index_or row w None

-- Some d stands at the numbers with P, and elsewhere what was there before
pub record Written (P : ℕ → Type 0) (d : ℕ) (before after : ℕ → Option ℕ) : Type 0 where
  pub here : (w : ℕ) → P w → after w ≡ Some d
  pub elsewhere : (w : ℕ) → (P w → ⊥) → after w ≡ before w
