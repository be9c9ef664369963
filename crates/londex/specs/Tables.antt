-- Tables of distances and of gaps.
use Rattle.std.specs.Prelude.{ℕ, ◌<◌, List, [], None, Option, slice_index_or}
use Rattle.sets.specs.Sets.{Marks}
use Rattle.model.specs.Tasks.{Task, Has}
use Rattle.model.specs.Distances.{Facts}
use Rattle.model.specs.Gaps.{Gap}
use Rattle.londex.specs.Ways.{Together}

-- a table, row by row
abbrev pub Table : Type 0
Table = List (List (Option ℕ))

-- what stands in row i at j
abbrev pub at : Table → ℕ → ℕ → Option ℕ
at t i j = slice_index_or (slice_index_or t i []) j None

-- f gives each fact the facts of its group
abbrev pub Grouped : Task → (ℕ → ℕ) → Type 0
Grouped b f = (v : ℕ) → v < 64 → Marks (Together b v) (f v)

-- the table has the distance of every two facts of one group
abbrev pub Charted : Task → Table → Type 0
Charted b t = (v w : ℕ) → Together b v w → Facts b v w (at t v w)

-- the row has the gap from the action a to every action
abbrev pub GapsFrom : Task → ℕ → (ℕ → Option ℕ) → Type 0
GapsFrom b a row = (c : ℕ) → Has b a → Has b c → Gap b a c (row c)

-- the table has the gap from every action to every action
abbrev pub Spaced : Task → Table → Type 0
Spaced b t = (a c : ℕ) → Has b a → Has b c → Gap b a c (at t a c)
