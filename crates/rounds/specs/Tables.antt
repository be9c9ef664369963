-- The tables kept beside a book: for each action and each bar a set of actions.
use Rattle.std.specs.Prelude.{ℕ, ◌<◌, List, length, ◌≢◌, slice_index}
use Rattle.sets.specs.Sets.{Meet, Marks}
use Rattle.model.specs.Tasks.{Task, action, Has, bar}
use Rattle.model.specs.Plans.{Disturb}

-- action j is another one than i, and they disturb each other
abbrev pub Clash : Task → ℕ → ℕ → Type 0
Clash b i j = Has b j × (i ≢ j) × Disturb (action b i) (action b j)

-- action j deletes a fact of bar k
abbrev pub Breaks : Task → ℕ → ℕ → Type 0
Breaks b k j = Has b j × Meet (action b j).deletes (bar b k)

-- the table has for each action those that it clashes with
abbrev pub Clashes : Task → List ℕ → Type 0
Clashes b t = (i : ℕ) → Has b i → Marks (Clash b i) (slice_index t i)

-- the table has for each bar the actions that break it
abbrev pub Breakers : Task → List ℕ → Type 0
Breakers b t = (k : ℕ) → k < length b.bars → Marks (Breaks b k) (slice_index t k)
