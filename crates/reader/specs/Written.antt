-- The bytes that write a book.
use Rattle.std.specs.Prelude.{ℕ, ◌+◌, cond, List, [], ◌∷◌, ◌++◌, length, ◌==◌}
use Rattle.std.specs.Int.{w64, to_le_bytes}
use Rattle.std.specs.List.{flat_map}
use Rattle.model.specs.declared.Action.{Action}
use Rattle.book.specs.declared.outline.Outline.{Outline}
use Rattle.book.specs.Views.{task}

-- a set takes eight bytes, the lowest first
unfoldable pub set_bytes : ℕ → List ℕ
set_bytes s = to_le_bytes w64 s

-- an empty set has no field
abbrev pub field_bytes : ℕ → List ℕ
field_bytes s = cond (s == 0) [] (set_bytes s)

-- the value that a set's bit adds to the map: nothing where the set is empty
abbrev pub bit : ℕ → ℕ → ℕ
bit value s = cond (s == 0) 0 value

-- the head record: the map, then the initial set and the goal
unfoldable pub ends_bytes : ℕ → ℕ → List ℕ
ends_bytes initial goal = (bit 1 initial + bit 2 goal) ∷ (field_bytes initial ++ field_bytes goal)

-- an action's record: the map, then what it needs, adds and deletes
unfoldable pub action_bytes : Action → List ℕ
action_bytes a =
    (bit 1 a.needs + bit 2 a.adds + bit 4 a.deletes)
    ∷ (field_bytes a.needs ++ (field_bytes a.adds ++ field_bytes a.deletes))

-- the four counts
abbrev pub counts_bytes : Outline → List ℕ
counts_bytes o = o.facts ∷ length (task o).actions ∷ length (task o).groups ∷ length (task o).bars ∷ []

-- the counts, the head record, the actions, the groups and the bars
unfoldable pub written : Outline → List ℕ
written o =
    counts_bytes o
    ++ (ends_bytes o.initial o.goal
    ++ (flat_map action_bytes (task o).actions
    ++ (flat_map set_bytes (task o).groups
    ++ flat_map set_bytes (task o).bars)))
