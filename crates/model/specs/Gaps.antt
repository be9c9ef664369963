-- How many rounds may not lie from one action to another.
use Rattle.std.specs.Prelude.{◌≡◌, ℕ, zero, suc, ◌+◌, ◌<◌, ◌≤◌, Some, None, Option}
use Rattle.sets.specs.Sets.{In}
use Rattle.model.specs.Tasks.{Task, action}
use Rattle.model.specs.Distances.{Facts}

-- d is at most r - less, as whole numbers; every d where r is never
abbrev pub UpTo : Option ℕ → ℕ → ℕ → Type 0
UpTo (Some r) less d = d + less ≤ r
UpTo None less d = Unit {0}

-- d is at most the distance, less so many, from a member of p to a member of q in one group
abbrev pub Far : Task → ℕ → ℕ → ℕ → ℕ → Type 0
Far b p q less d = (v w : ℕ) × (r : Option ℕ) × Facts b v w r × In v p × In w q × UpTo r less d

-- the six rules, by the names that the workshop gives them: A for single facts, B for distances
pub data Rule : Type 0 where
  A1 A2 B1 B2 B3 B4 : Rule

-- the rule forbids action c to come d rounds after action a
abbrev pub By : Rule → Task → ℕ → ℕ → ℕ → Type 0
-- c deletes what a adds: not in one round
By A1 b a c d = (f : ℕ) × In f (action b a).adds × In f (action b c).deletes × (d ≡ 0)
-- c needs what a deletes: not in one round, and not in the next
By A2 b a c d = (f : ℕ) × In f (action b a).deletes × In f (action b c).needs × (d ≤ 1)
-- c adds a fact that is some arcs from one that a adds: the last arc may be c's own
By B1 b a c d = Far b (action b a).adds (action b c).adds 1 d
-- c needs a fact that is some arcs from one that a adds: all arcs lie between
By B2 b a c d = Far b (action b a).adds (action b c).needs 0 d
-- c adds a fact that is some arcs from one that a needs: the first may be taken with a, the last may be c's own
By B3 b a c d = Far b (action b a).needs (action b c).adds 2 d
-- c needs a fact that is some arcs from one that a needs: the first may be taken with a
By B4 b a c d = Far b (action b a).needs (action b c).needs 1 d

-- some rule forbids it; an action against itself in one round is exempt
abbrev pub Forbidden : Task → ℕ → ℕ → ℕ → Type 0
Forbidden b a c d = ((a ≡ c) × (d ≡ 0) → ⊥) × ((rule : Rule) × By rule b a c d)

-- one more than the greatest forbidden d; 0 where none is; None, never, where there is no greatest
abbrev pub Gap : Task → ℕ → ℕ → Option ℕ → Type 0
Gap b a c (Some zero) = (d : ℕ) → Forbidden b a c d → ⊥
Gap b a c (Some (suc m)) = Forbidden b a c m × ((d : ℕ) → m < d → Forbidden b a c d → ⊥)
Gap b a c None = (n : ℕ) → (d : ℕ) × (n ≤ d) × Forbidden b a c d

-- d rounds are fewer than the gap; never is above every number
abbrev pub Closer : Option ℕ → ℕ → Type 0
Closer (Some m) d = d < m
Closer None d = Unit {0}
