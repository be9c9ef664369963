-- The law of gaps.
use Rattle.std.specs.Prelude.{◌≡◌, ℕ, ◌+◌, ◌<◌, List, length, Option, slice_index}
use Rattle.sets.specs.Sets.{In}
use Rattle.model.specs.Tasks.{Task}
use Rattle.model.specs.Plans.{Run, Valid, OneOfEach}
use Rattle.model.specs.Gaps.{Gap, Closer}

-- no two different steps, a in round t and c in round t + d, stand closer than their gap
abbrev pub Spaced : Task → List ℕ → Type 0
Spaced b rounds = (a c t d : ℕ) (gap : Option ℕ) → t + d < length rounds → In a (slice_index rounds t) → In c (slice_index rounds (t + d)) → ((a ≡ c) × (d ≡ 0) → ⊥) → Gap b a c gap → Closer gap d → ⊥

-- lawful rounds from any state with one fact of each group are spaced so, and every valid plan is
abbrev pub LawOfGaps : Task → Type 0
LawOfGaps b = ((state : ℕ) (rounds : List ℕ) → OneOfEach b state → Run b state rounds → Spaced b rounds) × ((plan : List ℕ) → Valid b plan → Spaced b plan)
