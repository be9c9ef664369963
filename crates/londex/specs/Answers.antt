-- What a question is answered, and the numbers of the refusals.
use Rattle.std.specs.Prelude.{ℕ, ◌<◌, ◌≤◌, ◌⊎◌, length, Ok, Err, Option, Result}
use Rattle.model.specs.Tasks.{Task, Has}
use Rattle.model.specs.Distances.{Facts}
use Rattle.model.specs.Gaps.{Gap}
use Rattle.londex.specs.Ways.{Together}
use Rattle.londex.specs.declared.refusal.Refusal.{Refusal}
use Rattle.londex.specs.declared.refusal.Refusal.TheVariants.{UnknownNumber, NoCommonGroup}

-- the number by which a refusal is known
abbrev pub number : Refusal → ℕ
number UnknownNumber = 21
number NoCommonGroup = 22

-- the book has both facts
abbrev pub Known : Task → ℕ → ℕ → Type 0
Known b v w = (v < b.facts) × (w < b.facts)

-- why the facts v and w have no distance: the book lacks one, or else no group has both
abbrev pub RefusesDistance : Task → ℕ → ℕ → Refusal → Type 0
RefusesDistance b v w UnknownNumber = (b.facts ≤ v) ⊎ (b.facts ≤ w)
RefusesDistance b v w NoCommonGroup = Known b v w × (Together b v w → ⊥)

-- the answer to what the distance from v to w is
abbrev pub AnswersDistance : Task → ℕ → ℕ → Result (Option ℕ) Refusal → Type 0
AnswersDistance b v w (Ok r) = Known b v w × Facts b v w r
AnswersDistance b v w (Err e) = RefusesDistance b v w e

-- whether v and w have a distance
abbrev pub ChecksFacts : Task → ℕ → ℕ → Result Unit Refusal → Type 0
ChecksFacts b v w (Ok _) = Known b v w × Together b v w
ChecksFacts b v w (Err e) = RefusesDistance b v w e

-- why the actions a and c have no gap: the book lacks one
abbrev pub RefusesGap : Task → ℕ → ℕ → Refusal → Type 0
RefusesGap b a c UnknownNumber = (length b.actions ≤ a) ⊎ (length b.actions ≤ c)
RefusesGap b a c NoCommonGroup = ⊥

-- the answer to what the gap from a to c is
abbrev pub AnswersGap : Task → ℕ → ℕ → Result (Option ℕ) Refusal → Type 0
AnswersGap b a c (Ok r) = Has b a × Has b c × Gap b a c r
AnswersGap b a c (Err e) = RefusesGap b a c e

-- whether a and c have a gap
abbrev pub ChecksActions : Task → ℕ → ℕ → Result Unit Refusal → Type 0
ChecksActions b a c (Ok _) = Has b a × Has b c
ChecksActions b a c (Err e) = RefusesGap b a c e
