-- A question, answered from the table, is the test of the rules.
use Rattle.std.proofs.Common.{◌≡◌, ℕ, ◌<◌, ◌≤◌, Bool, false, List, get_or, Decides, arith}
use mathlib.Core.Bool.{Bool-set}
use mathlib.Core.Logic.{∥∥₁_elim}
use Rattle.std.proofs.lemmas.Bool.{false≢true}
use Rattle.std.proofs.lemmas.Bool.Decides.{Decides-like, same_from_decides}
use Rattle.sets.specs.Sets.{Meet}
use Rattle.model.specs.Plans.{OneOfEach}
use Rattle.model.specs.Sieves.{Subject, Genuine, GoalDrops, GapDrops}
use Rattle.lookahead.specs.Tables.{Lates, Nears}
use Rattle.lookahead.specs.Tests.{goal_test, gap_test}
use Rattle.lookahead.specs.Says.{goal_says, gap_says}

never : {P : Type 0} → (P → ⊥) → Decides false P
never none = (λ e. absurd (false≢true e), λ p. absurd (none p))

module _ (x : Subject) (ok : Genuine x) (state t : ℕ) where
  goal_is : (r : Bool) → Decides r (GoalDrops x state t) → r ≡ goal_test x state t
  goal_is r h = same_from_decides r (goal_test x state t) h (goal_says x ok state t)

  pub goal_past : x.card.rounds < t → false ≡ goal_test x state t
  goal_past past = goal_is false (never (λ d. omega (arith, d.0.1)))

  module _ (table : List ℕ) (marked : ∥ Lates x table ∥₁) (due : t ≤ x.card.rounds) where
    pub goal_calm : (Meet state (get_or table t 0) → ⊥) → false ≡ goal_test x state t
    goal_calm none = ∥∥₁_elim marked (Bool-set false (goal_test x state t)) (λ m. goal_is false (never (λ d. none (d.1.0, d.1.1, (m t due).all d.1.0 d.1.2))))

    pub goal_late : (r : Bool) → Meet state (get_or table t 0) → Decides r (OneOfEach x.task state) → r ≡ goal_test x state t
    goal_late r meet stands =
        ∥∥₁_elim marked (Bool-set r (goal_test x state t))
        (λ m. goal_is r (Decides-like r (λ one. ((one, due), (meet.0, meet.1, (m t due).only meet.0 meet.2))) (λ d. d.0.0) stands))

  module _ (round : ℕ) where
    gap_is : (r : Bool) → Decides r (GapDrops x state t round) → r ≡ gap_test x state t round
    gap_is r h = same_from_decides r (gap_test x state t round) h (gap_says x ok state t round)

    pub gap_past : x.card.rounds ≤ t → false ≡ gap_test x state t round
    gap_past past = gap_is false (never (λ d. omega (arith, d.1)))

    module _ (table : List ℕ) (marked : ∥ Nears x table ∥₁) (coming : t < x.card.rounds) where
      pub gap_calm : (Meet round (get_or table t 0) → ⊥) → false ≡ gap_test x state t round
      gap_calm none = ∥∥₁_elim marked (Bool-set false (gap_test x state t round)) (λ m. gap_is false (never (λ d. none (d.2.0, d.2.1, (m t coming).all d.2.0 d.2.2))))

      pub gap_near : (r : Bool) → Meet round (get_or table t 0) → Decides r (OneOfEach x.task state) → r ≡ gap_test x state t round
      gap_near r meet stands =
          ∥∥₁_elim marked (Bool-set r (gap_test x state t round))
          (λ m. gap_is r (Decides-like r (λ one. ((one, omega arith), coming, (meet.0, meet.1, (m t coming).only meet.0 meet.2))) (λ d. d.0.0) stands))
