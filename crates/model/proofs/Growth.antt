-- More bookings leave fewer ways.
use Rattle.std.proofs.Common.{ℕ, suc, ◌≤◌, List, [], ◌∷◌, sym, ◌∙◌, subst}
use Rattle.sets.specs.Sets.{Part}
use Rattle.model.specs.Tasks.{Task}
use Rattle.model.specs.Plans.{Round, next, OneOfEach}
use Rattle.model.specs.Sieves.{Subject, Standing, Way, Hopeless, Grew}

module _ (x y : Subject) (g : Grew x y) where
  pub fewer_ways : (t state : ℕ) (p : List ℕ) → Way y t state p → Way x t state p
  fewer_ways t state [] w = subst (λ (b : Task). Part b.goal state) (sym g.task) w
  fewer_ways t state (r ∷ rs) w = (
    (subst (λ (b : Task). Round b state r) (sym g.task) w.0.0, λ z among e. w.0.1 z (g.bookings z among) e),
    subst (λ (b : Task). Way x (suc t) (next b state r) rs) (sym g.task) (fewer_ways (suc t) (next y.task state r) rs w.1),
  )

  pub still_standing : (state t : ℕ) → Standing x state t → Standing y state t
  still_standing state t st = (subst (λ (b : Task). OneOfEach b state) g.task st.0, subst (λ (n : ℕ). t ≤ n) g.rounds st.1)

  pub still_hopeless : (state t : ℕ) → Hopeless x state t → Hopeless y state t
  still_hopeless state t none rest e w = none rest (e ∙ sym g.rounds) (fewer_ways t state rest w)
