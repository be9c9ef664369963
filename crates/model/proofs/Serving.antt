-- A way from the beginning through all rounds of a card is a plan that serves it.
use Rattle.std.proofs.Common.{◌≡◌, ℕ, zero, suc, ◌+◌, ◌<◌, List, [], ◌∷◌, length, get_or, sym, ◌∙◌, subst, zero-add, arith}
use Rattle.sets.specs.Sets.{In, Part}
use Rattle.model.specs.Plans.{Run, next, state_at}
use Rattle.model.specs.Bookings.{Sound, Serves}
use Rattle.model.specs.Sieves.{Subject, Holds, Way}

module _ (x : Subject) where
  -- each of the rounds from t on holds its bookings
  abbrev pub Held : ℕ → List ℕ → Type 0
  Held t p = (i : ℕ) → i < length p → Holds x.card.bookings (t + i) (get_or p i 0)

  -- what makes a way: a run to the goal that holds the bookings
  pub way_from : (t state : ℕ) (p : List ℕ) → Run x.task state p → Part x.task.goal (state_at x.task state p (length p)) → Held t p → Way x t state p
  way_from t state [] run goal each = goal
  way_from t state (r ∷ rs) run goal each = (
    (run.0, λ y among e. each 0 (omega arith) y among (omega arith)),
    way_from (suc t) (next x.task state r) rs run.1 goal (λ i lt y among e. each (suc i) (omega arith) y among (omega arith)),
  )

  pub run_of : (t state : ℕ) (p : List ℕ) → Way x t state p → Run x.task state p
  run_of t state [] w = tt
  run_of t state (r ∷ rs) w = (w.0.0, run_of (suc t) (next x.task state r) rs w.1)

  pub ends : (t state : ℕ) (p : List ℕ) → Way x t state p → Part x.task.goal (state_at x.task state p (length p))
  ends t state [] w = w
  ends t state (r ∷ rs) w = ends (suc t) (next x.task state r) rs w.1

  pub held : (t state : ℕ) (p : List ℕ) → Way x t state p → Held t p
  held t state [] w i lt y among e = absurd (omega arith)
  held t state (r ∷ rs) w zero lt y among e = w.0.1 y among (omega arith)
  held t state (r ∷ rs) w (suc i) lt y among e = held (suc t) (next x.task state r) rs w.1 i (omega arith) y among (omega arith)

  module _ (p : List ℕ) where
    pub serves_way : Serves x.card x.task p → Way x 0 x.task.initial p
    serves_way (whole, valid, booked) =
        way_from 0 x.task.initial p valid.0 valid.1 (λ i lt y among e. subst (λ n. In y.action (get_or p n 0)) (e ∙ zero-add i) (booked y among))

    pub way_serves : Sound x.card → length p ≡ x.card.rounds → Way x 0 x.task.initial p → Serves x.card x.task p
    way_serves sound whole w = (
      whole,
      (run_of 0 x.task.initial p w, ends 0 x.task.initial p w),
      λ y among. held 0 x.task.initial p w y.round (omega (arith, (sound.proper y among).1)) y among (sym (zero-add y.round)),
    )
