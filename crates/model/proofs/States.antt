-- The states of a plan one after the other, and a run by its rounds.
use Rattle.std.proofs.Common.{◌≡◌, ℕ, zero, suc, ◌<◌, List, [], ◌∷◌, length, get_or, refl, arith}
use Rattle.model.specs.Tasks.{Task}
use Rattle.model.specs.Plans.{next, Round, Run, state_at}

module _ (b : Task) where
  pub state_first : (state : ℕ) (plan : List ℕ) → state_at b state plan zero ≡ state
  state_first state [] = refl
  state_first state (r ∷ rs) = refl

  -- the state after round t
  pub state_after : (state : ℕ) (plan : List ℕ) (t : ℕ) → t < length plan → state_at b state plan (suc t) ≡ next b (state_at b state plan t) (get_or plan t 0)
  state_after state [] t lt = absurd (omega arith)
  state_after state (r ∷ rs) zero lt = state_first (next b state r) rs
  state_after state (r ∷ rs) (suc t) lt = state_after (next b state r) rs t (omega arith)

  -- rounds that are each lawful at their state make a run
  pub run_from : (state : ℕ) (plan : List ℕ) → ((t : ℕ) → t < length plan → Round b (state_at b state plan t) (get_or plan t 0)) → Run b state plan
  run_from state [] each = tt
  run_from state (r ∷ rs) each = (each zero (omega arith), run_from (next b state r) rs (λ t lt. each (suc t) (omega arith)))
