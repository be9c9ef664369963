-- The sample book, a guide with a shut case, and what the definitions say of it.
use Rattle.std.specs.Prelude.{ℕ, List, [], ◌∷◌, Some, None, Err}
use Rattle.model.specs.declared.Action.{Action}
use Rattle.model.specs.Tasks.{Task}
use Rattle.model.specs.Distances.{Distance}
use Rattle.model.specs.Gaps.{Gap}
use Rattle.model.specs.Plans.{Valid}
use Rattle.model.specs.Ledgers.{Ledger}
use Rattle.plan_check.specs.declared.flaws.Flaw.TheVariants.{BarAfter}
use Rattle.plan_check.specs.Flaws.{Checks}

abbrev pub doing : ℕ → ℕ → ℕ → Action
doing needs adds deletes = record { needs = needs; adds = adds; deletes = deletes }

-- 0 shut, 1 open; 2 old firmware, 3 loader, 4 new; 5 antenna on, 6 off; 7 calibrated
abbrev pub sample : Task
sample = record {
  facts = 8;
  actions = doing 1 2 1 ∷ doing 2 1 2 ∷ doing 6 8 4 ∷ doing 10 16 8 ∷ doing 34 64 32 ∷ doing 66 32 64 ∷ doing 49 128 0 ∷ [];
  groups = 3 ∷ 28 ∷ 96 ∷ [];
  bars = 72 ∷ [];
  initial = 37;
  goal = 145;
}

-- a card of five rounds without bookings
abbrev pub five_rounds : Ledger
five_rounds = record { rounds = 5; bookings = [] }

-- three distances in its groups, five gaps, a plan, and a strip that has the loader and the antenna off together after round 1
pub record Worked : Type 0 where
  pub opens : Distance sample 0 0 1 (Some 1)
  pub loads : Distance sample 1 2 4 (Some 2)
  pub stays_new : Distance sample 1 4 2 None
  pub enter_load : Gap sample 2 3 (Some 1)
  pub load_enter : Gap sample 3 2 None
  pub open_calibrate : Gap sample 0 6 (Some 2)
  pub open_open : Gap sample 0 0 (Some 2)
  pub calibrate_twice : Gap sample 6 6 (Some 0)
  pub plan : Valid sample (1 ∷ 4 ∷ 8 ∷ 2 ∷ 64 ∷ [])
  pub barred : Checks sample five_rounds (1 ∷ 20 ∷ 8 ∷ 2 ∷ 64 ∷ []) (Err (BarAfter 1 0))
