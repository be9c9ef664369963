use Rattle.std.proofs.Common.{refl}
use Rattle.lookahead.specs.Says.{goal_says}
use Rattle.lookahead.proofs.goal.Goal.new.Goals as goal

pub returns : goal.returns
returns c = record {
  fresh = record { unbegun = refl; no_standing = λ _ _. refl; no_start = λ _ _ _. refl };
  just = record { standings = goal_says; no_starts = λ _ _ _ _. refl };
}
