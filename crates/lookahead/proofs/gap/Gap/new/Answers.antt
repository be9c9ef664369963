use Rattle.std.proofs.Common.{refl}
use Rattle.lookahead.specs.Says.{gap_says}
use Rattle.lookahead.proofs.gap.Gap.new.Goals as goal

pub returns : goal.returns
returns c = record {
  fresh = record { unbegun = refl; no_standing = λ _ _. refl; no_start = λ _ _ _. refl };
  just = record { starts = gap_says; no_standings = λ _ _ _. refl };
}
