use Rattle.std.proofs.Common.{subst}
use Rattle.book.specs.declared.book.Book.{Book}
use Rattle.book.specs.Views.{task}
use Rattle.londex.specs.Tables.{Spaced}
use Rattle.londex.proofs.londex.Londex.new.Goals as goal

pub invariant_of-result : goal.invariant_of-result
invariant_of-result c = record {
  charted = ∣ c.distance_table-distances.ensures ∣₁;
  spaced = ∣ subst (λ (b : Book). Spaced (task b.outline) c.gap_table-gaps.result.rows) c.new.ensures c.gap_table-gaps.ensures ∣₁;
}
