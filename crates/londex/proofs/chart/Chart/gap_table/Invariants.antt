use Rattle.std.proofs.Common.{◌≡◌, ℕ, ◌<◌, [], slice_index_or, length}
use Rattle.book.specs.Views.{task}
use Rattle.londex.specs.Tables.{GapsFrom}
use Rattle.londex.specs.Ways.{entry}
use Rattle.londex.proofs.chart.Chart.gap_table.Given as goal

-- the rows so far are those of their actions
abbrev pub invariant-loop-a : goal.invariant-loop-a
invariant-loop-a l = (length l.row-items ≡ 64) × ((a : ℕ) → a < l.a → GapsFrom (task l.self.book.now.outline) a (entry (slice_index_or l.row-items a [])))
