use Rattle.std.proofs.Common.{◌≡◌, ℕ, ◌<◌, [], slice_index_or, length}
use Rattle.londex.specs.Ways.{graph, entry, Least}
use Rattle.londex.proofs.distances.distance_table.Given as goal

-- the rows so far are those of their facts
abbrev pub invariant-loop-v : goal.invariant-loop-v
invariant-loop-v l = (length l.row-items ≡ 64) × ((v w : ℕ) → v < l.v → w < 64 → Least (graph l.arcs) v w (entry (slice_index_or l.row-items v []) w))
