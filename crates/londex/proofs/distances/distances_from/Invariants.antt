use Rattle.std.proofs.Common.{◌≡◌, length}
use Rattle.londex.specs.Ways.{graph, entry}
use Rattle.londex.proofs.Reaches.{Reached}
use Rattle.londex.proofs.distances.distances_from.Given as goal

abbrev pub invariant-loop-d : goal.invariant-loop-d
invariant-loop-d l = (length l.row ≡ 64) × Reached (graph l.arcs) l.v l.d l.reach l.fresh (entry l.row)
