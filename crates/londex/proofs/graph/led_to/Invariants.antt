use Rattle.sets.specs.Sets.{Part, Marks}
use Rattle.londex.specs.Ways.{graph}
use Rattle.londex.proofs.Rests.{LedBy}
use Rattle.londex.proofs.graph.led_to.Given as goal

abbrev pub invariant-loop-x : goal.invariant-loop-x
invariant-loop-x l = Part l.x-iterator.left l.set × Marks (LedBy (graph l.table) l.set l.x-iterator.left) l.all
