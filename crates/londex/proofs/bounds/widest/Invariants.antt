use Rattle.sets.specs.Sets.{Part}
use Rattle.londex.specs.Bounds.{Widest}
use Rattle.londex.proofs.Rests.{Done}
use Rattle.londex.proofs.bounds.widest.Given as goal

abbrev pub invariant-loop-i : goal.invariant-loop-i
invariant-loop-i g l = Part l.i-iterator.left l.set × Widest (goal.F-post g l.bound) (Done l.set l.i-iterator.left) l.k
