use Rattle.std.proofs.Common.{◌≡◌, length}
use Rattle.sets.specs.Sets.{Part}
use Rattle.londex.specs.Ways.{Written, entry}
use Rattle.londex.proofs.Rests.{Done}
use Rattle.londex.proofs.distances.write.Given as goal

abbrev pub invariant-loop-w : goal.invariant-loop-w
invariant-loop-w l = (length l.row ≡ 64) × Part l.w-iterator.left l.set × Written (Done l.set l.w-iterator.left) l.d (entry l.initial.row) (entry l.row)
