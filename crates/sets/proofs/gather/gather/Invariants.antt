use Rattle.sets.specs.Sets.{Gathered}
use Rattle.sets.proofs.gather.gather.Given as goal

abbrev pub invariant-loop-i : goal.invariant-loop-i
invariant-loop-i g l = Gathered (goal.F-post g l.test) l.i l.set
