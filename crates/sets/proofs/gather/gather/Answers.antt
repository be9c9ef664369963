use Rattle.std.proofs.Common.{◌+◌, sym, subst, arith}
use Rattle.sets.specs.Sets.{Gathered}
use Rattle.sets.proofs.Gathers.{gathered_in, gathered_out}
use Rattle.sets.proofs.gather.gather.Goals as goal
use Rattle.sets.proofs.gather.gather.Goals.{then-test, else-test}

pub loop-i-preserved : goal.loop-i-preserved
loop-i-preserved g c =
    let R = goal.F-post g c.args.test in
    let i = c.loop-i.i in
    elim c.if-test.branch [
      | then-test w ↦ subst (Gathered R (i + 1)) (sym w.set-is) (gathered_in R i c.loop-i.set (omega (arith, c.requires.few, c.loop-i-test.true)) w.if-test.ensures c.loop-i.invariant)
      | else-test w ↦ subst (Gathered R (i + 1)) (sym w.set-is) (gathered_out R i c.loop-i.set w.if-test.ensures c.loop-i.invariant)
    ]
