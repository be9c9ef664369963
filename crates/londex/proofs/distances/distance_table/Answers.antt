use Rattle.std.proofs.Common.{arith}
use Rattle.book.specs.Views.{task}
use Rattle.londex.specs.Ways.{graph}
use Rattle.londex.specs.Tables.{at}
use Rattle.londex.proofs.Paths.{facts_are}
use Rattle.londex.proofs.distances.distance_table.Goals as goal

pub returns : goal.returns
returns c v w both =
    let arcs = graph c.arc_table-arcs.result in
    facts_are (task c.args.book.now.outline) c.law.ensures.lawful arcs c.arc_table-arcs.ensures v w (at c.loop-v.row-items v w) both
    (λ v_small w_small. c.loop-v.invariant.1 v w (omega (arith, v_small, c.loop-v-test.false, c.loop-v.invariant.0)) w_small)
