use Rattle.londex.specs.Ways.{graph}
use Rattle.londex.proofs.Rests.{part_rest, led_more}
use Rattle.londex.proofs.graph.led_to.Goals as goal

pub loop-x-preserved : goal.loop-x-preserved
loop-x-preserved c =
    let left = c.loop-x.x-iterator.left in
    let rest = c.next.new.self.left in
    let part = c.loop-x.invariant.0 in
    (part_rest c.args.set left c.in-Some.x rest part c.in-Some.ensures.steps, led_more (graph c.args.table.now) c.args.set left c.in-Some.x rest c.loop-x.all part c.in-Some.ensures.steps c.loop-x.invariant.1)
