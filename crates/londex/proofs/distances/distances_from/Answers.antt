use Rattle.std.proofs.Common.{◌≡◌, ◌-◌, ◌^◌, ◌<◌, None, refl, rules}
use lib.Bits.{bit_and}
use lib.ListN.{get_or-replicate}
use Rattle.londex.specs.Ways.{graph, entry}
use Rattle.londex.proofs.Reaches.{reached_none, reached_more, reached_all}
use Rattle.londex.proofs.distances.distances_from.Goals as goal

pub loop-d-init : goal.loop-d-init
loop-d-init c = (refl, reached_none (graph c.args.arcs.now) c.args.v _ c.requires (λ x l. get_or-replicate 64 x None None l))

pub returns-then-fresh-eq0 : goal.returns-then-fresh-eq0
returns-then-fresh-eq0 c =
    let fits : c.led_to.result < 2 ^ 64 = search rules in
    let none : bit_and c.led_to.result ((2 ^ 64 - 1) - c.loop-d.reach) ≡ 0 = search rules in
    reached_all (graph c.args.arcs.now) c.args.v c.loop-d.d c.loop-d.reach c.loop-d.fresh c.led_to.result (entry c.loop-d.row) (entry c.write.new.row)
    c.loop-d.invariant.1 c.write.ensures.written c.led_to.ensures fits none

pub loop-d-preserved : goal.loop-d-preserved
loop-d-preserved c =
    let fits : c.led_to.result < 2 ^ 64 = search rules in (
      c.write.ensures.wide,
      reached_more (graph c.args.arcs.now) c.args.v c.loop-d.d c.loop-d.reach c.loop-d.fresh c.led_to.result (entry c.loop-d.row) (entry c.write.new.row)
          c.loop-d.invariant.1 c.write.ensures.written c.led_to.ensures fits c.if-fresh-eq0.false,
    )

-- before a 64th turn all 64 facts would be reached
