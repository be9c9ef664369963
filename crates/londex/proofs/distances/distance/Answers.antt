use Rattle.std.proofs.Common.{◌<◌, rules}
use Rattle.book.specs.Views.{task}
use Rattle.londex.specs.Ways.{graph, entry, Least}
use Rattle.londex.proofs.Paths.{facts_are}
use Rattle.londex.proofs.distances.distance.Goals as goal

pub returns : goal.returns
returns c =
    let known = c.in_ok-check_facts.ensures in
    let arcs = graph c.arc_table-arcs.result in
    let far : c.args.w < 64 → Least arcs c.args.v c.args.w (entry c.distances_from.result c.args.w) = search rules in
    (known.0, facts_are (task c.args.book.now.outline) c.law.ensures.lawful arcs c.arc_table-arcs.ensures c.args.v c.args.w _ known.1 (λ v-small w_small. far w_small))
