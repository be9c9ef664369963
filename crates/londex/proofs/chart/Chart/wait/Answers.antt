use Rattle.std.proofs.Common.{ℕ, Option, sym, ap, ◌∙◌, subst}
use Rattle.sets.proofs.Members.{in_and}
use Rattle.londex.specs.Bounds.{Covers, Waits, wider, lowered}
use Rattle.londex.specs.Ways.{graph}
use Rattle.londex.proofs.Covers.{covers_both, covers_lowered}
use Rattle.londex.proofs.chart.Chart.wait.Goals as goal

pub farthest-added-requires-clause-within : goal.farthest-added-requires-clause-within
farthest-added-requires-clause-within c = λ v h. (in_and v c.args.x.adds (graph c.args.self.now.groups c.args.w) h).1

pub farthest-needed-requires-clause-within : goal.farthest-needed-requires-clause-within
farthest-needed-requires-clause-within c = λ v h. (in_and v c.args.x.needs (graph c.args.self.now.groups c.args.w) h).1

pub returns : goal.returns
returns c =
    let s = c.args.self.now in
    let added = c.farthest-added.result in
    let needed = c.farthest-needed.result in
    subst (λ (k : Option ℕ). Covers (Waits s.distances.now.rows (graph s.groups c.args.w) c.args.x c.args.w) k) (sym (c.widen.ensures ∙ ap (wider added) c.lower.ensures))
    (covers_both added (lowered needed) c.farthest-added.ensures (covers_lowered needed c.farthest-needed.ensures))
