use Rattle.std.proofs.Common.{ℕ, None, Option, arith, rules}
use Rattle.sets.proofs.Chains.{made_each}
use Rattle.londex.specs.Bounds.{Covers, Waits}
use Rattle.londex.specs.Ways.{graph}
use Rattle.londex.proofs.chart.Chart.waits_after.Goals as goal

pub returns : goal.returns
returns c w l =
    let s = c.args.self.now in
    made_each _ _ (λ (w : ℕ) (k : Option ℕ). Covers (Waits s.distances.now.rows (graph s.groups w) c.args.x w) k) _ None (λ w k q call. search rules) 64 c.from_fn.ensures.items w (omega (arith, l))
