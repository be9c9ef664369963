use Rattle.std.proofs.Common.{ℕ, arith, rules}
use Rattle.sets.specs.Sets.{Marks}
use Rattle.sets.proofs.Chains.{made_each}
use Rattle.book.specs.Views.{task}
use Rattle.londex.specs.Ways.{Step}
use Rattle.londex.proofs.graph.arc_table.Goals as goal

pub returns : goal.returns
returns c v l = made_each _ _ (λ (k s : ℕ). Marks (Step (task c.args.book.now.outline) k) s) _ 0 (λ k s q call. search rules) 64 c.from_fn.ensures.items v (omega (arith, l))
