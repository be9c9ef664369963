use Rattle.std.proofs.Common.{ℕ, rules, tests}
use Rattle.model.specs.Gaps.{Closer}
use Rattle.londex.specs.Ways.{entry}
use Rattle.sets.proofs.Walks.{any_decides}
use Rattle.lookahead.proofs.beyond.some_beyond.Goals as goal

pub returns : goal.returns
returns c = any_decides _ _ (λ (w : ℕ). Closer (entry c.args.row.now w) c.args.n) (λ w r q k. search (rules, tests)) c.args.set _ _ (search rules) c.any.ensures.ran
