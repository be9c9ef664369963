use Rattle.std.proofs.Common.{rules, tests}
use Rattle.book.specs.Views.{task}
use Rattle.rounds.specs.Joins.{Joins}
use Rattle.sets.proofs.Walks.{all_decides}
use Rattle.rounds.proofs.steps.is_loose.Goals as goal

pub returns : goal.returns
returns c = all_decides _ _ (Joins (task c.args.book.now.outline) c.args.state c.args.s) (λ i r q k. search (rules, tests)) c.args.s _ _ (search rules) c.all.ensures.ran
