use Rattle.std.proofs.Common.{subst}
use Rattle.model.proofs.Spaces.{law_of_gaps}
use Rattle.book.specs.declared.book.Book.{Book}
use Rattle.book.specs.Views.{task}
use Rattle.londex.specs.Tables.{GapsFrom}
use Rattle.londex.specs.Ways.{entry}
use Rattle.londex.proofs.gaps.gap.Goals as goal

pub returns-in_err-check_actions-clause-law : goal.returns-in_err-check_actions-clause-law
returns-in_err-check_actions-clause-law c = law_of_gaps (task c.args.book.now.outline) c.law.ensures.lawful

pub returns-clause-answers : goal.returns-clause-answers
returns-clause-answers c =
    let known = c.in_ok-check_actions.ensures in
    let gaps = subst (λ (b : Book). GapsFrom (task b.outline) c.args.a (entry c.gaps_from.result)) c.new-chart.ensures c.gaps_from.ensures in
    (known.0, known.1, gaps c.args.b known.0 known.1)

pub returns-clause-law : goal.returns-clause-law
returns-clause-law c = law_of_gaps (task c.args.book.now.outline) c.law.ensures.lawful
