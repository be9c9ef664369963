use Rattle.model.proofs.Spaces.{law_of_gaps}
use Rattle.book.specs.Views.{task}
use Rattle.londex.proofs.londex.Londex.gap_of.Goals as goal

pub returns-in_err-check_actions-clause-law : goal.returns-in_err-check_actions-clause-law
returns-in_err-check_actions-clause-law c = law_of_gaps (task c.args.self.now.book.outline) c.law.ensures.lawful

pub returns-clause-law : goal.returns-clause-law
returns-clause-law c = law_of_gaps (task c.args.self.now.book.outline) c.law.ensures.lawful
