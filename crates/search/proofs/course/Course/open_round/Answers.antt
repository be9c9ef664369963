use Rattle.search.specs.Courses.{subject_on}
use Rattle.search.proofs.Holding.{next_from}
use Rattle.search.proofs.course.Course.open_round.Goals as goal

pub returns : goal.returns
returns c = next_from (subject_on c.args.self.now) c.args.at.state c.args.at.t _ _ _ c.args.self.now.charged c.requires c.round_after.ensures
