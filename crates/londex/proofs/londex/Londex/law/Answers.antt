use Rattle.book.specs.Views.{task}
use Rattle.londex.proofs.Exists.{charted_from, spaced_from}
use Rattle.londex.proofs.londex.Londex.law.Goals as goal

pub returns : goal.returns
returns c =
    let l = c.args.self.now in
    let b = task l.book.outline in
    record {
      lawful = c.law.ensures.lawful;
      charted = charted_from b c.law.ensures.lawful l.distances.rows l.charted;
      spaced = spaced_from b c.law.ensures.lawful l.gaps.rows l.spaced;
    }
