use Rattle.worked.proofs.Facts.{worked}
use Rattle.worked.proofs.worked_facts.Goals as goal

pub returns : goal.returns
returns c = worked
