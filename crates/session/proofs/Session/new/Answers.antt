use Rattle.std.proofs.Common.{[], sym}
use Rattle.session.specs.Sessions.{waits}
use Rattle.session.proofs.Session.new.Goals as goal

pub returns : goal.returns
returns c = record { book = c.new.ensures; follows = ([], waits, sym c.new-line.ensures) }
