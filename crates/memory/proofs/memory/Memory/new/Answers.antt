use Rattle.memory.specs.Compare.{keeps_just}
use Rattle.memory.proofs.memory.Memory.new.Goals as goal

pub returns-clause-just : goal.returns-clause-just
returns-clause-just g c = keeps_just
