use Rattle.std.proofs.Common.{sym}
use Rattle.writer.proofs.Lengths.{field_size}
use Rattle.writer.proofs.sizes.field_length.Goals as goal

pub returns-else-s-eq0 : goal.returns-else-s-eq0
returns-else-s-eq0 c = sym (field_size c.args.s c.if-s-eq0.false)
