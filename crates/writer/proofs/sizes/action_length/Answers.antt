use Rattle.std.proofs.Common.{arith}
use Rattle.writer.proofs.Lengths.{field_most, action_size}
use Rattle.writer.proofs.sizes.action_length.Goals as goal

pub overflow_add-result : goal.overflow_add-result
overflow_add-result c = omega (arith, field_most c.args.a.needs)

pub overflow_add-result-2 : goal.overflow_add-result-2
overflow_add-result-2 c = omega (arith, field_most c.args.a.needs, field_most c.args.a.adds)

pub overflow_add-result-3 : goal.overflow_add-result-3
overflow_add-result-3 c = omega (arith, field_most c.args.a.needs, field_most c.args.a.adds, field_most c.args.a.deletes)

pub returns : goal.returns
returns c = omega (arith, action_size c.args.a)
