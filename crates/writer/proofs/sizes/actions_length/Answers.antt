use Rattle.std.proofs.Common.{arith}
use Rattle.std.proofs.lemmas.List.{length-append, take_all}
use Rattle.model.specs.Tasks.{idle}
use Rattle.reader.specs.Written.{action_bytes}
use Rattle.writer.proofs.Lengths.{joined_step, joined_room, actions_most}
use Rattle.writer.proofs.sizes.actions_length.Goals as goal

pub overflow_add-sum : goal.overflow_add-sum
overflow_add-sum c = omega (arith, c.requires, c.loop-a.invariant, joined_room action_bytes c.args.actions.now c.loop-a.a-index idle c.loop-a-test.true, actions_most c.args.actions.now)

pub loop-a-preserved : goal.loop-a-preserved
loop-a-preserved c = rw (joined_step action_bytes c.args.actions.now c.loop-a.a-index idle c.loop-a-test.true, length-append) (omega (arith, c.loop-a.invariant))

pub returns : goal.returns
returns c = rw (take_all c.loop-a.a-index c.args.actions.now c.loop-a-test.false) at c.loop-a.invariant
