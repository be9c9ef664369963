use Rattle.std.proofs.Common.{List, length, ap, arith}
use Rattle.std.specs.List.{flat_map}
use Rattle.model.specs.declared.Action.{Action}
use Rattle.reader.specs.Written.{action_bytes}
use Rattle.writer.proofs.Lengths.{book_size, book_most}
use Rattle.writer.proofs.sizes.file_length.Goals as goal

pub overflow_add-head : goal.overflow_add-head
overflow_add-head c = omega (arith, book_size c.args.book.now.outline, book_most c.args.book.now)

pub overflow_add-head-2 : goal.overflow_add-head-2
overflow_add-head-2 c = omega (arith, book_size c.args.book.now.outline, book_most c.args.book.now)

pub overflow_add-result : goal.overflow_add-result
overflow_add-result c =
    let actions = ap (λ (xs : List Action). length (flat_map action_bytes xs)) c.actions.ensures.actions in
    omega (arith, book_size c.args.book.now.outline, book_most c.args.book.now, actions)

pub overflow_add-result-2 : goal.overflow_add-result-2
overflow_add-result-2 c =
    let actions = ap (λ (xs : List Action). length (flat_map action_bytes xs)) c.actions.ensures.actions in
    omega (arith, book_size c.args.book.now.outline, book_most c.args.book.now, actions, ap length c.groups.ensures.groups, ap length c.bars.ensures.bars)

pub returns : goal.returns
returns c =
    let actions = ap (λ (xs : List Action). length (flat_map action_bytes xs)) c.actions.ensures.actions in
    omega (arith, book_size c.args.book.now.outline, actions, ap length c.groups.ensures.groups, ap length c.bars.ensures.bars)
