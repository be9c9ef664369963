use Rattle.std.proofs.Common.{rules, ◌≡◌, ◌++◌, arith}
use Rattle.std.proofs.lemmas.List.{length-append, append_assoc}
use Rattle.std.specs.List.{flat_map}
use Rattle.model.proofs.Laws.{lawful_from}
use Rattle.book.specs.Views.{task}
use Rattle.reader.specs.Written.{set_bytes, counts_bytes, ends_bytes, action_bytes, written}
use Rattle.writer.proofs.Lengths.{file_most}
use Rattle.writer.proofs.file.file.Goals as goal

pub put_ends-requires : goal.put_ends-requires
put_ends-requires c =
    let o = c.args.book.now.outline in
    let most = file_most o (lawful_from (task o) c.args.book.now.lawful) in
    let front : c.first_of-file.result ≡ counts_bytes o = search rules in
    rw front (omega (arith, most))

pub put_rows-requires : goal.put_rows-requires
put_rows-requires c =
    let o = c.args.book.now.outline in
    let most = file_most o (lawful_from (task o) c.args.book.now.lawful) in
    let head : c.put_ends.new.file ≡ counts_bytes o ++ ends_bytes o.initial o.goal = search rules in
    rw (c.actions.ensures.actions, head, length-append) (omega (arith, most))

pub put_rows-requires-2 : goal.put_rows-requires-2
put_rows-requires-2 c =
    let o = c.args.book.now.outline in
    let most = file_most o (lawful_from (task o) c.args.book.now.lawful) in
    let front : c.put_rows.new.file ≡ (counts_bytes o ++ ends_bytes o.initial o.goal) ++ flat_map action_bytes o.actions = search rules in
    rw (c.groups.ensures.groups, front, length-append, length-append) (omega (arith, most))

pub put_rows-requires-3 : goal.put_rows-requires-3
put_rows-requires-3 c =
    let o = c.args.book.now.outline in
    let most = file_most o (lawful_from (task o) c.args.book.now.lawful) in
    let front : c.put_rows-2.new.file ≡ ((counts_bytes o ++ ends_bytes o.initial o.goal) ++ flat_map action_bytes o.actions) ++ flat_map set_bytes o.groups = search rules in
    rw (c.bars.ensures.bars, front, length-append, length-append, length-append) (omega (arith, most))

pub returns : goal.returns
unfolding written
returns c = search (rules, append_assoc)
