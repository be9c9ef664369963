use Rattle.std.proofs.Common.{rules, arith}
use Rattle.std.proofs.lemmas.List.{length-append, append_assoc}
use Rattle.reader.specs.Written.{action_bytes}
use Rattle.writer.proofs.Lengths.{action_size}
use Rattle.writer.proofs.records.ActionRow.put.Goals as goal

pub push-requires : goal.push-requires
push-requires c = (omega arith, omega (arith, c.requires, action_size c.args.self))

pub put_field-requires : goal.put_field-requires
put_field-requires c = rw (c.push.ensures, length-append) (omega (arith, c.requires, action_size c.args.self))

pub put_field-requires-2 : goal.put_field-requires-2
put_field-requires-2 c = rw (c.put_field.ensures, c.push.ensures, length-append, length-append) (omega (arith, c.requires, action_size c.args.self))

pub put_field-requires-3 : goal.put_field-requires-3
put_field-requires-3 c =
    rw (c.put_field-2.ensures, c.put_field.ensures, c.push.ensures, length-append, length-append, length-append) (omega (arith, c.requires, action_size c.args.self))

pub returns : goal.returns
unfolding action_bytes
returns c = search (rules, append_assoc)
