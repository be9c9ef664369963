use Rattle.std.proofs.Common.{rules, arith}
use Rattle.std.proofs.lemmas.List.{length-append, append_assoc}
use Rattle.reader.specs.Written.{ends_bytes}
use Rattle.writer.proofs.Lengths.{ends_size}
use Rattle.writer.proofs.records.put_ends.Goals as goal

pub push-requires : goal.push-requires
push-requires c = (omega arith, omega (arith, c.requires, ends_size c.args.initial c.args.goal))

pub put_field-requires : goal.put_field-requires
put_field-requires c = rw (c.push.ensures, length-append) (omega (arith, c.requires, ends_size c.args.initial c.args.goal))

pub put_field-requires-2 : goal.put_field-requires-2
put_field-requires-2 c = rw (c.put_field.ensures, c.push.ensures, length-append, length-append) (omega (arith, c.requires, ends_size c.args.initial c.args.goal))

pub returns : goal.returns
unfolding ends_bytes
returns c = search (rules, append_assoc)
