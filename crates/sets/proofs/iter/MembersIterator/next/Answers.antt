use Rattle.std.proofs.Common.{rules, ◌^◌, ◌<◌}
use Rattle.sets.proofs.Digits.{taken}
use Rattle.sets.proofs.iter.MembersIterator.next.Goals as goal

pub returns-clause-steps : goal.returns-clause-steps
returns-clause-steps c = let fits : c.args.self.now.left < 2 ^ 64 = search rules in taken c.args.self.now.left c.if-self-eq0.false fits

pub returns-clause-goes : goal.returns-clause-goes
returns-clause-goes c = let fits : c.args.self.now.left < 2 ^ 64 = search rules in let t = (taken c.args.self.now.left c.if-self-eq0.false fits).less in search (rules, t)
