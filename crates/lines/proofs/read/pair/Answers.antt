use Rattle.lines.proofs.Numbers.{cut}
use Rattle.lines.proofs.Reading.{refused}
use Rattle.lines.proofs.read.pair.Goals as goal

pub returns-in_err-a : goal.returns-in_err-a
returns-in_err-a c =
    let f = c.split-i.ensures in
    refused _ c.from_residual.result c.from_residual.ensures.0
    (λ p h. c.in_err-a.ensures p.0 (cut c.args.s.now c.split-i.result f.within f.past f.before f.found p.0 p.1 h).0)

pub returns-in_err-b : goal.returns-in_err-b
returns-in_err-b c =
    let f = c.split-i.ensures in
    refused _ c.from_residual-in_err-b.result c.from_residual-in_err-b.ensures.0
    (λ p h. c.in_err-b.ensures p.1 (cut c.args.s.now c.split-i.result f.within f.past f.before f.found p.0 p.1 h).1)
