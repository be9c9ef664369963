use Rattle.std.proofs.Common.{rules, ◌≡◌, ◌∷◌, refl}
use Rattle.lines.specs.Commands.{Writes}
use Rattle.lines.proofs.Reading.{no_command, refused, two}
use Rattle.lines.proofs.read.read.Goals as goal

pub returns-in_err-v-in-d : goal.returns-in_err-v-in-d
returns-in_err-v-in-d c =
    let is : c.args.line.now ≡ c.in-Some.first.now ∷ c.in-Some.rest.now = search rules in
    refused (Writes c.args.line.now) c.from_residual.result c.from_residual.ensures.0 (no_command c.args.line.now _ _ is _ 2 100 two refl c.in-d.is c.in_err-v-in-d.ensures)

pub returns-in_err-a-in-g : goal.returns-in_err-a-in-g
returns-in_err-a-in-g c =
    let is : c.args.line.now ≡ c.in-Some.first.now ∷ c.in-Some.rest.now = search rules in
    refused (Writes c.args.line.now) c.from_residual-in_err-a-in-g.result c.from_residual-in_err-a-in-g.ensures.0 (no_command c.args.line.now _ _ is _ 2 103 two refl c.in-g.is c.in_err-a-in-g.ensures)
