use Rattle.std.proofs.lemmas.Bool.{eqb-true, eq-eqb}
use Rattle.sets.proofs.Members.{part_from, part_to}
use Rattle.sets.proofs.is_part.Goals as goal

pub returns : goal.returns
returns c = (λ e. part_from c.args.a c.args.b (eqb-true _ _ e), λ p. eq-eqb _ _ (part_to c.args.a c.args.b p))
