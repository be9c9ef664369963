use Rattle.std.proofs.lemmas.Bool.{eqb-true, eq-eqb}
use Rattle.sets.proofs.Counts.{one_from, one_to}
use Rattle.sets.proofs.share_one.Goals as goal

pub returns : goal.returns
returns c = (λ e. one_from c.args.a c.args.b (eqb-true _ _ e), λ o. eq-eqb _ _ (one_to c.args.a c.args.b o))
