use Rattle.std.proofs.lemmas.Bool.{eqb-false, ne_eqb, not-true, not_from_false}
use Rattle.sets.proofs.Members.{meet_from, meet_to}
use Rattle.sets.proofs.meets.Goals as goal

pub returns : goal.returns
returns c = (
  λ e. meet_from c.args.a c.args.b (eqb-false _ _ (not-true _ e)),
  λ m. not_from_false _ (ne_eqb _ _ (meet_to c.args.a c.args.b m)),
)
