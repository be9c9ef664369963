use Rattle.std.proofs.lemmas.Bool.{leb-true, le-leb}
use Rattle.sets.proofs.Counts.{few_from, few_to}
use Rattle.sets.proofs.share_at_most_one.Goals as goal

pub returns : goal.returns
returns c = (λ e. few_from c.args.a c.args.b (leb-true _ _ e), λ few. le-leb _ _ (few_to c.args.a c.args.b few))
