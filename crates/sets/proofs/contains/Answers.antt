use Rattle.std.proofs.Common.{sym, ◌∙◌, arith}
use Rattle.std.proofs.lemmas.Bool.{le-ltb, ne_eqb}
use Rattle.sets.proofs.Members.{in_below}
use Rattle.sets.proofs.contains.Goals as goal

pub returns-else-i-lt64 : goal.returns-else-i-lt64
returns-else-i-lt64 c =
    le-ltb _ _ c.if-i-lt64.false ∙ sym (ne_eqb _ _ (λ h. let l = in_below 64 c.args.i c.args.s (omega arith) h in omega arith))
