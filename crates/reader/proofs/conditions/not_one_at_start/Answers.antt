use Rattle.std.proofs.Common.{rules, tests}
use Rattle.std.proofs.lemmas.Iterator.{YieldsList-from_slice}
use Rattle.sets.specs.Sets.{One}
use Rattle.sets.proofs.Finds.{placed_lowest}
use Rattle.reader.proofs.conditions.not_one_at_start.Goals as goal

pub returns : goal.returns
returns c =
    let o = c.args.outline.now in
    let some = λ (g : _). One o.initial g → ⊥ in
    placed_lowest some o.groups 0 _ _ c.position.ensures.ran (YieldsList-from_slice o.groups cc) (λ x q k. search (rules, tests)) (λ x q k. search (rules, tests)) (λ e. search rules) (λ i l e. search rules)
