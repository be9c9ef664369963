use Rattle.std.proofs.Common.{ℕ, rules, tests}
use Rattle.std.proofs.lemmas.Iterator.{cases_from_all, YieldsList-from_slice}
use Rattle.sets.specs.Sets.{One}
use Rattle.sets.proofs.Chains.{each_decides}
use Rattle.book.specs.Views.{task}
use Rattle.lookahead.proofs.standing.is_standing.Goals as goal

pub returns : goal.returns
returns c =
    let groups = (task c.args.book.now.outline).groups in
    let one = λ (group : ℕ). One c.args.state group in
    each_decides one groups 0
    (cases_from_all _ _ _ one (λ group. one group → ⊥) c.all.ensures.ran (YieldsList-from_slice groups (search rules)) (λ x q k. search (rules, tests)) (λ x q k. search (rules, tests)))
