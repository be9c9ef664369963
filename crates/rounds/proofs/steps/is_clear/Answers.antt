use Rattle.std.proofs.Common.{ℕ, rules, tests}
use Rattle.std.proofs.lemmas.Iterator.{cases_from_all, YieldsList-from_slice}
use Rattle.sets.specs.Sets.{Part}
use Rattle.sets.proofs.Chains.{each_decides}
use Rattle.book.specs.Views.{task}
use Rattle.rounds.proofs.steps.is_clear.Goals as goal

pub returns : goal.returns
returns c =
    let absent = λ (bar : ℕ). Part bar c.args.state → ⊥ in
    let bars = (task c.args.book.now.outline).bars in
    each_decides absent bars 0 (cases_from_all _ _ _ absent (λ bar. absent bar → ⊥) c.all.ensures.ran (YieldsList-from_slice bars (search rules)) (λ x q k. search (rules, tests)) (λ x q k. search (rules, tests)))
