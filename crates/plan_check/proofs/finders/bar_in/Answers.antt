use Rattle.std.proofs.Common.{ℕ, rules, tests}
use Rattle.std.proofs.lemmas.Iterator.{YieldsList-from_slice}
use Rattle.sets.specs.Sets.{Part}
use Rattle.sets.proofs.Finds.{placed_lowest}
use Rattle.book.specs.Views.{task}
use Rattle.plan_check.proofs.finders.bar_in.Goals as goal

pub returns : goal.returns
returns c =
    let within = λ (bar : ℕ). Part bar c.args.state in
    let bars = (task c.args.book.now.outline).bars in
    placed_lowest within bars 0 _ _ c.position.ensures.ran (YieldsList-from_slice bars (search rules)) (λ x q k. search (rules, tests)) (λ x q k. search (rules, tests)) (λ e. search rules) (λ i l e. search rules)
