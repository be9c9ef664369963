use Rattle.std.proofs.Common.{◌≡◌, length, ap, rules, tests, arith}
use Rattle.book.specs.Views.{task}
use Rattle.plan_check.specs.Finds.{LowestPair, ClashIn}
use Rattle.plan_check.proofs.Parts.{disturbs_known}
use Rattle.plan_check.proofs.Ranges.{first_mapped, lowest_pair}
use Rattle.plan_check.proofs.finders.disturbance.Goals as goal

pub returns : goal.returns
returns c =
    let b = task c.args.book.now.outline in
    let P = ClashIn b c.args.round in
    lowest_pair P _ c.find_map.result (λ a k p. (omega arith, omega (arith, disturbs_known b a k p.3, ap length c.actions.ensures.actions)))
    (first_mapped _ _ (λ a o. LowestPair o (λ i k. (i ≡ a) × P i k)) (λ a o q call. search (rules, tests)) _ c.find_map.result c.find_map.ensures.runs)
