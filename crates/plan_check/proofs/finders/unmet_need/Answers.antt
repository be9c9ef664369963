use Rattle.std.proofs.Common.{length, ap, rules, tests, arith}
use Rattle.book.specs.Views.{task}
use Rattle.plan_check.specs.Finds.{Unmet}
use Rattle.plan_check.proofs.Parts.{unmet_known}
use Rattle.sets.proofs.Finds.{lowest_found}
use Rattle.plan_check.proofs.finders.unmet_need.Goals as goal

pub returns : goal.returns
returns c =
    let b = task c.args.book.now.outline in
    let unmet = Unmet b c.args.state c.args.round in
    lowest_found _ _ _ _ unmet unmet c.find.ensures.ran (λ a t q k. search (rules, tests)) (λ a _ _ h. h) (λ a h. (omega arith, omega (arith, unmet_known b a c.args.state h.1, ap length c.actions.ensures.actions), h))
