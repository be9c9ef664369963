use Rattle.std.proofs.Common.{length, ap, rules, tests, arith}
use Rattle.sets.specs.Sets.{In}
use Rattle.sets.proofs.Members.{in_below}
use Rattle.model.specs.Tasks.{Has}
use Rattle.book.specs.Views.{task}
use Rattle.sets.proofs.Finds.{lowest_found}
use Rattle.plan_check.proofs.finders.unknown_action.Goals as goal

pub returns : goal.returns
returns c =
    let b = task c.args.book.now.outline in
    let many = ap length c.actions.ensures.actions in
    lowest_found _ _ _ _ (λ a. In a c.args.round) (λ a. In a c.args.round × (Has b a → ⊥)) c.find.ensures.ran (λ a t q k. search (rules, tests)) (λ a l _ h. (h, λ has. omega (arith, l, has, many)))
    (λ a h. (omega (arith, h.1, many), in_below 64 a c.args.round (search rules) h.0, h.0))
