use Rattle.std.proofs.Common.{length, ap, rules, tests, arith}
use Rattle.sets.specs.Sets.{In}
use Rattle.book.specs.Views.{task}
use Rattle.rounds.specs.Tables.{Clash}
use Rattle.rounds.proofs.Tables.{disturb_known}
use Rattle.plan_check.specs.Finds.{ClashIn}
use Rattle.sets.proofs.Finds.{lowest_found}
use Rattle.plan_check.proofs.Ranges.{pair_lowest}
use Rattle.plan_check.proofs.finders.pair_from.Goals as goal

pub returns : goal.returns
returns c =
    let b = task c.args.book.now.outline in
    let a = c.args.a in
    let here : In a c.args.round = search (rules, tests) in
    pair_lowest a (ClashIn b c.args.round) c.find.result c.map.result (search (rules, tests))
    (lowest_found _ _ _ _ (λ k. In k c.args.round × Clash b a k) (ClashIn b c.args.round a) c.find.ensures.ran (λ k t q call. search (rules, tests))
    (λ k above _ h. (omega (arith, above), here, h.0, h.1.2))
    (λ k h. (omega (arith, h.0), omega (arith, disturb_known b _ k h.3, ap length c.actions.ensures.actions), (h.2, (disturb_known b _ k h.3, (λ same. omega (arith, h.0, same)), h.3)))))
