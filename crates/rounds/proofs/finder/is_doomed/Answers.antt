use Rattle.std.proofs.Common.{◌≤◌, length, rules, tests}
use Rattle.std.proofs.lemmas.Iterator.{cases_from_any, YieldsList-from_slice, YieldsList-from_zip}
use Rattle.std.specs.List.{zip}
use Rattle.sets.proofs.Chains.{some_decides}
use Rattle.book.specs.Views.{task}
use Rattle.rounds.proofs.Tables.{Stuck, doomed_by}
use Rattle.rounds.proofs.finder.is_doomed.Goals as goal

pub returns : goal.returns
returns c =
    let masks = c.args.masks.now in
    let b = task masks.book.outline in
    let stuck = Stuck c.args.state c.args.free in
    let many : length b.bars ≤ length masks.breakers = search rules in
    doomed_by b masks.breakers masks.breach many c.args.state c.args.free
    (some_decides stuck (zip b.bars masks.breakers) (0, 0) (cases_from_any c.any.new.self _ _ stuck (λ p. stuck p → ⊥) c.any.ensures.ran (YieldsList-from_zip (YieldsList-from_slice b.bars (search rules)) (YieldsList-from_slice masks.breakers (search rules))) (λ x q k. search (rules, tests)) (λ x q k. search (rules, tests))))
