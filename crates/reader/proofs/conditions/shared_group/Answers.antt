use Rattle.std.proofs.Common.{rules, tests, ℕ, ◌<◌, length, slice_index, arith}
use Rattle.sets.specs.Sets.{Meet}
use Rattle.sets.proofs.Finds.{lowest_found}
use Rattle.reader.proofs.conditions.shared_group.Goals as goal

pub returns : goal.returns
returns c =
    let sets = c.as_slice-groups.result.now in
    let some = λ (g : ℕ). (h : ℕ) × (h < g) × Meet (slice_index sets h) (slice_index sets g) in
    rw c.as_slice-groups.ensures.items at
    (lowest_found _ _ _ c.find.result some (λ g. (g < length sets) × some g) c.find.ensures.ran (λ g t q k. search (rules, tests)) (λ g _ l s. (l, s)) (λ g h. (omega arith, h.0, h.1)))
