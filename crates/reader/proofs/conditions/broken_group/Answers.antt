use Rattle.std.proofs.Common.{rules, tests, ℕ, ◌<◌, length, slice_index}
use Rattle.std.proofs.lemmas.Iterator.{YieldsList-from_slice}
use Rattle.model.specs.declared.Action.{Action}
use Rattle.model.specs.Tasks.{Fits, idle}
use Rattle.sets.proofs.Finds.{placed_lowest}
use Rattle.reader.proofs.conditions.broken_group.Goals as goal

pub returns : goal.returns
returns c =
    let o = c.args.outline.now in
    let some = λ (a : Action). (g : ℕ) × (g < length o.groups) × (Fits a (slice_index o.groups g) → ⊥) in
    placed_lowest some o.actions idle _ _ c.position.ensures.ran (YieldsList-from_slice o.actions cc) (λ x q k. search (rules, tests)) (λ x q k. search (rules, tests)) (λ e. search rules) (λ i l e. search rules)
