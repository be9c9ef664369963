use Rattle.book.specs.Views.{task}
use Rattle.rounds.proofs.Gathers.{Whole}
use Rattle.rounds.proofs.steps.next_state.Given as goal

abbrev pub invariant-loop-i : goal.invariant-loop-i
invariant-loop-i l =
    let b = task l.book.outline in
    let left = l.i-iterator.left in
    Whole (λ a. a.adds) b left l.round l.adds × Whole (λ a. a.deletes) b left l.round l.deletes
