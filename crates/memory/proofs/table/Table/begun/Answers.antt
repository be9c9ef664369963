use Rattle.std.proofs.Common.{◌≡◌, cond, [], Some, sym, subst, rules}
use mathlib.Core.Logic.{∥∥₁_map}
use Rattle.sieve.specs.Subjects.{subject_of, seen_on}
use Rattle.memory.specs.Keeping.{keeps_on}
use Rattle.memory.specs.Memories.{AllLost}
use Rattle.memory.specs.Noting.{keeps_lost}
use Rattle.memory.proofs.table.Table.begun.Goals as goal
use Rattle.memory.proofs.table.Table.begun.Goals.{then-outlasts, else-outlasts}

pub invariant_of-result : goal.invariant_of-result
invariant_of-result c =
    let s = c.args.self in
    let y = subject_of c.args.book.now c.args.card.now in
    let is : c.if-outlasts.known ≡ cond (keeps_on (seen_on s.seen) y) s.known [] = search rules in
    let subject : seen_on (Some c.new.result) ≡ Some y = search rules in
    record { lost = ∥∥₁_map s.lost (λ all. subst (λ o. AllLost o c.if-outlasts.known) (sym subject) (subst (AllLost (Some y)) (sym is) (keeps_lost (seen_on s.seen) y s.known all))) }
