use Rattle.std.proofs.Common.{◌≡◌}
use Rattle.book.specs.Views.{task}
use Rattle.card.specs.Views.{ledger_of}
use Rattle.plan_check.proofs.Strips.{at, ClearBefore}
use Rattle.plan_check.proofs.check.Given as goal

abbrev pub invariant-loop-t : goal.invariant-loop-t
invariant-loop-t l =
    let b = task l.book.outline in
    let ledger = ledger_of l.card in
    (l.state ≡ at b ledger l.strip l.t) × ClearBefore b ledger l.strip l.t
