use Rattle.std.proofs.Common.{◌<◌}
use Rattle.sets.specs.Sets.{Marks}
use Rattle.book.specs.Views.{task}
use Rattle.rounds.specs.Tables.{Clash}
use Rattle.rounds.proofs.masks.clashing.Given as goal

-- the actions so far that clash with i
abbrev pub invariant-loop-j : goal.invariant-loop-j
invariant-loop-j l = Marks (λ k. (k < l.j) × Clash (task l.book.outline) l.i k) l.set
