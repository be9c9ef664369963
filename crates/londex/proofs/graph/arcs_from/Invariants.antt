use Rattle.sets.specs.Sets.{Marks}
use Rattle.book.specs.Views.{task}
use Rattle.londex.proofs.Arcs.{SomeBelow, Swaps}
use Rattle.londex.proofs.graph.arcs_from.Given as goal

abbrev pub invariant-loop-a : goal.invariant-loop-a
invariant-loop-a l = Marks (SomeBelow (Swaps (task l.book.outline) l.v) l.a-index) l.added
