use Rattle.sets.specs.Sets.{Marks}
use Rattle.book.specs.Views.{task}
use Rattle.londex.proofs.Arcs.{SomeBelow, BothIn}
use Rattle.londex.proofs.graph.group_of.Given as goal

abbrev pub invariant-loop-members : goal.invariant-loop-members
invariant-loop-members l = Marks (SomeBelow (BothIn (task l.book.outline) l.v) l.members-index) l.found
