-- The task that an outline says.
use Rattle.model.specs.Tasks.{Task}
use Rattle.book.specs.declared.outline.Outline.{Outline}

abbrev pub task : Outline → Task
task o = record {
  facts = o.facts;
  actions = o.actions;
  groups = o.groups;
  bars = o.bars;
  initial = o.initial;
  goal = o.goal;
}
