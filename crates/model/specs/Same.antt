-- Sameness as a test, for what has to be a function.
use Rattle.std.specs.Prelude.{Bool, ◌&&◌, ◌==◌, nat_eq}
use Rattle.std.specs.Cmp.Lexicographic.{pointwise}
use Rattle.model.specs.declared.Action.{Action}
use Rattle.model.specs.Tasks.{Task}

-- whether a and c need, add and delete the same facts
abbrev pub same_action : Action → Action → Bool
same_action a c = a.needs == c.needs && (a.adds == c.adds && a.deletes == c.deletes)

-- whether b and c are one task: the same numbers, and the same lists in the same order
abbrev pub same_task : Task → Task → Bool
same_task b c =
    (b.facts == c.facts)
    && (b.initial == c.initial
    && (b.goal == c.goal
    && (pointwise same_action b.actions c.actions
    && (pointwise nat_eq b.groups c.groups
    && pointwise nat_eq b.bars c.bars))))
