use Rattle.sets.proofs.Members.{in_and, and_in}
use Rattle.reader.proofs.conditions.moves.Goals as goal

pub returns-then-adds_one_deletes_one : goal.returns-then-adds_one_deletes_one
returns-then-adds_one_deletes_one c =
    let a = c.args.a in
    let g = c.args.g in
    let one = c.adds_one_deletes_one.ensures.0 c.if-adds_one_deletes_one.true in (
      λ e. (one.0, one.1, λ i h k. c.is_part.ensures.0 e i (and_in i a.deletes g k h)),
      λ m. c.is_part.ensures.1 (λ i h. let w = in_and i a.deletes g h in m.2 i w.1 w.0),
    )
