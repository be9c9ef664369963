use Rattle.std.proofs.Common.{length, sym, ap, ◌∙◌, arith}
use Rattle.std.proofs.lemmas.List.{length-set, length-take-le}
use Rattle.few.specs.Rows.{filled_up}
use Rattle.few.proofs.few.Few.push.Goals as goal
use Rattle.few.proofs.Pushes.{pushed}

pub invariant_of-self : goal.invariant_of-self
invariant_of-self g c =
    let i = c.self.invariant in
    let s = c.self.inside.slots in
    let n = c.self.inside.len in
    let e = length-take-le n s (omega (arith, i.0, i.1.0)) in
    let v = ap length c.self.view_is in
    let p = pushed g.T.Blank.blank c.args.item g.row.N n s i.0 (omega (arith, c.requires, e, v)) i.1.1 in
    (length-set s n c.args.item ∙ i.0, (omega (arith, c.requires, e, v), p.0 ∙ ap (filled_up g.row.N g.T.Blank.blank) (sym p.1)))
