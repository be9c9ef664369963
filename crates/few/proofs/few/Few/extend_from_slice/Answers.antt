use Rattle.std.proofs.Common.{◌≡◌, ◌+◌, ◌-◌, ◌≤◌, ◌++◌, List, length, take, sym, ap, ◌∙◌, arith}
use Rattle.std.proofs.lemmas.List.{length-append, length-take-le}
use Rattle.few.specs.Rows.{filled_up}
use Rattle.few.proofs.few.Few.extend_from_slice.Goals as goal
use Rattle.few.proofs.Pushes.{extended, filled_length}

pub invariant_of-self : goal.invariant_of-self
invariant_of-self g c =
    let i = c.self.invariant in
    let s = c.self.inside.slots in
    let n = c.self.inside.len in
    let items = c.args.items.now in
    let v = ap length c.self.view_is in
    let short : length (take n s) ≡ n = length-take-le n s (omega (arith, i.0, i.1.0)) in
    let room : n + length items ≤ g.row.N = omega (arith, c.requires, v, short) in
    let same : c.copy_from_slice.new.self ≡ items = c.copy_from_slice.ensures.after in
    let back : n + length items - n ≡ length items = omega arith in
    let p = extended g.T.Blank.blank g.row.N n s items i.0 room i.1.1 in
    let long : length (take n s ++ items) ≤ g.row.N = omega (arith, length-append (take n s) items, short, room) in
    rw (same, back) (ap length p.0 ∙ filled_length g.T.Blank.blank g.row.N (take n s ++ items) long, (room, p.0 ∙ ap (filled_up g.row.N g.T.Blank.blank) (sym p.1)))

pub returns : goal.returns
returns g c =
    let i = c.self.invariant in
    let s = c.self.inside.slots in
    let n = c.self.inside.len in
    let items = c.args.items.now in
    let v = ap length c.self.view_is in
    let short : length (take n s) ≡ n = length-take-le n s (omega (arith, i.0, i.1.0)) in
    let room : n + length items ≤ g.row.N = omega (arith, c.requires, v, short) in
    let same : c.copy_from_slice.new.self ≡ items = c.copy_from_slice.ensures.after in
    let back : n + length items - n ≡ length items = omega arith in
    rw (same, back) ((extended g.T.Blank.blank g.row.N n s items i.0 room i.1.1).1 ∙ ap (λ (xs : List g.row.T.Denot). xs ++ items) c.self.view_is)
