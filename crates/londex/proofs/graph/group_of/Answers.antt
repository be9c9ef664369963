use Rattle.std.proofs.Common.{◌≡◌, ℕ, ◌+◌, List, slice_index, sym, ap, subst, rules}
use Rattle.sets.specs.Sets.{In, Marks}
use Rattle.model.specs.Tasks.{group}
use Rattle.book.specs.Views.{task}
use Rattle.londex.proofs.Arcs.{SomeBelow, BothIn, union_in, union_out}
use Rattle.londex.proofs.graph.group_of.Goals as goal
use Rattle.londex.proofs.graph.group_of.Goals.{then-contains, else-contains}

pub loop-members-preserved : goal.loop-members-preserved
loop-members-preserved c =
    let b = task c.args.book.now.outline in
    let v = c.args.v in
    let g = c.loop-members.members-index in
    let s = slice_index c.groups-members-items.result.now g in
    let is : s ≡ group b g = ap (λ (xs : List ℕ). slice_index xs g) c.groups-members-items.ensures.groups in
    elim c.if-contains.branch [
      | then-contains w ↦
          let here : In v s = search rules in
          let both : Marks (BothIn b v g) s = subst (λ (n : ℕ). Marks (λ j. In v n × In j n) s) is (record { only = λ j h. (here, h); all = λ j p. p.1 }) in
          subst (λ (n : ℕ). Marks (SomeBelow (BothIn b v) (g + 1)) n) (sym w.found-is) (union_in (BothIn b v) g c.loop-members.found s both c.loop-members.invariant)
      | else-contains w ↦
          let out : In v s → ⊥ = search rules in
          subst (λ (n : ℕ). Marks (SomeBelow (BothIn b v) (g + 1)) n) (sym w.found-is) (union_out (BothIn b v) g c.loop-members.found (λ j p. out (subst (In v) (sym is) p.0)) c.loop-members.invariant)
    ]
