use Rattle.std.proofs.Common.{◌≡◌, ℕ, ◌+◌, List, length, slice_index_or, sym, ap, subst, arith, rules}
use Rattle.sets.specs.Sets.{In, Marks}
use Rattle.model.specs.declared.Action.{Action}
use Rattle.model.specs.Tasks.{idle, action}
use Rattle.book.specs.Views.{task}
use Rattle.londex.proofs.Arcs.{SomeBelow, Swaps, union_in, union_out, step_all}
use Rattle.londex.proofs.graph.arcs_from.Goals as goal
use Rattle.londex.proofs.graph.arcs_from.Goals.{then-contains, else-contains}

pub loop-a-preserved : goal.loop-a-preserved
loop-a-preserved c =
    let b = task c.args.book.now.outline in
    let v = c.args.v in
    let i = c.loop-a.a-index in
    let x = slice_index_or c.actions-a-items.result.now i idle in
    let is : x ≡ action b i = ap (λ (xs : List Action). slice_index_or xs i idle) c.actions-a-items.ensures.actions in
    elim c.if-contains.branch [
      | then-contains w ↦
          let here : In v x.deletes = search rules in
          let swaps : Marks (Swaps b v i) x.adds = subst (λ (a : Action). Marks (λ j. In v a.deletes × In j a.adds) x.adds) is (record { only = λ j h. (here, h); all = λ j p. p.1 }) in
          subst (λ (n : ℕ). Marks (SomeBelow (Swaps b v) (i + 1)) n) (sym w.added-is) (union_in (Swaps b v) i c.loop-a.added x.adds swaps c.loop-a.invariant)
      | else-contains w ↦
          let out : In v x.deletes → ⊥ = search rules in
          subst (λ (n : ℕ). Marks (SomeBelow (Swaps b v) (i + 1)) n) (sym w.added-is) (union_out (Swaps b v) i c.loop-a.added (λ j p. out (subst (λ (a : Action). In v a.deletes) (sym is) p.0)) c.loop-a.invariant)
    ]

pub returns : goal.returns
returns c =
    let b = task c.args.book.now.outline in
    let end : c.loop-a.a-index ≡ length b.actions = omega (arith, ap length c.actions-a-items.ensures.actions) in
    step_all b c.args.v c.loop-a.a-index c.loop-a.added c.group_of.result end c.loop-a.invariant c.group_of.ensures
