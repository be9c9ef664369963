use Rattle.std.proofs.Common.{◌≡◌, ℕ, ◌+◌, ◌<◌, List, length, slice_index_or, sym, ap, subst, subst₂, arith, rules}
use Rattle.std.proofs.lemmas.Bool.Decides.{not_from_Decides}
use Rattle.std.proofs.lemmas.Option.{get_or_from_slice_get}
use Rattle.sets.specs.Sets.{Marks}
use Rattle.sets.proofs.Marks.{marks_in, marks_out}
use Rattle.model.specs.declared.Action.{Action}
use Rattle.model.specs.Tasks.{idle, action}
use Rattle.model.specs.Plans.{Disturb}
use Rattle.book.specs.Views.{task}
use Rattle.rounds.specs.Tables.{Clash}
use Rattle.rounds.proofs.masks.clashing.Goals as goal
use Rattle.rounds.proofs.masks.clashing.Goals.{then-j-i+then-disturb, else-j-i, else-j-i-via-then-j-i+else-disturb, else-j-i-via-else-j-i}

pub loop-j-preserved : goal.loop-j-preserved
loop-j-preserved c =
    let b = task c.args.book.now.outline in
    let i = c.args.i in
    let j = c.loop-j.j in
    let actions = c.actions-actions.result.now in
    let P : ℕ → Type 0 = Clash b i in
    let many = ap length c.actions-actions.ensures.actions in
    let known : j < length actions = c.loop-j-test.true in
    let small : j < 64 = omega (arith, known, c.actions-actions.ensures.few) in
    let xe : action b i ≡ c.in-Some.action.now = search (rules, get_or_from_slice_get) in
    let ye : action b j ≡ slice_index_or actions j idle = ap (λ (xs : List Action). slice_index_or xs j idle) (sym c.actions-actions.ensures.actions) in
    elim c.if-j-i.branch [
      | then-j-i+then-disturb w ↦
          subst (λ (n : ℕ). Marks (λ k. (k < j + 1) × P k) n) (sym w.set-is)
          (marks_in P j c.loop-j.set small (omega (arith, known, many), (λ e. w.if-j-i.true (sym e)), subst₂ Disturb (sym xe) (sym ye) (w.disturb.ensures.0 w.if-disturb.true)) c.loop-j.invariant)
      | else-j-i w ↦
          subst (λ (n : ℕ). Marks (λ k. (k < j + 1) × P k) n) (sym w.set-is)
          (marks_out P j c.loop-j.set
          (λ p. elim w.else-j-i.branch [
            | else-j-i-via-then-j-i+else-disturb w' ↦ not_from_Decides w'.disturb.result w'.disturb.ensures w'.if-disturb.false (subst₂ Disturb xe ye p.2)
            | else-j-i-via-else-j-i w' ↦ p.1 (sym w'.if-j-i.false)
          ]) c.loop-j.invariant)
    ]
