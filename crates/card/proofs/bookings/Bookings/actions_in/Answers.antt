use Rattle.std.proofs.Common.{ℕ, ◌+◌, ◌<◌, get_or, take, sym, refl, ap, ◌∙◌, subst, arith}
use lib.Bits.{bit_or}
use Rattle.sets.proofs.Members.{shift_is}
use Rattle.model.specs.Ledgers.{slot, Among}
use Rattle.model.specs.Bookings.{BookedFor}
use Rattle.card.proofs.Actions.{actions_with, actions_without}
use Rattle.card.proofs.bookings.Bookings.actions_in.Goals as goal
use Rattle.card.proofs.bookings.Bookings.actions_in.Goals.{then-b-round, else-b-round}

pub overflow_shl-actions : goal.overflow_shl-actions
overflow_shl-actions c =
    let xs = c.as_slice-b-items.result.now in
    let b = get_or xs c.loop-b.b-index (slot 0 0) in
    omega (arith, c.requires.small b (subst (Among b) c.as_slice-b-items.ensures.listed (c.loop-b.b-index, (c.loop-b-test.true, refl))))

pub loop-b-preserved : goal.loop-b-preserved
loop-b-preserved c =
    let xs = c.as_slice-b-items.result.now in
    let i = c.loop-b.b-index in
    let b = get_or xs i (slot 0 0) in
    let small : b.action < 64 = omega (arith, c.requires.small b (subst (Among b) c.as_slice-b-items.ensures.listed (i, (c.loop-b-test.true, refl)))) in
    let Now : ℕ → Type 0 = BookedFor (take (i + 1) xs) c.args.round in
    elim c.if-b-round.branch [
      | then-b-round w ↦ subst Now (sym (w.actions-is ∙ ap (bit_or c.loop-b.actions) (shift_is b.action small))) (actions_with xs i c.args.round c.loop-b.actions c.loop-b-test.true c.loop-b.invariant w.if-b-round.true)
      | else-b-round w ↦ subst Now (sym w.actions-is) (actions_without xs i c.args.round c.loop-b.actions c.loop-b-test.true c.loop-b.invariant w.if-b-round.false)
    ]
