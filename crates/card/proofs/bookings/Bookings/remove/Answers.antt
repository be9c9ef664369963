use Rattle.std.proofs.Common.{◌-◌, List, length, get_or, take, sym, ap, ◌∙◌, subst, arith}
use Rattle.std.proofs.lemmas.List.{take-set, length-set}
use Rattle.model.specs.declared.Booking.{Booking}
use Rattle.model.specs.Ledgers.{slot}
use Rattle.card.specs.Tables.{Empty}
use Rattle.card.proofs.Keeps.{empty_removed}
use Rattle.card.proofs.Shift.{shifted_all}
use Rattle.card.proofs.bookings.Bookings.remove.Goals as goal

pub returns : goal.returns
returns c =
    let old = c.args.self.now in
    let last = old.len - 1 in
    let is = c.put.ensures.slots in
    record {
      fit = (ap length is ∙ length-set _ _ _ ∙ c.loop-j.invariant.long ∙ c.requires.fit.0, omega arith);
      clear = λ k le. subst (λ (xs : List Booking). Empty (get_or xs k (slot 0 0))) (sym is) (empty_removed old.slots c.loop-j.self.slots c.args.i c.loop-j.j last c.loop-j.invariant (omega arith) (omega arith) (λ m up. c.requires.clear m (omega arith)) k le);
      listed = ap (take last) is ∙ take-set c.loop-j.self.slots last _ ∙ shifted_all _ _ _ c.loop-j.j last old.len (omega arith) (omega arith) (omega arith) (omega arith) c.loop-j.invariant;
    }
