use Rattle.std.proofs.Common.{◌≡◌, ℕ, ◌-◌, sym, subst, inl, inr, ⊎_elim, rules, tests}
use lib.Bits.{bit_and}
use Rattle.std.proofs.lemmas.Bool.Decides.{not_from_Decides}
use Rattle.std.proofs.lemmas.Iterator.{cases_from_any, YieldsList-from_slice}
use Rattle.sets.proofs.Chains.{some_decides}
use Rattle.model.specs.Ledgers.{slot}
use Rattle.model.specs.Sieves.{Subject}
use Rattle.londex.specs.Bounds.{SomeCloser}
use Rattle.londex.specs.Ways.{entry}
use Rattle.lookahead.specs.Outlooks.{ahead}
use Rattle.lookahead.specs.Tables.{Missed, SomeBooking}
use Rattle.lookahead.proofs.Tables.{overdue_late, late_overdue, some_booking}
use Rattle.lookahead.proofs.outlook.Outlook.is_late.Goals as goal

pub returns-then-some_beyond : goal.returns-then-some_beyond
returns-then-some_beyond c =
    let o = c.args.self.now in
    let l = o.londex.now in
    let x : Subject = ahead o in
    let left : c.saturating_sub-left.result ≡ x.card.rounds - o.t = search rules in
    let P : ℕ → Type 0 = SomeCloser (entry c.row-row.result.now) (bit_and x.task.goal c.group_of-own.result) in (
      λ e. overdue_late x c.law.ensures.lawful o.t l.distances.rows c.law.ensures.charted c.args.v c.group_of-own.result c.group_of-own.ensures c.row-row.result.now c.row-row.ensures (inl (subst P left (c.some_beyond.ensures.0 e))),
      λ _. c.if-some_beyond.true,
    )

pub returns-else-some_beyond : goal.returns-else-some_beyond
returns-else-some_beyond c =
    let o = c.args.self.now in
    let l = o.londex.now in
    let x : Subject = ahead o in
    let own = c.group_of-own.result in
    let row = entry c.row-row.result.now in
    let bookings = x.card.bookings in
    let left : c.saturating_sub-left.result ≡ x.card.rounds - o.t = search rules in
    let P : ℕ → Type 0 = SomeCloser row (bit_and x.task.goal own) in
    let misses = Missed x.task row own o.t in
    let some =
    some_booking misses bookings
    (some_decides misses bookings (slot 0 0)
    (cases_from_any _ _ _ misses (λ y. misses y → ⊥) c.any.ensures.ran (YieldsList-from_slice bookings (search rules)) (λ y q k. search (rules, tests)) (λ y q k. search (rules, tests))))
    in (
      λ e. overdue_late x c.law.ensures.lawful o.t l.distances.rows c.law.ensures.charted c.args.v own c.group_of-own.ensures c.row-row.result.now c.row-row.ensures (inr (some.0 e)),
      λ late. ⊎_elim {B = SomeBooking misses bookings} (λ g. absurd (not_from_Decides _ c.some_beyond.ensures c.if-some_beyond.false (subst P (sym left) g))) some.1
          (late_overdue x c.law.ensures.lawful o.t l.distances.rows c.law.ensures.charted c.args.v own c.group_of-own.ensures c.row-row.result.now c.row-row.ensures late),
    )
