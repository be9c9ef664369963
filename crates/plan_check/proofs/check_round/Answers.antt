use Rattle.book.specs.Views.{task}
use Rattle.card.specs.Views.{ledger_of}
use Rattle.plan_check.proofs.Order.{first_26, first_27, first_28, no_flaw}
use Rattle.plan_check.proofs.check_round.Goals as goal

pub returns-in-Some-unmet_need : goal.returns-in-Some-unmet_need
returns-in-Some-unmet_need c =
    let x = c.args in
    first_26 (task x.book.now.outline) (ledger_of x.card.now).bookings x.at.t x.at.state x.round
    c.in_default.ensures c.booked_for.result c.booked_for.ensures c.in_default-missing_booking.ensures
    c.in-Some-unmet_need.a c.in-Some-unmet_need.ensures

pub returns-in-Some-disturbance : goal.returns-in-Some-disturbance
returns-in-Some-disturbance c =
    let x = c.args in
    first_27 (task x.book.now.outline) (ledger_of x.card.now).bookings x.at.t x.at.state x.round
    c.in_default.ensures c.booked_for.result c.booked_for.ensures c.in_default-missing_booking.ensures c.in_default-unmet_need.ensures
    c.in-Some-disturbance.a c.in-Some-disturbance.c c.in-Some-disturbance.ensures

pub returns-in-Some-bar_in : goal.returns-in-Some-bar_in
returns-in-Some-bar_in c =
    let x = c.args in
    first_28 (task x.book.now.outline) (ledger_of x.card.now).bookings x.at.t x.at.state x.round
    c.in_default.ensures c.booked_for.result c.booked_for.ensures c.in_default-missing_booking.ensures c.in_default-unmet_need.ensures
    c.in_default-disturbance.ensures c.next_state-after.result c.next_state-after.ensures
    c.in-Some-bar_in.i c.in-Some-bar_in.ensures

pub returns : goal.returns
returns c =
    let x = c.args in (
      c.next_state-after.ensures,
      no_flaw (task x.book.now.outline) (ledger_of x.card.now).bookings x.at.t x.at.state x.round
          c.in_default.ensures c.booked_for.result c.booked_for.ensures c.in_default-missing_booking.ensures c.in_default-unmet_need.ensures
          c.in_default-disturbance.ensures c.next_state-after.result c.next_state-after.ensures
          c.in_default-bar_in.ensures,
    )
