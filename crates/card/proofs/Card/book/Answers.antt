use Rattle.std.proofs.Common.{sym, refl, subst, arith}
use Rattle.std.proofs.lemmas.List.{length-take-le}
use Rattle.model.specs.Ledgers.{slot}
use Rattle.model.proofs.Ways.{book_high, book_late, book_again, book_full, book_done}
use Rattle.model.specs.Bookings.{Proper, Once}
use Rattle.card.specs.Tables.{listed}
use Rattle.card.specs.Views.{ledger_of}
use Rattle.card.proofs.Fronts.{found, missed}
use Rattle.model.proofs.Bookings.{proper_push, once_push}
use Rattle.card.proofs.Card.book.Goals as goal

pub returns-then-action-gt-LAST_ACTION : goal.returns-then-action-gt-LAST_ACTION
returns-then-action-gt-LAST_ACTION c = book_high (ledger_of c.args.self.now) c.args.action c.args.round (omega arith)

pub returns-then-round-self : goal.returns-then-round-self
returns-then-round-self c = book_late (ledger_of c.args.self.now) c.args.action c.args.round (omega arith) (omega arith)

pub returns-then-is_some : goal.returns-then-is_some
returns-then-is_some c =
    book_again (ledger_of c.args.self.now) c.args.action c.args.round (omega arith) (omega arith)
    (found _ _ _ c.find.ensures (sym c.if-is_some.ensures))

pub returns-then-is_full : goal.returns-then-is_full
returns-then-is_full c =
    let old = c.args.self.now in
    book_full (ledger_of old) c.args.action c.args.round (omega arith) (omega arith)
    (missed _ _ _ c.find.ensures (sym c.if-is_some.ensures))
    (omega (arith, c.if-is_full.ensures, length-take-le old.bookings.len old.bookings.slots (omega arith)))

pub returns : goal.returns
returns c =
    let old = c.args.self.now in
    book_done (ledger_of old) c.args.action c.args.round _ (omega arith) (omega arith)
    (missed _ _ _ c.find.ensures (sym c.if-is_some.ensures))
    (omega (arith, c.if-is_full.ensures, length-take-le old.bookings.len old.bookings.slots (omega arith)))
    refl c.push.ensures.listed

pub invariant_of-self : goal.invariant_of-self
invariant_of-self c =
    let old = c.args.self.now in
    let new = slot c.args.action c.args.round in
    let is = c.push.ensures.listed in record {
      short = old.short;
      fit = c.push.ensures.fit;
      clear = c.push.ensures.clear;
      proper = subst (Proper old.rounds) (sym is) (proper_push (listed old.bookings) new old.rounds old.proper (omega arith) (omega arith));
      once = subst Once (sym is) (once_push (listed old.bookings) new old.once (missed _ _ _ c.find.ensures (sym c.if-is_some.ensures)));
    }
