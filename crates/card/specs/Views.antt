-- A card in the words of the ledger.
use Rattle.std.specs.Prelude.{Ok, Err, Result}
use Rattle.model.specs.Ledgers.{Ledger, Verdict, done, refused}
use Rattle.card.specs.declared.Card.{Card}
use Rattle.card.specs.declared.refusals.Refusal.{Refusal}
use Rattle.card.specs.Refusals.{number}
use Rattle.card.specs.Tables.{listed}

-- what the card shows
abbrev pub ledger_of : Card → Ledger
ledger_of c = record { rounds = c.rounds; bookings = listed c.bookings }

-- what a call answered
abbrev pub verdict_of : Result (Unit {0}) Refusal → Verdict
verdict_of (Ok u) = done
verdict_of (Err e) = refused (number e)
