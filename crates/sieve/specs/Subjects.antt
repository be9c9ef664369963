-- A book and a card as the subject of a sieve.
use Rattle.std.specs.Prelude.{Some, None, Option}
use Rattle.model.specs.Sieves.{Subject}
use Rattle.book.specs.declared.book.Book.{Book}
use Rattle.book.specs.Views.{task}
use Rattle.card.specs.declared.Card.{Card}
use Rattle.card.specs.Views.{ledger_of}
use Rattle.sieve.specs.declared.seen.Seen.{Seen}

abbrev pub subject_of : Book → Card → Subject
subject_of b c = record { task = task b.outline; card = ledger_of c }

-- what a sieve keeps of its subject, none before its first begin
abbrev pub seen_on : Option Seen → Option Subject
seen_on None = None
seen_on (Some s) = Some (subject_of s.book s.card)
