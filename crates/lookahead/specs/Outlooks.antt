-- What an outlook is of.
use Rattle.model.specs.Sieves.{Subject}
use Rattle.sieve.specs.Subjects.{subject_of}
use Rattle.lookahead.specs.declared.outlook.Outlook.{Outlook}

abbrev pub ahead : Outlook → Subject
ahead o = subject_of o.londex.now.book o.card.now
