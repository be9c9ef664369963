-- The subjects of the two sieves.
use Rattle.std.specs.Prelude.{Some, None, Option}
use Rattle.model.specs.Sieves.{Subject}
use Rattle.sieve.specs.declared.seen.Seen.{Seen}
use Rattle.sieve.specs.Subjects.{subject_of}
use Rattle.lookahead.specs.declared.clashes.Clashes.{Clashes}
use Rattle.lookahead.specs.declared.deadlines.Deadlines.{Deadlines}

abbrev pub seen_as : Seen → Subject
seen_as s = subject_of s.book s.card

-- what the goal sieve looks ahead to, none before its first begin
abbrev pub deadlines_on : Option Deadlines → Option Subject
deadlines_on None = None
deadlines_on (Some d) = Some (seen_as d.seen)

-- the same of the gap sieve
abbrev pub clashes_on : Option Clashes → Option Subject
clashes_on None = None
clashes_on (Some k) = Some (seen_as k.seen)
