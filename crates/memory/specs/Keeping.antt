-- When a memory keeps what it was told: book and number of rounds are the same, and no booking was released.
use Rattle.std.specs.Prelude.{Bool, false, ◌&&◌, Some, None, Decides, Option, ◌==◌}
use Rattle.model.specs.Same.{same_task}
use Rattle.model.specs.Ledgers.{same}
use Rattle.model.specs.Sieves.{Subject, Grew}
use Rattle.memory.specs.Lists.{all_among}

-- the test, since the rules of a sieve are functions
abbrev pub keeps : Subject → Subject → Bool
keeps x y = same_task x.task y.task && (x.card.rounds == y.card.rounds && all_among same x.card.bookings y.card.bookings)

-- it tests just that
abbrev pub KeepsJust : Type 0
KeepsJust = (x y : Subject) → Decides (keeps x y) (Grew x y)

-- without a former subject nothing is kept
abbrev pub keeps_on : Option Subject → Subject → Bool
keeps_on None y = false
keeps_on (Some x) y = keeps x y
