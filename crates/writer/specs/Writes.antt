-- What writing a book leaves.
use Rattle.std.specs.Prelude.{◌≡◌, ℕ, ◌<◌, List, ◌++◌, length, take, drop, Ok, Err, Result}
use Rattle.faults.specs.declared.Fault.{Fault}
use Rattle.book.specs.declared.book.Book.{Book}
use Rattle.book.specs.declared.outline.Outline.{Outline}
use Rattle.reader.specs.Written.{written}
use Rattle.reader.specs.Reads.{Reads, Gives}
use Rattle.writer.specs.declared.refusal.Refusal.{Refusal}
use Rattle.writer.specs.declared.refusal.Refusal.TheVariants.{TooShort}

-- the number that a refused write is refused by
abbrev pub refusal_number : Refusal → ℕ
refusal_number TooShort = 31

-- the file stands in front and the bytes past it are untouched; or the file is longer, and nothing is written
abbrev pub Writes : Outline → List ℕ → Result ℕ Refusal → List ℕ → Type 0
Writes o before (Ok n) after = (n ≡ length (written o)) × (after ≡ written o ++ drop n before)
Writes o before (Err TooShort) after = (length before < length (written o)) × (after ≡ before)

-- where the file was written, reading it gives the same book
abbrev pub ReadsBack : Outline → Result ℕ Refusal → List ℕ → Type 0
ReadsBack o (Ok n) after = (r : Result Book Fault) → Reads (take n after) r → Gives o r
ReadsBack o (Err e) after = Unit {0}
