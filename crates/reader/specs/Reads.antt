-- What reading a file answers.
use Rattle.std.specs.Prelude.{◌≡◌, ℕ, ◌⊎◌, List, Ok, Err, Result, ◌≢◌}
use Rattle.book.specs.declared.book.Book.{Book}
use Rattle.faults.specs.declared.Fault.{Fault}
use Rattle.book.specs.declared.outline.Outline.{Outline}
use Rattle.book.specs.Views.{task}
use Rattle.faults.specs.Faults.{FirstBroken}
use Rattle.reader.specs.Formats.{outline_of}
use Rattle.reader.specs.Written.{written}

-- the book that the bytes say; or the first field at fault; or, where every field is right, the first fault of the whole book
abbrev pub Reads : List ℕ → Result Book Fault → Type 0
Reads bs (Ok b) = outline_of bs ≡ Ok b.outline
Reads bs (Err f) = (outline_of bs ≡ Err f) ⊎ ((o : Outline) × (outline_of bs ≡ Ok o) × FirstBroken (task o) f)

-- a book is read only from the bytes that write it, and bytes are refused only where no book at all is written as them
abbrev pub Accepts : List ℕ → Result Book Fault → Type 0
Accepts bs (Ok b) = written b.outline ≡ bs
Accepts bs (Err f) = (b : Book) → written b.outline ≢ bs

-- the answer is a book, and says what the outline says
abbrev pub Gives : Outline → Result Book Fault → Type 0
Gives o (Ok b) = b.outline ≡ o
Gives o (Err f) = ⊥
