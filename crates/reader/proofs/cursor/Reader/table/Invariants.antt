use Rattle.std.proofs.Common.{◌≡◌, ◌-◌, length}
use Rattle.reader.specs.Formats.{read_many}
use Rattle.reader.proofs.Turns.{onto}
use Rattle.reader.proofs.cursor.Reader.table.Given as goal

-- what is left from here, behind the rows so far, is what the whole gives from the start
abbrev pub invariant-loop-i : goal.invariant-loop-i
invariant-loop-i g l =
    let one = g.T.Row.format l.facts in
    (l.self.bytes.now ≡ l.initial.self.bytes.now)
    × (length l.rows ≡ l.i-counter)
    × (onto l.rows (read_many one (l.count - l.i-counter) l.i-counter l.self.bytes.now l.self.pos)
    ≡ read_many one l.count 0 l.initial.self.bytes.now l.initial.self.pos)
