use Rattle.std.proofs.Common.{rules, ◌≡◌, Ok, ◌∙◌, arith}
use Rattle.std.proofs.lemmas.List.{length-append}
use Rattle.std.proofs.lemmas.Result.{err_from_is_err_and}
use Rattle.reader.proofs.Turns.{turn_ok, turn_stop}
use Rattle.reader.proofs.cursor.Reader.table.Goals as goal

pub returns-in_err-row : goal.returns-in_err-row
returns-in_err-row g c =
    let one = g.T.Row.format c.args.facts in
    let l = c.loop-i in
    let answer = err_from_is_err_and c.from_residual.result c.from_residual.ensures.1 in (
      c.row.ensures.0 ∙ l.invariant.0,
      rw (answer.1, answer.2)
          (turn_stop one l.rows c.args.count l.i-counter l.self.bytes.now l.self.pos c.loop-i-test.true c.row.result c.row.new.reader.pos c.in_err-row.field-0.0 c.row.ensures.1 (search rules) ∙ l.invariant.2),
    )

pub loop-i-preserved : goal.loop-i-preserved
loop-i-preserved g c =
    let one = g.T.Row.format c.args.facts in
    let l = c.loop-i in
    let read : one l.self.bytes.now l.self.pos ≡ Ok (c.in_ok-row.row, c.row.new.reader.pos) = search rules in (
      c.row.ensures.0 ∙ l.invariant.0,
      rw c.push.ensures (length-append l.rows _ ∙ omega (arith, l.invariant.1)),
      rw (c.push.ensures, c.row.ensures.0)
          (turn_ok one l.rows c.args.count l.i-counter l.self.bytes.now l.self.pos c.loop-i-test.true c.in_ok-row.row c.row.new.reader.pos read ∙ l.invariant.2),
    )
