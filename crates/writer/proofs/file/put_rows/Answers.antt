use Rattle.std.proofs.Common.{length, take, ap, arith}
use Rattle.std.specs.List.{flat_map}
use Rattle.std.proofs.lemmas.List.{length-append}
use Rattle.writer.proofs.Lengths.{joined_room}
use Rattle.writer.proofs.file.put_rows.Goals as goal

pub put-requires : goal.put-requires
put-requires g c =
    let l = c.loop-row in
    let bytes = g.T.Row.format in
    let rows = c.args.rows.now in
    let room = joined_room bytes rows l.row-index c.row-item.result c.loop-row-test.true in
    let row = ap (λ (x : g.row.T.Denot). length (bytes x)) c.row-item.is in
    omega (arith, c.requires, room, row, ap length l.invariant, length-append c.args.file.now (flat_map bytes (take l.row-index rows)))
