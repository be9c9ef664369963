use Rattle.std.proofs.Common.{rules, ◌≡◌, ◌≤◌, ◌+◌, ◌^◌, ◌<◌, length, refl}
use Rattle.reader.specs.Formats.{word}
use Rattle.reader.proofs.Widths.{set_known, low_from_shift, low_from_width}
use Rattle.reader.proofs.cursor.Reader.set.Goals as goal
use Rattle.reader.proofs.cursor.Reader.set.Goals.{else-facts-lt64-via-then-facts-lt64+else-s-facts-ne0, else-facts-lt64-via-else-facts-lt64}

pub returns : goal.returns
returns c =
    let bs = c.args.self.now.bytes.now in
    let p = c.args.self.now.pos in
    let s = c.from_le_bytes-s.result in
    let low : s < 2 ^ c.args.facts =
    elim c.else-facts-lt64.branch [
      | else-facts-lt64-via-then-facts-lt64+else-s-facts-ne0 w ↦ low_from_shift _ c.args.facts w.if-s-facts-ne0.false
      | else-facts-lt64-via-else-facts-lt64 w ↦ low_from_width c.from_le_bytes-s.result c.args.facts c.from_le_bytes-s.type_inv w.if-facts-lt64.false
    ] in
    let whole : p + 8 ≤ length bs = search rules in
    let is : s ≡ word bs p = search rules in
    (refl, set_known c.args.facts bs p s whole is c.if-s-eq0.false low)
