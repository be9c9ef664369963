use Rattle.std.proofs.Common.{◌≡◌, ◌++◌, take}
use Rattle.std.specs.List.{flat_map}
use Rattle.writer.proofs.file.put_rows.Given as goal

-- the records so far stand behind what stood before
abbrev pub invariant-loop-row : goal.invariant-loop-row
invariant-loop-row g l = l.file ≡ l.initial.file ++ flat_map g.T.Row.format (take l.row-index l.rows)
