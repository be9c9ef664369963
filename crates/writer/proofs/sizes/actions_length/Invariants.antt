use Rattle.std.proofs.Common.{◌≡◌, length, take}
use Rattle.std.specs.List.{flat_map}
use Rattle.reader.specs.Written.{action_bytes}
use Rattle.writer.proofs.sizes.actions_length.Given as goal

-- the length of the records so far
abbrev pub invariant-loop-a : goal.invariant-loop-a
invariant-loop-a l = l.sum ≡ length (flat_map action_bytes (take l.a-index l.actions))
