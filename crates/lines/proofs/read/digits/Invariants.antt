use Rattle.std.proofs.Common.{◌≡◌, ℕ, ◌^◌, ◌<◌, get_or, drop}
use Rattle.std.specs.Int.{IsInRange}
use Rattle.lines.proofs.Numbers.{read_on}
use Rattle.lines.proofs.read.digits.Given as goal

abbrev pub invariant-loop-b : goal.invariant-loop-b
invariant-loop-b l =
    (read_on l.n (drop l.b-index l.s) ≡ read_on 0 l.s)
    × ((k : ℕ) → k < l.b-index → IsInRange 48 57 (get_or l.s k 0))
    × (l.n < 10 ^ l.b-index)
