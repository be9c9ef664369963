use Rattle.std.proofs.Common.{◌≡◌, length}
use Rattle.bench.proofs.serve.Given as goal

abbrev pub invariant-loop : goal.invariant-loop
invariant-loop l = length l.block ≡ 4096
