use Rattle.std.specs.Prelude.{ℕ}
use Rattle.lines.specs.declared.command.NotACommand.{NotACommand}

-- the number of a refusal
abbrev pub number : NotACommand → ℕ
number e = 30
