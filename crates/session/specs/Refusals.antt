-- The number of each refusal of a line.
use Rattle.std.specs.Prelude.{ℕ, Ok, Err, Result}
use Rattle.lines.specs.Refusals.{number as line_number}
use Rattle.lines.specs.declared.reply.Reply.{Reply}
use Rattle.lines.specs.declared.reply.Reply.TheVariants.{No}
use Rattle.londex.specs.Answers.{number as question_number}
use Rattle.session.specs.declared.refusal.Refusal.{Refusal}
use Rattle.session.specs.declared.refusal.Refusal.TheVariants.{Line, Question}

abbrev pub number : Refusal → ℕ
number (Line e) = line_number e
number (Question e) = question_number e

-- a refusal is replied to by its number
abbrev pub said : Result Reply Refusal → Reply
said (Ok reply) = reply
said (Err e) = No (number e)
