-- What is printed for what is typed.
use Rattle.std.specs.Prelude.{◌≡◌, ℕ, ◌⊎◌, List, [], ◌∷◌, ◌++◌, take, Ok, Err, Option, Result, ◌≢◌}
use Rattle.model.specs.Tasks.{Task}
use Rattle.faults.specs.declared.Fault.{Fault}
use Rattle.faults.specs.Faults.{fault_number}
use Rattle.londex.specs.declared.refusal.Refusal.{Refusal}
use Rattle.londex.specs.Answers.{AnswersDistance, AnswersGap, number as refusal_number}
use Rattle.lines.specs.declared.command.Command.{Command}
use Rattle.lines.specs.declared.command.Command.TheVariants.{Distance as Ask-distance, Gap as Ask-gap}
use Rattle.lines.specs.declared.command.NotACommand.{NotACommand}
use Rattle.lines.specs.declared.reply.Reply.{Reply}
use Rattle.lines.specs.declared.reply.Reply.TheVariants.{Distance, Gap, No, BookNo}
use Rattle.lines.specs.Commands.{Commands}
use Rattle.lines.specs.Refusals.{number as line-number}
use Rattle.lines.specs.Replies.{text}

-- a refused book is answered by its number
abbrev pub refused_book : Fault → Reply
refused_book f = BookNo (fault_number f)

-- a distance is printed, or the number of its refusal
abbrev pub distance_reply : Result (Option ℕ) Refusal → Reply
distance_reply (Ok far) = Distance far
distance_reply (Err e) = No (refusal_number e)

-- and so is a gap
abbrev pub gap_reply : Result (Option ℕ) Refusal → Reply
gap_reply (Ok gap) = Gap gap
gap_reply (Err e) = No (refusal_number e)

-- what a command is answered
abbrev pub Answers : Task → Command → Reply → Type 0
Answers b (Ask-distance v w) reply = (r : Result (Option ℕ) Refusal) × AnswersDistance b v w r × (reply ≡ distance_reply r)
Answers b (Ask-gap a c) reply = (r : Result (Option ℕ) Refusal) × AnswersGap b a c r × (reply ≡ gap_reply r)

-- the same of a line that was read; one that writes no command gets its number
abbrev pub Said : Task → Result Command NotACommand → Reply → Type 0
Said b (Ok c) reply = Answers b c reply
Said b (Err e) reply = reply ≡ No (line-number e)

-- what a line is answered
abbrev pub Replies : Task → List ℕ → Reply → Type 0
Replies b line reply = (r : Result Command NotACommand) × Commands line r × Said b r reply

-- while the bytes come in behind an unfinished line: what is printed, and the line that is then unfinished. A line feed
-- ends a line, and its answer is printed with one
pub data Prints (b : Task) : (line bytes printed left : List ℕ) → Type 0 where
  waits : {line : List ℕ} → Prints b line [] [] line
  goes_on : {line bytes printed left : List ℕ} (x : ℕ) → (x ≢ 10) → Prints b (line ++ (x ∷ [])) bytes printed left → Prints b line (x ∷ bytes) printed left
  answers : {line bytes printed left : List ℕ} (reply : Reply) → Replies b line reply → Prints b [] bytes printed left → Prints b line (10 ∷ bytes) (text reply ++ (10 ∷ printed)) left

-- one byte: it goes behind what is kept of the line, or it ends the line
abbrev pub Takes : Task → (x : ℕ) → (before after out printed : List ℕ) → Type 0
Takes b x before after out printed =
    ((x ≢ 10) × (after ≡ take 16 (before ++ (x ∷ []))) × (printed ≡ out))
    ⊎ ((x ≡ 10) × (after ≡ []) × ((reply : Reply) × Replies b before reply × (printed ≡ out ++ (text reply ++ (10 ∷ [])))))

-- at the end a line that is not empty is answered as if it were ended
abbrev pub Last : Task → List ℕ → List ℕ → Type 0
Last b line printed = ((line ≡ []) × (printed ≡ [])) ⊎ ((line ≢ []) × ((reply : Reply) × Replies b line reply × (printed ≡ text reply ++ (10 ∷ []))))

-- what is printed for the whole input
abbrev pub Whole : Task → List ℕ → List ℕ → Type 0
Whole b input output = (printed line rest : List ℕ) × Prints b [] input printed line × Last b line rest × (output ≡ printed ++ rest)

-- this was printed for what was typed, and of the unfinished line the first 16 bytes are kept
abbrev pub Follows : Task → (kept typed printed : List ℕ) → Type 0
Follows b kept typed printed = (line : List ℕ) × Prints b [] typed printed line × (take 16 line ≡ kept)
