use Rattle.std.specs.Prelude.{ℕ, List, ◌++◌, Some, None, codes, decimal, Option}
use Rattle.lines.specs.declared.reply.Reply.{Reply}
use Rattle.lines.specs.declared.reply.Reply.TheVariants.{Distance, Gap, No, BookNo}

-- a number that may be never
abbrev pub number_or_never : Option ℕ → List ℕ
number_or_never (Some n) = decimal n
number_or_never None = codes "never"

-- the bytes of a reply, without its line feed
abbrev pub text : Reply → List ℕ
text (Distance far) = number_or_never far
text (Gap gap) = number_or_never gap
text (No n) = codes "no " ++ decimal n
text (BookNo n) = codes "book no " ++ decimal n
