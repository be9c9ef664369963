-- Which bytes write a command.
use Rattle.std.specs.Prelude.{◌≡◌, ℕ, ◌<◌, List, [], ◌∷◌, ◌++◌, Ok, Err, codes, decimal, Result}
use Rattle.std.specs.List.{flat_map, AllByRecursion}
use Rattle.lines.specs.declared.command.Command.{Command}
use Rattle.lines.specs.declared.command.Command.TheVariants.{Distance, Gap}
use Rattle.lines.specs.declared.command.NotACommand.{NotACommand}

-- the code of a command's letter: `d` and `g`
abbrev pub letter : Command → ℕ
letter (Distance a b) = 100
letter (Gap a b) = 103

-- the numbers that follow the letter
abbrev pub numbers : Command → List ℕ
numbers (Distance a b) = a ∷ b ∷ []
numbers (Gap a b) = a ∷ b ∷ []

-- s is the number n, of at most five digits
abbrev pub Decimal : List ℕ → ℕ → Type 0
Decimal s n = (n < 100000) × (s ≡ decimal n)

-- each number with a space in front
abbrev pub spaced : List ℕ → List ℕ
spaced ns = flat_map (λ n. codes " " ++ decimal n) ns

-- each number has at most five digits
abbrev pub Short : List ℕ → Type 0
Short ns = AllByRecursion (λ n. n < 100000) ns

-- s is the numbers ns, each with a space in front and of at most five digits
abbrev pub Spaced : List ℕ → List ℕ → Type 0
Spaced s ns = Short ns × (s ≡ spaced ns)

-- the bytes s write the command c
abbrev pub Writes : List ℕ → Command → Type 0
Writes s c = Short (numbers c) × (s ≡ letter c ∷ spaced (numbers c))

-- r is a value that has P, or a refusal where no value has it
abbrev pub Reads : {X : Type 0} → (X → Type 0) → Result X NotACommand → Type 0
Reads P (Ok x) = P x
Reads {X} P (Err e) = (x : X) → P x → ⊥

-- r is the command that the bytes s write, or a refusal where they write none
abbrev pub Commands : List ℕ → Result Command NotACommand → Type 0
Commands s r = Reads (Writes s) r
