-- What the first byte of a line says of the command that it writes, and what a reader's answer says.
use Rattle.std.proofs.Common.{◌≡◌, ℕ, true, List, [], ◌∷◌, length, get_or, drop, is_err, Ok, Err, Result, sym, refl, ap, ◌∙◌, subst, arith}
use Rattle.std.proofs.lemmas.Bool.{false≢true}
use Rattle.lines.specs.declared.command.Command.{Command}
use Rattle.lines.specs.declared.command.Command.TheVariants.{Distance, Gap}
use Rattle.lines.specs.declared.command.NotACommand.{NotACommand}
use Rattle.lines.specs.Commands.{letter, numbers, Spaced, Writes, Reads}

pub refused : {X : Type 0} (P : X → Type 0) (r : Result X NotACommand) → is_err r ≡ true → ((x : X) → P x → ⊥) → Reads P r
refused P (Ok x) e none = absurd (false≢true e)
refused P (Err y) e none = none

-- how many numbers follow a letter
abbrev count : ℕ → ℕ
count l = 2

counted : (c : Command) → length (numbers c) ≡ count (letter c)
counted (Distance a b) = refl
counted (Gap a b) = refl

pub two : (ns : List ℕ) → length ns ≡ 2 → (p : ℕ × ℕ) × (ns ≡ p.0 ∷ p.1 ∷ [])
two [] e = absurd (omega arith)
two (a ∷ []) e = absurd (omega arith)
two (a ∷ b ∷ []) e = ((a, b), refl)
two (a ∷ b ∷ d ∷ ns) e = absurd (omega arith)

-- a line of the byte b, with t after it
module _ (s : List ℕ) (b : ℕ) (t : List ℕ) (is : s ≡ b ∷ t) where
  first_byte : (c : Command) → Writes s c → b ≡ letter c
  first_byte c w = ap (λ l. get_or l 0 0) (sym is ∙ w.1)

  numbered : (c : Command) → Writes s c → Spaced t (numbers c)
  numbered c w = (w.0, ap (drop 1) (sym is ∙ w.1))

  -- the letter l takes k numbers, which would be some f x, and no f x follows it
  pub no_command : {X : Type 0} (f : X → List ℕ) (k l : ℕ) → ((ns : List ℕ) → length ns ≡ k → (x : X) × (ns ≡ f x)) → count l ≡ k → b ≡ l
      → ((x : X) → Spaced t (f x) → ⊥) → (c : Command) → Writes s c → ⊥
  no_command f k l all n e none c w =
      let x = all (numbers c) (counted c ∙ ap count (sym (first_byte c w) ∙ e) ∙ n) in
      none x.0 (subst (Spaced t) x.1 (numbered c w))
