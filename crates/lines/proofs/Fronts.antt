-- A line is told by its first 16 bytes.
use Rattle.std.proofs.Common.{◌≡◌, ℕ, ◌*◌, ◌≤◌, List, [], ◌∷◌, ◌++◌, length, take, Ok, Err, decimal, Result, sym, ap, ◌∙◌, ⊎_elim, arith}
use Rattle.std.proofs.lemmas.Fmt.{length-decimal-le}
use Rattle.std.proofs.lemmas.List.{length-append, length-take-le, take_all, take-take, take-append-le}
use Rattle.std.proofs.lemmas.Bool.{cases_lt}
use Rattle.lines.specs.declared.command.Command.{Command}
use Rattle.lines.specs.declared.command.Command.TheVariants.{Distance, Gap}
use Rattle.lines.specs.declared.command.NotACommand.{NotACommand}
use Rattle.lines.specs.Commands.{numbers, spaced, Short, Writes, Commands}

length-spaced : (ns : List ℕ) → Short ns → length (spaced ns) ≤ 6 * length ns
length-spaced [] h = omega arith
length-spaced (n ∷ ns) (h, hs) =
    let low : length (decimal n) ≤ 5 = length-decimal-le 5 n (omega arith) h (omega arith) in
    omega (arith, length-append (decimal n) (spaced ns), length-spaced ns hs)

few : (c : Command) → length (numbers c) ≤ 2
few (Distance a b) = omega arith
few (Gap a b) = omega arith

short : (s : List ℕ) (c : Command) → Writes s c → length s ≤ 13
short s c w = omega (arith, ap length w.1, length-spaced (numbers c) w.0, few c)

whole : (s : List ℕ) → length (take 16 s) ≤ 13 → take 16 s ≡ s
whole s l =
    ⊎_elim (λ long. absurd (omega (arith, length-take-le 16 s (omega arith)))) (λ h. take_all 16 s h) (cases_lt 16 (length s))

pub front_commands : (s : List ℕ) (r : Result Command NotACommand) → Commands (take 16 s) r → Commands s r
front_commands s (Ok c) w = (w.0, sym (whole s (short (take 16 s) c w)) ∙ w.1)
front_commands s (Err e) none = λ c w. none c (w.0, take_all 16 s (omega (arith, short s c w)) ∙ w.1)

pub take_push : (s : List ℕ) (b : ℕ) → take 16 (take 16 s ++ (b ∷ [])) ≡ take 16 (s ++ (b ∷ []))
take_push s b =
    ⊎_elim
    (λ long. take-append-le 16 (take 16 s) (b ∷ []) (omega (arith, length-take-le 16 s (omega arith))) ∙ take-take 16 16 s (omega arith) ∙ sym (take-append-le 16 s (b ∷ []) (omega arith)))
    (λ h. ap (λ l. take 16 (l ++ (b ∷ []))) (take_all 16 s h))
    (cases_lt 16 (length s))
