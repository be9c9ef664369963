-- Lists of bounded length, as they lie in an array.
use Rattle.std.specs.Prelude.{◌≡◌, ℕ, ◌-◌, ◌≤◌, List, ◌++◌, length, take, replicate}
use Rattle.std.proofs.Common.{sym, arith}
use Rattle.std.proofs.lemmas.List.{length-take-le}

-- so many places, those past the list blank
abbrev pub filled_up : {A : Type 0} → ℕ → A → List A → List A
filled_up n blank xs = xs ++ replicate (n - length xs) blank

module _ {A : Type 0} (n : ℕ) (blank : A) where
  -- a row of places that are blank past the front gives the front back, and the front the row
  pub restores : (len : ℕ) (slots : List A) → length slots ≡ n → len ≤ n → slots ≡ filled_up n blank (take len slots) → (filled_up n blank (take len slots) ≡ slots) × (length (take len slots) ≡ len)
  restores len slots full fits is = (sym is, length-take-le len slots (omega (arith, full, fits)))
