-- A set of 64 bits against the number of facts.
use Rattle.std.proofs.Common.{◌≡◌, ℕ, ◌+◌, ◌*◌, ◌/◌, ◌^◌, ◌<◌, ◌≤◌, List, length, Ok, ap, ◌∙◌, zero-mul, arith, pow_pos, pow_mono}
use native.Mathlib.Nat.{lt-div-mul-add}
use Rattle.std.proofs.lemmas.Bool.{lt-ltb, le-ltb, ne_eqb}
use Rattle.faults.specs.declared.FieldFault.{FieldFault}
use Rattle.reader.specs.Formats.{Read, word, read_set}

pub low_from_shift : (s k : ℕ) → s / 2 ^ k ≡ 0 → s < 2 ^ k
low_from_shift s k z =
    let none : s / 2 ^ k * 2 ^ k ≡ 0 = ap (λ (n : ℕ). n * 2 ^ k) z ∙ zero-mul (2 ^ k) in
    omega (arith, lt-div-mul-add {a = s} {b = 2 ^ k} (pow_pos k))

pub low_from_width : (s k : ℕ) → s < 2 ^ 64 → 64 ≤ k → s < 2 ^ k
low_from_width s k h l = omega (arith, pow_mono l)

module _ (facts : ℕ) (bs : List ℕ) (p s : ℕ) (whole : p + 8 ≤ length bs) (is : s ≡ word bs p) (some : s ≡ 0 → ⊥) where
  pub set_known : s < 2 ^ facts → ◌≡◌ {A = Read ℕ FieldFault} (Ok (s, p + 8)) (read_set facts bs p)
  set_known l = rw (le-ltb (length bs) (p + 8) whole, ← is, ne_eqb s 0 some, lt-ltb s (2 ^ facts) l)
