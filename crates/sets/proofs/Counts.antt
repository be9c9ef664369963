-- The number of members of a set.
use Rattle.std.proofs.Common.{◌≡◌, ℕ, zero, suc, ◌/◌, ◌%◌, ◌<◌, ◌≤◌, sym, refl, ap, ◌∙◌, subst, ⊎_elim, arith}
use lib.Arith.{bin_ind}
use lib.Bits.{bit_and}
use lib.Count.{ones, ones_step}
use Rattle.std.proofs.lemmas.Bool.{cases_eq}
use Rattle.sets.specs.Sets.{In, Part, One, AtMostOne}
use Rattle.sets.proofs.Members.{out_or_in, nothing_in, digit_half, some_member, in_and, and_in}

-- a part has no more members, and as many only where it is the whole
pub ones_part : (b a : ℕ) → Part a b → (ones a ≤ ones b) × (ones a ≡ ones b → a ≡ b)
ones_part = bin_ind (λ (b : ℕ). (a : ℕ) → Part a b → (ones a ≤ ones b) × (ones a ≡ ones b → a ≡ b)) base step
  where
    base : (a : ℕ) → Part a 0 → (ones a ≤ ones 0) × (ones a ≡ ones 0 → a ≡ 0)
    base a part = ⊎_elim (λ z. (omega (arith, ap ones z), λ _. z)) (λ n. let m = some_member a n in absurd (nothing_in m.0 (part m.0 m.1))) (cases_eq a 0)

    step : (b : ℕ) → ((a : ℕ) → Part a (b / 2) → (ones a ≤ ones (b / 2)) × (ones a ≡ ones (b / 2) → a ≡ b / 2)) → (a : ℕ) → Part a b → (ones a ≤ ones b) × (ones a ≡ ones b → a ≡ b)
    step b ih a part =
        let r = ih (a / 2) (λ i h. sym (digit_half i b) ∙ part (suc i) (digit_half i a ∙ h)) in
        let low : a % 2 ≤ b % 2 = ⊎_elim (λ e. omega arith) (λ e. omega (arith, part 0 e)) (out_or_in 0 a) in
        (omega (arith, ones_step a, ones_step b, r.0), λ e. let half : ones (a / 2) ≡ ones (b / 2) = omega (arith, ones_step a, ones_step b, r.0) in omega (arith, ones_step a, ones_step b, r.1 half))

pub ones_more : (a b : ℕ) → Part a b → (b ≡ a → ⊥) → ones a < ones b
ones_more a b part differ =
    let r = ones_part b a part in
    ⊎_elim (λ e. absurd (differ (sym (r.1 e)))) (λ ne. omega (arith, r.0)) (cases_eq (ones a) (ones b))

pub ones_some : (n i : ℕ) → In i n → 0 < ones n
ones_some n i h =
    let part : Part 0 n = λ j k. absurd (nothing_in j k) in
    let m = ones_more 0 n part (λ e. nothing_in i (subst (λ (k : ℕ). In i k) e h)) in omega arith

-- ---- at most one

abbrev Sole : ℕ → Type 0
Sole n = (i j : ℕ) → In i n → In j n → i ≡ j

sole_from : (n : ℕ) → ones n ≤ 1 → Sole n
sole_from = bin_ind (λ (n : ℕ). ones n ≤ 1 → Sole n) (λ h i j p q. absurd (nothing_in i p)) step
  where
    step : (n : ℕ) → (ones (n / 2) ≤ 1 → Sole (n / 2)) → ones n ≤ 1 → Sole n
    step n ih h zero zero p q = refl
    step n ih h zero (suc j) p q = absurd (omega (arith, ones_step n, ones_some (n / 2) j (sym (digit_half j n) ∙ q)))
    step n ih h (suc i) zero p q = absurd (omega (arith, ones_step n, ones_some (n / 2) i (sym (digit_half i n) ∙ p)))
    step n ih h (suc i) (suc j) p q = ap suc (ih (omega (arith, ones_step n)) i j (sym (digit_half i n) ∙ p) (sym (digit_half j n) ∙ q))

ones_0 : ones 0 ≡ 0
unfolding ones
ones_0 = refl

sole_to : (n : ℕ) → Sole n → ones n ≤ 1
sole_to = bin_ind (λ (n : ℕ). Sole n → ones n ≤ 1) (λ s. omega (arith, ones_0)) step
  where
    step : (n : ℕ) → (Sole (n / 2) → ones (n / 2) ≤ 1) → Sole n → ones n ≤ 1
    step n ih s =
        ⊎_elim
        (λ even. omega (arith, ones_step n, ih (λ i j p q. let e : suc i ≡ suc j = s (suc i) (suc j) (digit_half i n ∙ p) (digit_half j n ∙ q) in omega arith)))
        (λ odd. let z : n / 2 ≡ 0 = ⊎_elim (λ e. e) (λ ne. let m = some_member (n / 2) ne in absurd (let e : 0 ≡ suc m.0 = s 0 (suc m.0) odd (digit_half m.0 n ∙ m.1) in omega arith)) (cases_eq (n / 2) 0) in
        omega (arith, ones_step n, ap ones z, ones_0))
        (out_or_in 0 n)

-- ---- the tests of the code

pub few_from : (a b : ℕ) → ones (bit_and a b) ≤ 1 → AtMostOne a b
few_from a b h i j p q r s = sole_from (bit_and a b) h i j (and_in i a b p q) (and_in j a b r s)

pub few_to : (a b : ℕ) → AtMostOne a b → ones (bit_and a b) ≤ 1
few_to a b few = sole_to (bit_and a b) (λ i j p q. let x = in_and i a b p in let y = in_and j a b q in few i j x.0 x.1 y.0 y.1)

pub one_from : (a b : ℕ) → ones (bit_and a b) ≡ 1 → One a b
one_from a b h =
    let m = some_member (bit_and a b) (λ z. let o : ones (bit_and a b) ≡ 0 = ap ones z ∙ ones_0 in omega arith) in
    let w = in_and m.0 a b m.1 in
    (m.0, w.0, w.1, λ j p q. few_from a b (omega arith) j m.0 p q w.0 w.1)

pub one_to : (a b : ℕ) → One a b → ones (bit_and a b) ≡ 1
one_to a b (i, p, q, only) =
    omega (arith, ones_some (bit_and a b) i (and_in i a b p q), few_to a b (λ j k s t u v. only j s t ∙ sym (only k u v)))
