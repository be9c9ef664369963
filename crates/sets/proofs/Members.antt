-- The members of unions, common parts and powers of two.
use Rattle.std.proofs.Common.{◌≡◌, ℕ, zero, suc, ◌*◌, ◌/◌, ◌%◌, ◌^◌, ◌<◌, ◌⊎◌, sym, refl, ap, ◌∙◌, subst, ap₂, inl, inr, ⊎_elim, mod-eq_of_lt, one-mul, pow-suc, one-add, arith, pow_mono, shr-shr}
use native.Mathlib.Nat.{zero-div, div-eq_of_lt}
use lib.Arith.{bin_ind}
use lib.Bits.{bit_and, bit_or, bit_xor, and_shr, or_shr, xor_shr, and_mod, or_mod, xor_mod}
use lib.Pow.{pow-lt}
use Rattle.std.proofs.lemmas.Bool.{cases_lt, cases_eq}
use Rattle.sets.specs.Sets.{In, Part, Meet, without}

abbrev pub digit : ℕ → ℕ → ℕ
digit i s = s / 2 ^ i % 2

-- a digit of two is 0 or 1
pub out_or_in : (i s : ℕ) → (digit i s ≡ 0) ⊎ In i s
out_or_in i s = grind arith

pub nothing_in : (i : ℕ) → In i 0 → ⊥
nothing_in i h = let z : ◌≡◌ {A = ℕ} 0 1 = sym (ap (λ n. n % 2) (zero-div (2 ^ i))) ∙ h in omega arith

-- ---- unions and common parts

or_digit : (i a b : ℕ) → digit i (bit_or a b) ≡ bit_or (digit i a) (digit i b)
or_digit i a b = ap (λ n. n % 2) (or_shr a b i) ∙ or_mod (a / 2 ^ i) (b / 2 ^ i) 1

and_digit : (i a b : ℕ) → digit i (bit_and a b) ≡ bit_and (digit i a) (digit i b)
and_digit i a b = ap (λ n. n % 2) (and_shr a b i) ∙ and_mod (a / 2 ^ i) (b / 2 ^ i) 1

pub in_or : (i a b : ℕ) → In i (bit_or a b) → In i a ⊎ In i b
in_or i a b h =
    ⊎_elim (λ p. ⊎_elim (λ q. let z : ◌≡◌ {A = ℕ} 0 1 = sym (or_digit i a b ∙ ap₂ bit_or p q) ∙ h in absurd (omega arith)) inr (out_or_in i b)) inl (out_or_in i a)

pub or_left : (i a b : ℕ) → In i a → In i (bit_or a b)
or_left i a b h = or_digit i a b ∙ ⊎_elim (λ q. ap₂ bit_or h q) (λ q. ap₂ bit_or h q) (out_or_in i b)

pub or_right : (i a b : ℕ) → In i b → In i (bit_or a b)
or_right i a b h = or_digit i a b ∙ ⊎_elim (λ p. ap₂ bit_or p h) (λ p. ap₂ bit_or p h) (out_or_in i a)

pub in_and : (i a b : ℕ) → In i (bit_and a b) → In i a × In i b
in_and i a b h =
    ⊎_elim (λ p. let z : ◌≡◌ {A = ℕ} 0 1 = ⊎_elim (λ q. sym (and_digit i a b ∙ ap₂ bit_and p q) ∙ h) (λ q. sym (and_digit i a b ∙ ap₂ bit_and p q) ∙ h) (out_or_in i b) in absurd (omega arith))
    (λ p. ⊎_elim (λ q. let z : ◌≡◌ {A = ℕ} 0 1 = sym (and_digit i a b ∙ ap₂ bit_and p q) ∙ h in absurd (omega arith)) (λ q. (p, q)) (out_or_in i b)) (out_or_in i a)

pub and_in : (i a b : ℕ) → In i a → In i b → In i (bit_and a b)
and_in i a b p q = and_digit i a b ∙ ap₂ bit_and p q

xor_digit : (i a b : ℕ) → digit i (bit_xor a b) ≡ bit_xor (digit i a) (digit i b)
xor_digit i a b = ap (λ n. n % 2) (xor_shr a b i) ∙ xor_mod (a / 2 ^ i) (b / 2 ^ i) 1

pub in_without : (i a b : ℕ) → In i (without a b) → In i a × (In i b → ⊥)
in_without i a b h =
    ⊎_elim (λ p. let z : ◌≡◌ {A = ℕ} 0 1 = ⊎_elim (λ q. sym (split p q) ∙ h) (λ q. sym (split p q) ∙ h) (out_or_in i b) in absurd (omega arith))
    (λ p. (p, λ q. let z : ◌≡◌ {A = ℕ} 0 1 = sym (split p q) ∙ h in absurd (omega arith))) (out_or_in i a)
  where
    split : {m n : ℕ} → digit i a ≡ m → digit i b ≡ n → digit i (without a b) ≡ bit_xor m (bit_and m n)
    split p q = xor_digit i a (bit_and a b) ∙ ap₂ bit_xor p (and_digit i a b ∙ ap₂ bit_and p q)

pub without_in : (i a b : ℕ) → In i a → (In i b → ⊥) → In i (without a b)
without_in i a b p out = ⊎_elim (λ q. xor_digit i a (bit_and a b) ∙ ap₂ bit_xor p (and_digit i a b ∙ ap₂ bit_and p q)) (λ q. absurd (out q)) (out_or_in i b)

-- ---- numbers by their members

pub digit_half : (i n : ℕ) → digit (suc i) n ≡ digit i (n / 2)
digit_half i n = sym (ap (λ (x : ℕ). x % 2) (shr-shr n 1 i) ∙ ap (λ (x : ℕ). n / 2 ^ x % 2) (one-add i))

-- a number other than 0 has a member
pub some_member : (n : ℕ) → (n ≡ 0 → ⊥) → (i : ℕ) × In i n
some_member = bin_ind (λ (n : ℕ). (n ≡ 0 → ⊥) → (i : ℕ) × In i n) (λ h. absurd (h refl)) step
  where
    step : (n : ℕ) → ((n / 2 ≡ 0 → ⊥) → (i : ℕ) × In i (n / 2)) → (n ≡ 0 → ⊥) → (i : ℕ) × In i n
    step n ih h =
        ⊎_elim (λ even. let r = ih (λ z. h (omega arith)) in (suc r.0, digit_half r.0 n ∙ r.1)) (λ odd. (0, odd)) (out_or_in 0 n)

-- two sets with the same members are one number
pub same_members : (a b : ℕ) → Part a b → Part b a → a ≡ b
same_members = bin_ind (λ (a : ℕ). (b : ℕ) → Part a b → Part b a → a ≡ b) base step
  where
    base : (b : ℕ) → Part 0 b → Part b 0 → 0 ≡ b
    base b p q = ⊎_elim (λ z. sym z) (λ n. let m = some_member b n in absurd (nothing_in m.0 (q m.0 m.1))) (cases_eq b 0)

    step : (a : ℕ) → ((b : ℕ) → Part (a / 2) b → Part b (a / 2) → a / 2 ≡ b) → (b : ℕ) → Part a b → Part b a → a ≡ b
    step a ih b p q =
        let half = ih (b / 2) (λ i h. sym (digit_half i b) ∙ p (suc i) (digit_half i a ∙ h)) (λ i h. sym (digit_half i a) ∙ q (suc i) (digit_half i b ∙ h)) in
        ⊎_elim (λ x. ⊎_elim (λ y. omega arith) (λ y. let z = q 0 y in omega arith) (out_or_in 0 b)) (λ x. let y = p 0 x in omega arith) (out_or_in 0 a)

-- a member of a number below 2 ^ k is below k
pub in_below : (k i s : ℕ) → s < 2 ^ k → In i s → i < k
in_below k i s h e = ⊎_elim (λ l. l) (λ l. absurd (omega (arith, ap (λ (n : ℕ). n % 2) (div-eq_of_lt {n = s} {m = 2 ^ i} (omega (arith, pow_mono l)))))) (cases_lt i k)

-- ---- the tests of the code

pub part_from : (a b : ℕ) → bit_and a b ≡ a → Part a b
part_from a b e i h = (in_and i a b (subst (λ (n : ℕ). In i n) (sym e) h)).1

pub part_to : (a b : ℕ) → Part a b → bit_and a b ≡ a
part_to a b p = same_members (bit_and a b) a (λ i h. (in_and i a b h).0) (λ i h. and_in i a b h (p i h))

pub meet_from : (a b : ℕ) → (bit_and a b ≡ 0 → ⊥) → Meet a b
meet_from a b n = let m = some_member (bit_and a b) n in let w = in_and m.0 a b m.1 in (m.0, w.0, w.1)

pub meet_to : (a b : ℕ) → Meet a b → bit_and a b ≡ 0 → ⊥
meet_to a b (i, p, q) z = nothing_in i (subst (λ (n : ℕ). In i n) z (and_in i a b p q))

-- ---- sets of one member

pub single_is : (i j : ℕ) → In j (2 ^ i) → j ≡ i
single_is zero zero h = refl
single_is zero (suc j) h = absurd (nothing_in j (sym (digit_half j 1) ∙ h))
single_is (suc i) zero h = absurd (omega (arith, pow-suc 2 i))
single_is (suc i) (suc j) h =
    let half : 2 ^ suc i / 2 ≡ 2 ^ i = omega (arith, pow-suc 2 i) in
    ap suc (single_is i j (sym (ap (digit j) half) ∙ sym (digit_half j (2 ^ suc i)) ∙ h))

pub single_has : (i : ℕ) → In i (2 ^ i)
single_has zero = refl
single_has (suc i) =
    let half : 2 ^ suc i / 2 ≡ 2 ^ i = omega (arith, pow-suc 2 i) in
    digit_half i (2 ^ suc i) ∙ ap (digit i) half ∙ single_has i

-- a one that is shifted
pub shift_is : (i : ℕ) → i < 64 → (1 * 2 ^ i) % 2 ^ 64 ≡ 2 ^ i
shift_is i h = ap (λ (n : ℕ). n % 2 ^ 64) (one-mul (2 ^ i)) ∙ mod-eq_of_lt (pow-lt h)
