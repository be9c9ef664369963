-- The members of differences and complements, and the least member of a set.
use Rattle.std.proofs.Common.{◌≡◌, ℕ, zero, suc, ◌-◌, ◌*◌, ◌/◌, ◌%◌, ◌^◌, ◌<◌, sym, refl, ap, ◌∙◌, subst, ap₂, ⊎_elim, pow-suc, arith, pow_pos}
use lib.Bits.{bit_xor, xor_shr, xor_mod, and_comm, xor_add_and}
use lib.Count.{count_trailing_zeros, under}
use Rattle.sets.specs.Sets.{In, Part, Splits}
use Rattle.sets.proofs.Members.{digit, out_or_in, nothing_in, digit_half, part_to, in_below, single_is, single_has, shift_is}

-- ---- a member of one of two sets

xor_digit : (i a b : ℕ) → digit i (bit_xor a b) ≡ bit_xor (digit i a) (digit i b)
xor_digit i a b = ap (λ n. n % 2) (xor_shr a b i) ∙ xor_mod (a / 2 ^ i) (b / 2 ^ i) 1

xor_in : (i a b : ℕ) → In i a → (In i b → ⊥) → In i (bit_xor a b)
xor_in i a b p q = xor_digit i a b ∙ ⊎_elim (λ z. ap₂ bit_xor p z) (λ h. absurd (q h)) (out_or_in i b)

in_xor : (i a b : ℕ) → Part b a → In i (bit_xor a b) → In i a × (In i b → ⊥)
in_xor i a b part h =
    ⊎_elim
    (λ z. ⊎_elim
    (λ y. let e : ◌≡◌ {A = ℕ} 0 1 = sym (xor_digit i a b ∙ ap₂ bit_xor y z) ∙ h in absurd (omega arith))
    (λ y. (y, λ k. omega arith))
    (out_or_in i a))
    (λ k. let e : ◌≡◌ {A = ℕ} 0 1 = sym (xor_digit i a b ∙ ap₂ bit_xor (part i k) k) ∙ h in absurd (omega arith))
    (out_or_in i b)

-- ---- a set without one member

pub splits : (s i : ℕ) → i < 64 → In i s → Splits s i (bit_xor s ((1 * 2 ^ i) % 2 ^ 64))
splits s i l h = subst (λ (n : ℕ). Splits s i (bit_xor s n)) (sym (shift_is i l)) (record {
  below = l;
  member = h;
  others = record {
    only = λ j k. let r = in_xor j s (2 ^ i) part k in (r.0, λ e. r.1 (subst (λ (n : ℕ). In n (2 ^ i)) (sym e) (single_has i)));
    all = λ j k. xor_in j s (2 ^ i) k.0 (λ m. k.1 (single_is i j m));
  };
  less = omega (arith, xor_add_and s (2 ^ i), and_comm s (2 ^ i), part_to (2 ^ i) s part, pow_pos i);
})
  where
    part : Part (2 ^ i) s
    part j k = subst (λ (n : ℕ). In n s) (sym (single_is i j k)) h

-- ---- the least member

lowest_in : (n t d : ℕ) → n % 2 ≡ d → (n % 2 ≡ 0 → In t (n / 2)) → In (under d t) n
lowest_in n t zero e h = digit_half t n ∙ h e
lowest_in n t (suc d) e h = omega arith

pub trailing_in : (k n : ℕ) → (n ≡ 0 → ⊥) → n < 2 ^ k → In (count_trailing_zeros k n) n
unfolding count_trailing_zeros
trailing_in zero n some l = absurd (some (omega arith))
trailing_in (suc k) n some l =
    lowest_in n (count_trailing_zeros k (n / 2)) (n % 2) refl (λ even. trailing_in k (n / 2) (λ z. some (omega arith)) (omega (arith, pow-suc 2 k)))

-- the least member taken out
pub taken : (s : ℕ) → (s ≡ 0 → ⊥) → s < 2 ^ 64 → Splits s (count_trailing_zeros 64 s) (bit_xor s ((1 * 2 ^ count_trailing_zeros 64 s) % 2 ^ 64))
taken s some fits =
    let here : In (count_trailing_zeros 64 s) s = trailing_in 64 s some fits in
    splits s (count_trailing_zeros 64 s) (in_below 64 _ s fits here) here

-- ---- complements

not_half : (k s : ℕ) → ((2 ^ suc k - 1) - s) / 2 ≡ (2 ^ k - 1) - s / 2
not_half k s = omega (arith, pow-suc 2 k, pow_pos k)

pub in_not : (k i s : ℕ) → In i ((2 ^ k - 1) - s) → In i s → ⊥
in_not zero i s h q = nothing_in i (subst (λ (n : ℕ). In i n) (omega arith) h)
in_not (suc k) zero s h q = omega (arith, pow-suc 2 k)
in_not (suc k) (suc i) s h q = in_not k i (s / 2) (sym (ap (digit i) (not_half k s)) ∙ sym (digit_half i _) ∙ h) (sym (digit_half i s) ∙ q)

pub not_in : (k i s : ℕ) → i < k → s < 2 ^ k → (In i s → ⊥) → In i ((2 ^ k - 1) - s)
not_in zero i s l fits q = absurd (omega arith)
not_in (suc k) zero s l fits q = ⊎_elim (λ z. omega (arith, pow-suc 2 k)) (λ h. absurd (q h)) (out_or_in 0 s)
not_in (suc k) (suc i) s l fits q =
    digit_half i _ ∙ ap (digit i) (not_half k s) ∙ not_in k i (s / 2) (omega arith) (omega (arith, pow-suc 2 k)) (λ h. q (digit_half i s ∙ h))
