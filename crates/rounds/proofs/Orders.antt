-- Sets in the order of their numbers.
use Rattle.std.proofs.Common.{◌≡◌, ℕ, suc, ◌+◌, ◌*◌, ◌/◌, ◌%◌, ◌^◌, ◌<◌, ◌≤◌, Some, Option, sym, ap, ◌∙◌, subst, ⊎_elim, mod-lt, pow-suc, arith, pow_pos, shr-shr}
use Rattle.std.specs.Option.{IfSome}
use lib.Bits.{and_le_r}
use lib.Pow.{shr_mono, split}
use Rattle.std.proofs.lemmas.Nat.{div_below, le-div}
use Rattle.std.proofs.lemmas.Bool.{cases_lt, cases_eq}
use Rattle.sets.specs.Sets.{In, Part, without}
use Rattle.sets.proofs.Members.{digit, out_or_in, digit_half, some_member, same_members, in_below, in_without, part_to, single_has, shift_is}

pub part_le : (a b : ℕ) → Part a b → a ≤ b
part_le a b part = omega (arith, part_to a b part, and_le_r a b)

pub without_le : (a b : ℕ) → without a b ≤ a
without_le a b = part_le (without a b) a (λ j h. (in_without j a b h).0)

-- a set whose members are below k is a number below 2 ^ k
pub all_below : (k s : ℕ) → ((i : ℕ) → In i s → i < k) → s < 2 ^ k
all_below k s all = ⊎_elim (λ l. l) (λ l. absurd (high l)) (cases_lt s (2 ^ k))
  where
    high : 2 ^ k ≤ s → ⊥
    high l =
        let m = some_member (s / 2 ^ k) (λ z. omega (arith, split s k, mod-lt s (pow_pos k), ap (λ (n : ℕ). n * 2 ^ k) z)) in
        let less = all (k + m.0) (ap (λ (n : ℕ). n % 2) (sym (shr-shr s k m.0)) ∙ m.1) in
        omega arith

-- of two sets with the same members above i, the one without i comes first
pub ascends : (i q r : ℕ) → ((j : ℕ) → i < j → In j q → In j r) → ((j : ℕ) → i < j → In j r → In j q) → (In i q → ⊥) → In i r → q < r
ascends i q r there back out here =
    ⊎_elim (λ less. less) (λ more. ⊎_elim (λ z. absurd (omega (arith, shr_mono i more, same))) (λ h. absurd (out h)) (out_or_in i q)) (cases_lt q r)
  where
    above : (n j : ℕ) → digit j (n / 2 ^ i / 2) ≡ digit (i + suc j) n
    above n j = sym (digit_half j (n / 2 ^ i)) ∙ ap (λ (m : ℕ). m % 2) (shr-shr n i (suc j))

    same : q / 2 ^ i / 2 ≡ r / 2 ^ i / 2
    same =
        same_members (q / 2 ^ i / 2) (r / 2 ^ i / 2) (λ j h. above r j ∙ there (i + suc j) (omega arith) (sym (above q j) ∙ h)) (λ j h. above q j ∙ back (i + suc j) (omega arith) (sym (above r j) ∙ h))

-- i is the greatest member of s
pub record Highest (s i : ℕ) : Type 0 where
  pub small : i < 64
  pub here : In i s
  pub most : (j : ℕ) → In j s → j ≤ i

-- the logarithm of a set is its greatest member
pub highest_is : (s i : ℕ) {r : Option ℕ} → r ≡ Some i → IfSome r (λ k. 2 ^ k ≤ s) → IfSome r (λ k. s < 2 * 2 ^ k) → IfSome r (λ k. k < 64) → Highest s i
highest_is s i is above below small =
    let a : 2 ^ i ≤ s = subst (λ o. IfSome o (λ k. 2 ^ k ≤ s)) is above in
    let b : s < 2 * 2 ^ i = subst (λ o. IfSome o (λ k. s < 2 * 2 ^ k)) is below in
    record {
      small = subst (λ o. IfSome o (λ k. k < 64)) is small;
      here = omega (arith, le-div 1 s (2 ^ i) (pow_pos i) (omega (arith, a)), div_below s (2 ^ i) 2 (pow_pos i) b);
      most = λ j h. let less : j < suc i = in_below (suc i) j s (omega (arith, b, pow-suc 2 i)) h in omega (arith, less);
    }

-- a set without its greatest member is a lesser number
pub rest_less : (s i : ℕ) → Highest s i → without s ((1 * 2 ^ i) % 2 ^ 64) < s
rest_less s i top =
    let here = subst (λ (n : ℕ). In i n) (sym (shift_is i top.small)) (single_has i) in
    ⊎_elim (λ e. absurd ((in_without i s _ (subst (λ (n : ℕ). In i n) (sym e) top.here)).1 here)) (λ ne. omega (arith, without_le s ((1 * 2 ^ i) % 2 ^ 64))) (cases_eq (without s ((1 * 2 ^ i) % 2 ^ 64)) s)
