-- A set that is gathered number by number.
use Rattle.std.proofs.Common.{ℕ, ◌+◌, ◌*◌, ◌%◌, ◌^◌, ◌<◌, Bool, true, false, Decides, refl, sym, subst, ⊎_elim, arith}
use lib.Bits.{bit_or}
use Rattle.std.proofs.lemmas.Bool.{cases_eq}
use Rattle.sets.specs.Sets.{In, Marks, Gathered}
use Rattle.sets.proofs.Members.{in_or, or_left, or_right, out_or_in, single_is, single_has, shift_is}

module _ (R : ℕ → Bool → Type 0) where
  pub gathered_in : (i s : ℕ) → i < 64 → R i true → Gathered R i s → Gathered R (i + 1) (bit_or s ((1 * 2 ^ i) % 2 ^ 64))
  gathered_in i s small here g = subst (λ (n : ℕ). Gathered R (i + 1) (bit_or s n)) (sym (shift_is i small)) (record {
    member = λ j h.
        ⊎_elim (λ p. let w = g.member j p in (omega (arith, w.0), w.1)) (λ p. let e = single_is i j p in (omega (arith, e), subst (λ (n : ℕ). R n true) (sym e) here)) (in_or j s (2 ^ i) h);
    other = λ j l out.
        ⊎_elim (λ e. absurd (out (or_right j s (2 ^ i) (subst (λ (n : ℕ). In n (2 ^ i)) (sym e) (single_has i))))) (λ ne. g.other j (omega (arith, l, ne)) (λ h. out (or_left j s (2 ^ i) h))) (cases_eq j i);
  })

  pub gathered_out : (i s : ℕ) → R i false → Gathered R i s → Gathered R (i + 1) s
  gathered_out i s here g = record {
    member = λ j h. let w = g.member j h in (omega (arith, w.0), w.1);
    other = λ j l out. ⊎_elim (λ e. subst (λ (n : ℕ). R n false) (sym e) here) (λ ne. g.other j (omega (arith, l, ne)) out) (cases_eq j i);
  }

  -- by a test of P, and where all with P are below n, those with P
  pub gathered_marks : (P : ℕ → Type 0) (n s : ℕ) → ((i : ℕ) (r : Bool) → i < n → R i r → Decides r (P i)) → ((i : ℕ) → P i → i < n) → Gathered R n s → Marks P s
  gathered_marks P n s test below g = record {
    only = λ j h. let w = g.member j h in (test j true w.0 w.1).0 refl;
    all = λ j p. ⊎_elim (λ z. let e = (test j false (below j p) (g.other j (below j p) (λ h. omega (arith, z, h)))).1 p in absurd (cc e)) (λ h. h) (out_or_in j s);
  }
