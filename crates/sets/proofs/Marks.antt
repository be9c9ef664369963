-- A set that a loop builds member by member.
use Rattle.std.proofs.Common.{ℕ, ◌+◌, ◌*◌, ◌%◌, ◌^◌, ◌<◌, sym, subst, ⊎_elim, arith}
use lib.Bits.{bit_or}
use Rattle.std.proofs.lemmas.Bool.{cases_eq}
use Rattle.sets.specs.Sets.{In, Marks}
use Rattle.sets.proofs.Members.{in_or, or_left, or_right, single_is, single_has, shift_is, nothing_in}

module _ (P : ℕ → Type 0) where
  pub marks_none : Marks (λ j. (j < 0) × P j) 0
  marks_none = record { only = λ j h. absurd (nothing_in j h); all = λ j p. absurd (omega (arith, p.0)) }

  pub marks_in : (i r : ℕ) → i < 64 → P i → Marks (λ j. (j < i) × P j) r → Marks (λ j. (j < i + 1) × P j) (bit_or r ((1 * 2 ^ i) % 2 ^ 64))
  marks_in i r h here m = subst (λ (n : ℕ). Marks (λ j. (j < i + 1) × P j) (bit_or r n)) (sym (shift_is i h)) (record {
    only = λ j k.
        ⊎_elim (λ p. let w = m.only j p in (omega (arith, w.0), w.1)) (λ p. let e = single_is i j p in (omega arith, subst P (sym e) here)) (in_or j r (2 ^ i) k);
    all = λ j p. ⊎_elim (λ e. or_right j r (2 ^ i) (subst (λ (n : ℕ). In n (2 ^ i)) (sym e) (single_has i))) (λ ne. or_left j r (2 ^ i) (m.all j (omega (arith, p.0), p.1))) (cases_eq j i);
  })

  pub marks_out : (i r : ℕ) → (P i → ⊥) → Marks (λ j. (j < i) × P j) r → Marks (λ j. (j < i + 1) × P j) r
  marks_out i r never m = record {
    only = λ j k. let w = m.only j k in (omega (arith, w.0), w.1);
    all = λ j p. ⊎_elim (λ e. absurd (never (subst P e p.1))) (λ ne. m.all j (omega (arith, p.0), p.1)) (cases_eq j i);
  }
