-- Unions over the first numbers, and the facts that groups and arcs lead to.
use Rattle.std.proofs.Common.{◌≡◌, ℕ, ◌+◌, ◌<◌, length, subst, ⊎_elim, arith}
use lib.Bits.{bit_and, bit_or}
use Rattle.std.proofs.lemmas.Bool.{cases_eq}
use Rattle.sets.specs.Sets.{In, Marks}
use Rattle.sets.proofs.Members.{in_or, or_left, or_right, in_and, and_in, nothing_in}
use Rattle.model.specs.Tasks.{Task, action, group}
use Rattle.londex.specs.Ways.{Together, Step}

-- ---- one number after the other

module _ (P : ℕ → ℕ → Type 0) where
  abbrev pub SomeBelow : ℕ → ℕ → Type 0
  SomeBelow n j = (k : ℕ) × (k < n) × P k j

  pub union_none : Marks (SomeBelow 0) 0
  union_none = record { only = λ j h. absurd (nothing_in j h); all = λ j p. absurd (omega (arith, p.1)) }

  pub union_in : (i all s : ℕ) → Marks (P i) s → Marks (SomeBelow i) all → Marks (SomeBelow (i + 1)) (bit_or all s)
  union_in i all s here m = record {
    only = λ j h. ⊎_elim (λ k. let p = m.only j k in (p.0, omega (arith, p.1), p.2)) (λ k. (i, omega arith, here.only j k)) (in_or j all s h);
    all = λ j p. ⊎_elim
        (λ e. or_right j all s (here.all j (subst (λ k. P k j) e p.2)))
        (λ ne. or_left j all s (m.all j (p.0, omega (arith, p.1), p.2)))
        (cases_eq p.0 i);
  }

  pub union_out : (i all : ℕ) → ((j : ℕ) → P i j → ⊥) → Marks (SomeBelow i) all → Marks (SomeBelow (i + 1)) all
  union_out i all never m = record {
    only = λ j h. let p = m.only j h in (p.0, omega (arith, p.1), p.2);
    all = λ j p. ⊎_elim (λ e. absurd (never j (subst (λ k. P k j) e p.2))) (λ ne. m.all j (p.0, omega (arith, p.1), p.2)) (cases_eq p.0 i);
  }

-- ---- groups and arcs

-- group g has v and w
abbrev pub BothIn : Task → ℕ → ℕ → ℕ → Type 0
BothIn b v g w = In v (group b g) × In w (group b g)

-- action a deletes v and adds w
abbrev pub Swaps : Task → ℕ → ℕ → ℕ → Type 0
Swaps b v a w = In v (action b a).deletes × In w (action b a).adds

pub together_all : (b : Task) (v n all : ℕ) → n ≡ length b.groups → Marks (SomeBelow (BothIn b v) n) all → Marks (Together b v) all
together_all b v n all e m = record {
  only = λ j h. let p = m.only j h in (p.0, omega (arith, p.1), p.2.0, p.2.1);
  all = λ j p. m.all j (p.0, omega (arith, p.1), (p.2, p.3));
}

pub step_all : (b : Task) (v n added own : ℕ) → n ≡ length b.actions → Marks (SomeBelow (Swaps b v) n) added → Marks (Together b v) own → Marks (Step b v) (bit_and added own)
step_all b v n added own e m t = record {
  only = λ j h.
      let k = in_and j added own h in
      let p = m.only j k.0 in
      let q = t.only j k.1 in
      (q.0, q.1, (q.2, q.3, (p.0, omega (arith, p.1), p.2.0, p.2.1)));
  all = λ j p.
      let arc = p.2 in
      and_in j added own (m.all j (arc.2.0, omega (arith, arc.2.1), (arc.2.2, arc.2.3))) (t.all j (p.0, p.1, arc.0, arc.1));
}
