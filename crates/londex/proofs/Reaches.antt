-- The steps of a search along a graph, one more arc per turn.
use Rattle.std.proofs.Common.{◌≡◌, ℕ, zero, suc, ◌+◌, ◌-◌, ◌*◌, ◌%◌, ◌^◌, ◌<◌, ◌≤◌, ◌⊎◌, Some, None, Option, sym, refl, ◌∙◌, subst, inl, inr, ⊎_elim, add-one, arith}
use lib.Bits.{bit_and, bit_or, or_lt, and_le_l}
use lib.Count.{ones}
use lib.Pow.{pow-lt}
use Rattle.sets.specs.Sets.{In, Part, Marks}
use Rattle.sets.proofs.Members.{out_or_in, in_or, or_left, or_right, in_and, and_in, nothing_in, some_member, in_below, single_is, single_has, shift_is}
use Rattle.sets.proofs.Counts.{ones_more, ones_some}
use Rattle.londex.specs.Ways.{Led, Steps, Least, Written}
use Rattle.sets.proofs.Digits.{in_not, not_in}

pub in_or_not : (i s : ℕ) → In i s ⊎ (In i s → ⊥)
in_or_not i s = ⊎_elim (λ z. inr (λ h. omega arith)) inl (out_or_in i s)

-- ---- a row written at the members of a set

module _ (f : ℕ → ℕ) where
  -- ---- ways, from their ends

  steps_on : (n v y x : ℕ) → Steps f v y n → In x (f y) → Steps f v x (suc n)
  steps_on zero v y x same step = (x, subst (λ (k : ℕ). In x (f k)) (sym same) step, refl)
  steps_on (suc n) v y x (z, first, rest) step = (z, first, steps_on n z y x rest step)

  steps_back : (n v x : ℕ) → Steps f v x (suc n) → (y : ℕ) × Steps f v y n × In x (f y)
  steps_back zero v x (z, first, same) = (v, refl, subst (λ (k : ℕ). In k (f v)) same first)
  steps_back (suc n) v x (z, first, rest) = let r = steps_back n z x rest in (r.0, (z, first, r.1), r.2)

  -- ---- the turns

  -- reach has what at most d steps lead to from v, and fresh what d steps lead to and no fewer; the row has what is known of the others
  pub record Reached (v d reach fresh : ℕ) (row : ℕ → Option ℕ) : Type 0 where
    pub all : (x n : ℕ) → n ≤ d → Steps f v x n → In x reach
    pub new : (x : ℕ) → In x fresh → Least f v x (Some d)
    pub part : Part fresh reach
    pub closed : (x y : ℕ) → In x reach → (In x fresh → ⊥) → In y (f x) → In y reach
    pub old : (x : ℕ) → In x reach → (In x fresh → ⊥) → Least f v x (row x)
    pub blank : (x : ℕ) → x < 64 → (In x reach → ⊥) → row x ≡ None
    pub grown : d < ones reach
    pub small : reach < 2 ^ 64

  pub reached_none : (v : ℕ) (row : ℕ → Option ℕ) → v < 64 → ((x : ℕ) → x < 64 → row x ≡ None) → Reached v 0 ((1 * 2 ^ v) % 2 ^ 64) ((1 * 2 ^ v) % 2 ^ 64) row
  reached_none v row h none = subst (λ (n : ℕ). Reached v 0 n n row) (sym (shift_is v h)) (record {
    all = start;
    new = λ x k. (sym (single_is v x k), λ n l p. omega arith);
    part = λ x k. k;
    closed = λ x y k out step. absurd (out k);
    old = λ x k out. absurd (out k);
    blank = λ x l out. none x l;
    grown = ones_some (2 ^ v) v (single_has v);
    small = pow-lt h;
  })
    where
      start : (x n : ℕ) → n ≤ 0 → Steps f v x n → In x (2 ^ v)
      start x zero le same = subst (λ (k : ℕ). In k (2 ^ v)) same (single_has v)
      start x (suc n) le way = absurd (omega arith)

  module _ (v d reach fresh to : ℕ) (row noted : ℕ → Option ℕ) (r : Reached v d reach fresh row) (w : Written (λ x. In x fresh) d row noted) (led : Marks (Led f fresh) to) (fits : to < 2 ^ 64) where
    -- what the next step adds
    abbrev next : ℕ
    next = bit_and to ((2 ^ 64 - 1) - reach)

    next_new : (y : ℕ) → In y next → In y reach → ⊥
    next_new y h = in_not 64 y reach (in_and y to ((2 ^ 64 - 1) - reach) h).1

    next_or_old : (y : ℕ) → In y to → In y reach ⊎ In y next
    next_or_old y h =
        ⊎_elim inl (λ out. inr (and_in y to ((2 ^ 64 - 1) - reach) h (not_in 64 y reach (in_below 64 y to fits h) r.small out))) (in_or_not y reach)

    -- a step from what is reached leads to what is reached or added
    onward : (x y : ℕ) → In x reach → In y (f x) → In y reach ⊎ In y next
    onward x y h step = ⊎_elim (λ k. next_or_old y (led.all y (x, k, step))) (λ out. inl (r.closed x y h out step)) (in_or_not x fresh)

    joined : (y : ℕ) → In y reach ⊎ In y next → In y (bit_or reach next)
    joined y h = ⊎_elim (or_left y reach next) (or_right y reach next) h

    settled : (x : ℕ) → In x reach → Least f v x (noted x)
    settled x h =
        ⊎_elim (λ k. subst (Least f v x) (sym (w.here x k)) (r.new x k)) (λ out. subst (Least f v x) (sym (w.elsewhere x out)) (r.old x h out)) (in_or_not x fresh)

    unsettled : (x : ℕ) → x < 64 → (In x reach → ⊥) → noted x ≡ None
    unsettled x l out = w.elsewhere x (λ k. out (r.part x k)) ∙ r.blank x l out

    pub reached_more : (next ≡ 0 → ⊥) → Reached v (d + 1) (bit_or reach next) next noted
    reached_more some = record {
      all = near;
      new = λ x h. let p = led.only x (in_and x to ((2 ^ 64 - 1) - reach) h).0 in (
        subst (Steps f v x) (sym (add-one d)) (steps_on d v p.0 x (r.new p.0 p.1).0 p.2),
        λ n l way. next_new x h (r.all x n (omega arith) way),
      );
      part = λ x h. or_right x reach next h;
      closed = λ x y h out step. joined y (onward x y (before x h out) step);
      old = λ x h out. settled x (before x h out);
      blank = λ x l out. unsettled x l (λ h. out (or_left x reach next h));
      grown = omega (arith, r.grown, ones_more reach (bit_or reach next) (λ i h. or_left i reach next h) differ);
      small = or_lt 64 reach next r.small (omega (arith, and_le_l to ((2 ^ 64 - 1) - reach)));
    }
      where
        before : (x : ℕ) → In x (bit_or reach next) → (In x next → ⊥) → In x reach
        before x h out = ⊎_elim (λ k. k) (λ k. absurd (out k)) (in_or x reach next h)

        near : (x n : ℕ) → n ≤ d + 1 → Steps f v x n → In x (bit_or reach next)
        near x zero le same = or_left x reach next (r.all x 0 (omega arith) same)
        near x (suc n) le way = let p = steps_back n v x way in joined x (onward p.0 x (r.all p.0 n (omega arith) p.1) p.2)

        differ : bit_or reach next ≡ reach → ⊥
        differ e = let m = some_member next some in next_new m.0 m.1 (subst (λ (n : ℕ). In m.0 n) e (or_right m.0 reach next m.1))

    pub reached_all : next ≡ 0 → (x : ℕ) → x < 64 → Least f v x (noted x)
    reached_all none x l = ⊎_elim (settled x) (λ out. subst (Least f v x) (sym (unsettled x l out)) (λ n way. out (stays n v x (r.all v 0 (omega arith) refl) way))) (in_or_not x reach)
      where
        stays : (n y z : ℕ) → In y reach → Steps f y z n → In z reach
        stays zero y z h same = subst (λ (k : ℕ). In k reach) same h
        stays (suc n) y z h (k, step, rest) =
            stays n k z (⊎_elim (λ i. i) (λ i. absurd (nothing_in k (subst (λ (m : ℕ). In k m) none i))) (onward y k h step)) rest
