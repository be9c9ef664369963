-- Distances that are computed, one more arc per layer.
use Rattle.std.proofs.Common.{◌≡◌, ℕ, zero, suc, ◌+◌, ◌-◌, ◌*◌, ◌%◌, ◌^◌, ◌<◌, ◌≤◌, Bool, true, false, cond, eqb, List, length, Some, None, Option, sym, refl, ◌∙◌, subst, arith}
use lib.Bits.{bit_and, bit_or, or_lt, and_le_l}
use lib.Count.{ones-le}
use Rattle.std.proofs.lemmas.Bool.{eqb-true, eqb-false, eq-eqb, ne_eqb, cond-true, cond-false}
use Rattle.sets.specs.Sets.{In, has}
use Rattle.model.specs.Tasks.{Task, group}
use Rattle.model.specs.Distances.{PathOf, Distance}
use Rattle.londex.specs.Ways.{Steps, Least, Written}
use Rattle.londex.proofs.Reaches.{Reached, reached_none, reached_more, reached_all}
use Rattle.worked.proofs.Unions.{arcs, arcs_marks, arcs_small, led, led_marks, union_small, where_in, where_small}

-- d is noted at the members of the set
abbrev noted : ℕ → ℕ → (ℕ → Option ℕ) → ℕ → Option ℕ
noted d fresh row x = cond (has x fresh) (Some d) (row x)

noted_written : (d fresh : ℕ) (row : ℕ → Option ℕ) → Written (λ x. In x fresh) d row (noted d fresh row)
noted_written d fresh row = record {
  here = λ x h. cond-true (has x fresh) (Some d) (row x) (eq-eqb _ _ h);
  elsewhere = λ x out. cond-false (has x fresh) (Some d) (row x) (ne_eqb _ _ out);
}

module _ (f : ℕ → ℕ) where
  abbrev onward : ℕ → ℕ → ℕ
  onward reach fresh = bit_and (led f fresh) ((2 ^ 64 - 1) - reach)

  -- the row of distances, from what is reached and what is fresh in it, by at most so many more layers
  abbrev pub layers : ℕ → ℕ → ℕ → ℕ → (ℕ → Option ℕ) → ℕ → Option ℕ
  layers zero d reach fresh row x = noted d fresh row x
  layers (suc n) d reach fresh row x =
      cond (eqb (onward reach fresh) 0) (noted d fresh row x) (layers n (d + 1) (bit_or reach (onward reach fresh)) (onward reach fresh) (noted d fresh row) x)

  module _ (small : (x : ℕ) → f x < 2 ^ 64) (v : ℕ) where
    led_small : (s : ℕ) → led f s < 2 ^ 64
    led_small s = union_small 64 (λ x. where_in x s (f x)) (λ x. where_small x s (f x) (small x))

    layers_least : (n d reach fresh : ℕ) (row : ℕ → Option ℕ) → fresh < 2 ^ 64 → Reached f v d reach fresh row → 64 ≤ n + d → (x : ℕ) → x < 64 → Least f v x (layers n d reach fresh row x)
    layers_least zero d reach fresh row fits r enough x l = absurd (omega (arith, r.grown, ones-le 64 reach r.small))
    layers_least (suc n) d reach fresh row fits r enough x l =
        split (eqb (onward reach fresh) 0) refl
        (λ some. layers_least n (d + 1) (bit_or reach (onward reach fresh)) (onward reach fresh) (noted d fresh row) (omega (arith, and_le_l (led f fresh) ((2 ^ 64 - 1) - reach), led_small fresh))
        (reached_more f v d reach fresh (led f fresh) row (noted d fresh row) r (noted_written d fresh row) (led_marks f fresh fits) (led_small fresh) some) (omega arith) x l)
      where
        split : (t : Bool) → eqb (onward reach fresh) 0 ≡ t
            → ((onward reach fresh ≡ 0 → ⊥) → Least f v x (layers n (d + 1) (bit_or reach (onward reach fresh)) (onward reach fresh) (noted d fresh row) x))
            → Least f v x (cond t (noted d fresh row x) (layers n (d + 1) (bit_or reach (onward reach fresh)) (onward reach fresh) (noted d fresh row) x))
        split true e rest = reached_all f v d reach fresh (led f fresh) row (noted d fresh row) r (noted_written d fresh row) (led_marks f fresh fits) (led_small fresh) (eqb-true _ _ e) x l
        split false e rest = rest (eqb-false _ _ e)

-- the distance from v to w in group g
abbrev pub far : Task → ℕ → ℕ → ℕ → Option ℕ
far b g v w = layers (arcs b g) 64 0 ((1 * 2 ^ v) % 2 ^ 64) ((1 * 2 ^ v) % 2 ^ 64) (λ _. None) w

module _ (b : Task) (g : ℕ) where
  path_to : (n v w : ℕ) → PathOf b g v w n → Steps (arcs b g) v w n
  path_to zero v w same = same
  path_to (suc n) v w (x, arc, rest) = (x, (arcs_marks b g v).all x arc, path_to n x w rest)

  path_from : (n v w : ℕ) → Steps (arcs b g) v w n → PathOf b g v w n
  path_from zero v w same = same
  path_from (suc n) v w (x, step, rest) = (x, (arcs_marks b g v).only x step, path_from n x w rest)

  distance_from : (v w : ℕ) (r : Option ℕ) → Least (arcs b g) v w r → Distance b g v w r
  distance_from v w (Some r) x = (path_from r v w x.0, λ n l p. x.1 n l (path_to n v w p))
  distance_from v w None x = λ n p. x n (path_to n v w p)

  pub far_is : (v w : ℕ) → group b g < 2 ^ 64 → v < 64 → w < 64 → Distance b g v w (far b g v w)
  far_is v w small lv lw =
      let start = reached_none (arcs b g) v (λ _. None) lv (λ x l. refl) in
      distance_from v w (far b g v w) (layers_least (arcs b g) (λ x. arcs_small b g x small) v 64 0 _ _ (λ _. None) start.small start (omega arith) w lw)
