-- Sets and graphs that are computed.
use Rattle.std.proofs.Common.{◌≡◌, ℕ, zero, suc, ◌+◌, ◌-◌, ◌/◌, ◌%◌, ◌^◌, ◌<◌, ◌≤◌, Bool, true, false, cond, ◌⊎◌, length, sym, refl, ap, ◌∙◌, subst, inl, inr, ⊎_elim, add-one, arith}
use lib.Bits.{bit_and, bit_or, or_lt, and_le_r}
use Rattle.std.proofs.lemmas.Bool.{eqb-true, eq-eqb}
use Rattle.sets.specs.Sets.{In, has, Marks}
use Rattle.sets.proofs.Members.{nothing_in, in_and, and_in, in_below}
use Rattle.model.specs.Tasks.{Task, action, group, Has}
use Rattle.model.specs.Distances.{Arc}
use Rattle.londex.specs.Ways.{Led}
use Rattle.londex.proofs.Arcs.{SomeBelow, union_none, union_in}

-- the union of the first n sets
abbrev pub union : ℕ → (ℕ → ℕ) → ℕ
union zero f = 0
union (suc n) f = bit_or (union n f) (f n)

pub union_marks : (P : ℕ → ℕ → Type 0) (f : ℕ → ℕ) → ((i : ℕ) → Marks (P i) (f i)) → (n : ℕ) → Marks (SomeBelow P n) (union n f)
union_marks P f each zero = union_none P
union_marks P f each (suc n) = subst (λ (m : ℕ). Marks (SomeBelow P m) (bit_or (union n f) (f n))) (add-one n) (union_in P n (union n f) (f n) (each n) (union_marks P f each n))

-- the set, where i is a member of s; else nothing
abbrev pub where_in : ℕ → ℕ → ℕ → ℕ
where_in i s x = cond (has i s) x 0

pub where_marks : (P : ℕ → Type 0) (i s x : ℕ) → Marks P x → Marks (λ j. In i s × P j) (where_in i s x)
where_marks P i s x m = record { only = only (has i s) refl; all = λ j p. subst (λ (t : Bool). In j (cond t x 0)) (sym (eq-eqb _ _ p.0)) (m.all j p.1) }
  where
    only : (t : Bool) → has i s ≡ t → (j : ℕ) → In j (cond t x 0) → In i s × P j
    only true e j h = (eqb-true _ _ e, m.only j h)
    only false e j h = absurd (nothing_in j h)

members : (x : ℕ) → Marks (λ j. In j x) x
members x = record { only = λ j h. h; all = λ j h. h }

pub marks_like : {P Q : ℕ → Type 0} (s : ℕ) → ((j : ℕ) → P j → Q j) → ((j : ℕ) → Q j → P j) → Marks P s → Marks Q s
marks_like s to from m = record { only = λ j h. to j (m.only j h); all = λ j q. m.all j (from j q) }

-- what the arcs of group g lead to from v
abbrev pub arcs : Task → ℕ → ℕ → ℕ
arcs b g v = where_in v (group b g) (bit_and (union (length b.actions) (λ a. where_in v (action b a).deletes (action b a).adds)) (group b g))

pub arcs_marks : (b : Task) (g v : ℕ) → Marks (Arc b g v) (arcs b g v)
arcs_marks b g v = record {
  only = λ w h.
      let k = here.only w h in
      let m = in_and w moved (group b g) k.1 in
      let p = by.only w m.0 in
      (k.0, m.1, (p.0, p.1, p.2.0, p.2.1));
  all = λ w (vg, wg, (a, known, del, add)). here.all w (vg, and_in w moved (group b g) (by.all w (a, known, (del, add))) wg);
}
  where
    moved : ℕ
    moved = union (length b.actions) (λ a. where_in v (action b a).deletes (action b a).adds)

    by : Marks (SomeBelow (λ a w. In v (action b a).deletes × In w (action b a).adds) (length b.actions)) (union (length b.actions) (λ a. where_in v (action b a).deletes (action b a).adds))
    by = union_marks (λ a w. In v (action b a).deletes × In w (action b a).adds) (λ a. where_in v (action b a).deletes (action b a).adds)
        (λ a. where_marks (λ w. In w (action b a).adds) v (action b a).deletes (action b a).adds (members (action b a).adds)) (length b.actions)

    here : Marks (λ w. In v (group b g) × In w (bit_and moved (group b g))) (where_in v (group b g) (bit_and moved (group b g)))
    here = where_marks (λ w. In w (bit_and moved (group b g))) v (group b g) (bit_and moved (group b g)) (members (bit_and moved (group b g)))

-- all that the members of a set lead to
abbrev pub led : (ℕ → ℕ) → ℕ → ℕ
led f s = union 64 (λ x. where_in x s (f x))

pub led_marks : (f : ℕ → ℕ) (s : ℕ) → s < 2 ^ 64 → Marks (Led f s) (led f s)
led_marks f s small = marks_like (led f s) (λ y p. (p.0, p.2.0, p.2.1)) (λ y p. (p.0, in_below 64 p.0 s small p.1, (p.1, p.2)))
    (union_marks (λ x y. In x s × In y (f x)) (λ x. where_in x s (f x)) (λ x. where_marks (λ y. In y (f x)) x s (f x) (members (f x))) 64)

pub union_small : (n : ℕ) (f : ℕ → ℕ) → ((i : ℕ) → f i < 2 ^ 64) → union n f < 2 ^ 64
union_small zero f h = omega arith
union_small (suc n) f h = or_lt 64 (union n f) (f n) (union_small n f h) (h n)

pub where_small : (i s x : ℕ) → x < 2 ^ 64 → where_in i s x < 2 ^ 64
where_small i s x h = go (has i s)
  where
    go : (t : Bool) → cond t x 0 < 2 ^ 64
    go true = h
    go false = omega arith

pub arcs_small : (b : Task) (g v : ℕ) → group b g < 2 ^ 64 → arcs b g v < 2 ^ 64
arcs_small b g v h = where_small v (group b g) _ (omega (arith, and_le_r (union (length b.actions) (λ a. where_in v (action b a).deletes (action b a).adds)) (group b g)))
