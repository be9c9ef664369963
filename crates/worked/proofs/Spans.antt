-- Gaps that are computed: the widest bound of all instances of the six rules.
use Rattle.std.proofs.Common.{◌≡◌, ℕ, zero, suc, ◌+◌, ◌-◌, ◌^◌, ◌<◌, ◌≤◌, Bool, true, false, cond, eqb, ◌⊎◌, length, Some, None, Option, sym, refl, ap, ◌∙◌, subst, inl, inr, ⊎_elim, arith}
use lib.Bits.{bit_and}
use Rattle.std.proofs.lemmas.Bool.{cases_lt, cases_eq, eqb-true, eqb-false, eq-eqb}
use Rattle.sets.specs.Sets.{In, has, Meet}
use Rattle.sets.proofs.Members.{in_below, meet_from, meet_to}
use Rattle.model.specs.Tasks.{Task, action, group}
use Rattle.model.specs.Gaps.{UpTo, Far, Rule, A1, A2, B1, B2, B3, B4, By, Closer}
use Rattle.londex.specs.Bounds.{Covers, wider}
use Rattle.londex.proofs.Covers.{covers_like, covers_both}
use Rattle.londex.proofs.Rules.{Ruled, one_distance}
use Rattle.worked.proofs.Layers.{far, far_is}

-- ---- the widest of many bounds

abbrev pub widest : ℕ → (ℕ → Option ℕ) → Option ℕ
widest zero f = Some 0
widest (suc n) f = wider (widest n f) (f n)

widest_covers : (P : ℕ → ℕ → Type 0) (f : ℕ → Option ℕ) → ((i : ℕ) → Covers (P i) (f i)) → (n : ℕ) → Covers (λ d. (i : ℕ) × (i < n) × P i d) (widest n f)
widest_covers P f each zero = record { only = λ d h. absurd (omega arith); all = λ d p. absurd (omega (arith, p.1)) }
widest_covers P f each (suc n) = covers_like (widest (suc n) f) join split (covers_both (widest n f) (f n) (widest_covers P f each n) (each n))
  where
    join : (d : ℕ) → ((i : ℕ) × (i < n) × P i d) ⊎ P n d → (i : ℕ) × (i < suc n) × P i d
    join d (inl (i, l, p)) = (i, omega arith, p)
    join d (inr p) = (n, omega arith, p)

    split : (d : ℕ) → (i : ℕ) × (i < suc n) × P i d → ((i : ℕ) × (i < n) × P i d) ⊎ P n d
    split d (i, l, p) = ⊎_elim (λ e. inr (subst (λ k. P k d) e p)) (λ ne. inl (i, omega arith, p)) (cases_eq i n)

-- the bound, where i is a member of s; else none
abbrev pub when : ℕ → ℕ → Option ℕ → Option ℕ
when i s k = cond (has i s) k (Some 0)

when_covers : (P : ℕ → Type 0) (i s : ℕ) (k : Option ℕ) → Covers P k → Covers (λ d. In i s × P d) (when i s k)
when_covers P i s k x = go (has i s) refl
  where
    go : (t : Bool) → has i s ≡ t → Covers (λ d. In i s × P d) (cond t k (Some 0))
    go true e = record { only = λ d h. (eqb-true _ _ e, x.only d h); all = λ d p. x.all d p.1 }
    go false e = record { only = λ d h. absurd (omega arith); all = λ d p. absurd (eqb-false _ _ e p.0) }

-- ---- the rules over distances

abbrev pub cut : Option ℕ → ℕ → Option ℕ
cut (Some r) less = Some ((r + 1) - less)
cut None less = None

cut_covers : (r : Option ℕ) (less : ℕ) → Covers (UpTo r less) (cut r less)
cut_covers (Some r) less = record { only = λ d h. omega arith; all = λ d h. omega arith }
cut_covers None less = record { only = λ d h. tt; all = λ d h. tt }

module _ (b : Task) where
  abbrev pub far_bound : ℕ → ℕ → ℕ → Option ℕ
  far_bound p q less = widest (length b.groups) (λ g. widest 64 (λ v. when v p (when v (group b g) (widest 64 (λ w. when w q (when w (group b g) (cut (far b g v w) less)))))))

  module _ (small : (g : ℕ) → g < length b.groups → group b g < 2 ^ 64) where
    far_covers : (p q less : ℕ) → Covers (Far b p q less) (far_bound p q less)
    far_covers p q less = covers_like (far_bound p q less) to from inner
      where
        inner : Covers (λ d. (g : ℕ) × (g < length b.groups) × ((v : ℕ) × (v < 64) × (In v p × (In v (group b g) × ((w : ℕ) × (w < 64) × (In w q × (In w (group b g) × UpTo (far b g v w) less d))))))) (far_bound p q less)
        inner = widest_covers _ _ (λ g. widest_covers _ _ (λ v. when_covers _ v p _ (when_covers _ v (group b g) _ (widest_covers _ _ (λ w. when_covers _ w q _ (when_covers _ w (group b g) _ (cut_covers (far b g v w) less))) 64))) 64) (length b.groups)

        to : (d : ℕ) → (g : ℕ) × (g < length b.groups) × ((v : ℕ) × (v < 64) × (In v p × (In v (group b g) × ((w : ℕ) × (w < 64) × (In w q × (In w (group b g) × UpTo (far b g v w) less d)))))) → Far b p q less d
        to d (g, lg, (v, lv, (vp, (vg, (w, lw, (wq, (wg, up))))))) =
            (v, w, far b g v w, record { group_of = g; within = lg; first = vg; second = wg; far = far_is b g v w (small g lg) lv lw }, vp, wq, up)

        from : (d : ℕ) → Far b p q less d → (g : ℕ) × (g < length b.groups) × ((v : ℕ) × (v < 64) × (In v p × (In v (group b g) × ((w : ℕ) × (w < 64) × (In w q × (In w (group b g) × UpTo (far b g v w) less d))))))
        from d (v, w, r, f, vp, wq, up) =
            let g = f.group_of in
            let s = small g f.within in
            let lv = in_below 64 v (group b g) s f.first in
            let lw = in_below 64 w (group b g) s f.second in
            (g, f.within, (v, lv, (vp, (f.first, (w, lw, (wq, (f.second, subst (λ (k : Option ℕ). UpTo k less d) (one_distance b g v w r (far b g v w) f.far (far_is b g v w s lv lw)) up)))))))

    -- ---- the rules over single facts

    meet_bound : (x y n : ℕ) → Covers (λ d. Meet x y × (d < n)) (cond (eqb (bit_and x y) 0) (Some 0) (Some n))
    meet_bound x y n = go (eqb (bit_and x y) 0) refl
      where
        go : (t : Bool) → eqb (bit_and x y) 0 ≡ t → Covers (λ d. Meet x y × (d < n)) (cond t (Some 0) (Some n))
        go true e = record { only = λ d h. absurd (omega arith); all = λ d p. absurd (meet_to x y p.0 (eqb-true _ _ e)) }
        go false e = record { only = λ d h. (meet_from x y (eqb-false _ _ e), h); all = λ d p. p.1 }

    -- ---- all six

    module _ (a c : ℕ) where
      abbrev pub bound : Option ℕ
      bound = wider (wider (cond (eqb (bit_and (action b a).adds (action b c).deletes) 0) (Some 0) (Some 1)) (cond (eqb (bit_and (action b a).deletes (action b c).needs) 0) (Some 0) (Some 2)))
          (wider (wider (far_bound (action b a).adds (action b c).adds 1) (far_bound (action b a).adds (action b c).needs 0)) (wider (far_bound (action b a).needs (action b c).adds 2) (far_bound (action b a).needs (action b c).needs 1)))

      pub bound_covers : Covers (Ruled b a c) bound
      bound_covers = covers_like bound to from
          (covers_both _ _ (covers_both _ _ (meet_bound (action b a).adds (action b c).deletes 1) (meet_bound (action b a).deletes (action b c).needs 2))
          (covers_both _ _ (covers_both _ _ (far_covers (action b a).adds (action b c).adds 1) (far_covers (action b a).adds (action b c).needs 0)) (covers_both _ _ (far_covers (action b a).needs (action b c).adds 2) (far_covers (action b a).needs (action b c).needs 1))))
        where
          to : (d : ℕ) → ((Meet (action b a).adds (action b c).deletes × (d < 1)) ⊎ (Meet (action b a).deletes (action b c).needs × (d < 2))) ⊎ ((Far b (action b a).adds (action b c).adds 1 d ⊎ Far b (action b a).adds (action b c).needs 0 d) ⊎ (Far b (action b a).needs (action b c).adds 2 d ⊎ Far b (action b a).needs (action b c).needs 1 d)) → Ruled b a c d
          to d (inl (inl ((f, p, q), l))) = (A1, (f, p, q, omega arith))
          to d (inl (inr ((f, p, q), l))) = (A2, (f, p, q, omega arith))
          to d (inr (inl (inl x))) = (B1, x)
          to d (inr (inl (inr x))) = (B2, x)
          to d (inr (inr (inl x))) = (B3, x)
          to d (inr (inr (inr x))) = (B4, x)

          from : (d : ℕ) → Ruled b a c d → ((Meet (action b a).adds (action b c).deletes × (d < 1)) ⊎ (Meet (action b a).deletes (action b c).needs × (d < 2))) ⊎ ((Far b (action b a).adds (action b c).adds 1 d ⊎ Far b (action b a).adds (action b c).needs 0 d) ⊎ (Far b (action b a).needs (action b c).adds 2 d ⊎ Far b (action b a).needs (action b c).needs 1 d))
          from d (A1, (f, p, q, e)) = inl (inl ((f, p, q), omega arith))
          from d (A2, (f, p, q, l)) = inl (inr ((f, p, q), omega arith))
          from d (B1, x) = inr (inl (inl x))
          from d (B2, x) = inr (inl (inr x))
          from d (B3, x) = inr (inr (inl x))
          from d (B4, x) = inr (inr (inr x))
