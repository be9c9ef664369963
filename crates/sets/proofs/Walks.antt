-- What `any` and `all` answer over the members of a set.
use Rattle.std.proofs.Common.{◌≡◌, ℕ, Bool, true, false, Decides, List, [], ◌∷◌, Some, None, Option, MatchOption, refl, sym, ◌∙◌, subst, ◌⊎◌, inl, inr, ⊎_elim}
use Rattle.std.proofs.lemmas.Bool.{cases_eq}
use Rattle.std.specs.Fn.{Called}
use Rattle.std.specs.Iterator.{Yields, YieldsThen}
use Rattle.std.specs.List.{FoldsTo}
use denote.Param.Members.{Mut}
use Rattle.sets.specs.Sets.{In, Part, Split}
use Rattle.sets.specs.declared.iter.Members.{Members}
use Rattle.sets.proofs.Members.{nothing_in}

abbrev steps : Members → Option ℕ → Members → Type 0
steps s o t = Split s.left o t.left

module _ {F : Type 0} (g : Mut F (ℕ × Unit {0}) Bool) (f : F) where
  -- the members that are no longer left have Q, and the test is as it was
  record Passed (Q : ℕ → Type 0) (s t : Members) (k : F) : Type 0 where
    pub same : k ≡ f
    pub part : Part t.left s.left
    pub passed : (i : ℕ) → In i s.left → In i t.left ⊎ Q i

  passes : (b : Bool) (Q : ℕ → Type 0) → ((i : ℕ) (q : F) → Called g f (i, tt) b q → (q ≡ f) × Q i)
      → (xs : List ℕ) (s t : Members) (k : F) → Yields steps s xs t → FoldsTo (λ p x q. Called g p (x, tt) b q) f xs k → Passed Q s t k
  passes b Q test [] s t k y c = subst (λ (t : Members). Passed Q s t k) y (record { same = sym c; part = λ i h. h; passed = λ i h. inl h })
  passes b Q test (x ∷ xs) s t k y c =
      let w = test x c.0 c.1 in
      let rest = passes b Q test xs y.0 t k y.2 (subst (λ (q : F). FoldsTo (λ p x q. Called g p (x, tt) b q) q xs k) w.0 c.2) in
      record {
        same = rest.same;
        part = λ i h. (y.1.others.only i (rest.part i h)).0;
        passed = λ i h. ⊎_elim (λ e. inr (subst Q (sym e) w.1)) (λ ne. rest.passed i (y.1.others.all i (h, ne))) (cases_eq i x);
      }

  module _ (P : ℕ → Type 0) (test : (i : ℕ) (r : Bool) (q : F) → Called g f (i, tt) r q → (q ≡ f) × Decides r (P i)) where
    pub any_decides : (set : ℕ) (s u : Members) {r : Bool} → s.left ≡ set
        → (xs : List ℕ) × (o : Option ℕ) × (j : F) × YieldsThen steps s xs o u × FoldsTo (λ p x q. Called g p (x, tt) false q) f xs j × MatchOption o (r ≡ false) (λ x. (r ≡ true) × ((h : F) × Called g j (x, tt) true h))
        → Decides r ((i : ℕ) × In i set × P i)
    any_decides set s u {r} is (xs, o, j, then, folds, ends) = subst (λ (n : ℕ). Decides r ((i : ℕ) × In i n × P i)) is (by o then.2 ends)
      where
        w : Passed (λ i. P i → ⊥) s then.0 j
        w = passes false (λ i. P i → ⊥) (λ i q k. let d = test i false q k in (d.0, λ p. absurd (cc (d.1.1 p)))) xs s then.0 j then.1 folds

        by : (o : Option ℕ) → steps then.0 o u → MatchOption o (r ≡ false) (λ x. (r ≡ true) × ((h : F) × Called g j (x, tt) true h)) → Decides r ((i : ℕ) × In i s.left × P i)
        by None none e = (λ z. absurd (cc (sym e ∙ z)), λ p. absurd (⊎_elim (λ k. nothing_in p.0 (subst (λ (n : ℕ). In p.0 n) none k)) (λ out. out p.2) (w.passed p.0 p.1)))
        by (Some x) some e =
            let passed = (test x true e.1.0 (subst (λ (q : F). Called g q (x, tt) true e.1.0) w.same e.1.1)).1 in
            (λ _. (x, w.part x some.member, passed.0 refl), λ _. e.0)

    pub all_decides : (set : ℕ) (s u : Members) {r : Bool} → s.left ≡ set
        → (xs : List ℕ) × (o : Option ℕ) × (j : F) × YieldsThen steps s xs o u × FoldsTo (λ p x q. Called g p (x, tt) true q) f xs j × MatchOption o (r ≡ true) (λ x. (r ≡ false) × ((h : F) × Called g j (x, tt) false h))
        → Decides r ((i : ℕ) → In i set → P i)
    all_decides set s u {r} is (xs, o, j, then, folds, ends) = subst (λ (n : ℕ). Decides r ((i : ℕ) → In i n → P i)) is (by o then.2 ends)
      where
        w : Passed P s then.0 j
        w = passes true P (λ i q k. let d = test i true q k in (d.0, d.1.0 refl)) xs s then.0 j then.1 folds

        by : (o : Option ℕ) → steps then.0 o u → MatchOption o (r ≡ true) (λ x. (r ≡ false) × ((h : F) × Called g j (x, tt) false h)) → Decides r ((i : ℕ) → In i s.left → P i)
        by None none e = (λ _ i h. ⊎_elim (λ k. absurd (nothing_in i (subst (λ (n : ℕ). In i n) none k))) (λ p. p) (w.passed i h), λ _. e)
        by (Some x) some e =
            let never = (test x false e.1.0 (subst (λ (q : F). Called g q (x, tt) false e.1.0) w.same e.1.1)).1 in
            let out : ((i : ℕ) → In i s.left → P i) → ⊥ = λ all. absurd (cc (never.1 (all x (w.part x some.member)))) in
            (λ t. absurd (cc (sym e.0 ∙ t)), λ all. absurd (out all))
