-- Every two facts of one group have a distance, and what a rule forbids can be told: so what a table says only cut down can be had whole again.
use Rattle.std.proofs.Common.{◌≡◌, ℕ, zero, suc, ◌+◌, ◌-◌, ◌^◌, ◌<◌, ◌≤◌, Bool, true, false, cond, ◌⊎◌, length, Some, None, Option, refl, ap, subst, inl, inr, ⊎_elim, add-one, arith, pow_mono}
use mathlib.Core.HLevel.{Discrete, hedberg}
use mathlib.Core.Logic.{∥∥₁_elim, ∥∥₁_map}
use native.Mathlib.Decide.{ℕ_discrete}
use lib.Bits.{bit_and, bit_or, or_lt, and_le_l}
use lib.Count.{ones-le}
use Rattle.std.proofs.lemmas.Bool.{cases_eq, cases_lt, eq-eqb, ne_eqb}
use Rattle.sets.specs.Sets.{In, has, Meet, Marks}
use Rattle.sets.proofs.Members.{nothing_in, in_below, meet_from, meet_to}
use Rattle.model.specs.Tasks.{Task, Lawful, action, group}
use Rattle.model.specs.Distances.{Facts}
use Rattle.model.proofs.Spaces.{by_down}
use Rattle.model.specs.Gaps.{UpTo, Far, Rule, By, A1, A2, B1, B2, B3, B4, Gap}
use Rattle.londex.specs.Bounds.{Under, Covers, Spared}
use Rattle.londex.specs.Tables.{Table, at, Grouped, Charted, Spaced}
use Rattle.londex.specs.Ways.{Together, Step, Led, Least, Written}
use Rattle.londex.proofs.Arcs.{SomeBelow, union_none, union_in, BothIn, Swaps, together_all, step_all}
use Rattle.londex.proofs.Paths.{group_small, fact_small, facts_are}
use Rattle.londex.proofs.Reaches.{in_or_not, Reached, reached_none, reached_more, reached_all}
use Rattle.londex.proofs.Rules.{together, one_far, Ruled, gap_same, gap_other}

-- ---- sets and rows that the code works out

union_exists : (P : ℕ → ℕ → Type 0) (n : ℕ) → ((k : ℕ) → k < n → (s : ℕ) × Marks (P k) s × (s < 2 ^ 64)) → (s : ℕ) × Marks (SomeBelow P n) s × (s < 2 ^ 64)
union_exists P zero each = (0, union_none P, omega arith)
union_exists P (suc n) each =
    let r = union_exists P n (λ k h. each k (omega arith)) in
    let e = each n (omega arith) in
    (bit_or r.0 e.0, subst (λ (m : ℕ). Marks (SomeBelow P m) (bit_or r.0 e.0)) (add-one n) (union_in P n r.0 e.0 e.1 r.1), or_lt 64 r.0 e.0 r.2 e.2)

-- the members of s where Q holds, and none where it does not
when_exists : (Q : Type 0) (s : ℕ) → s < 2 ^ 64 → Q ⊎ (Q → ⊥) → (r : ℕ) × Marks (λ j. Q × In j s) r × (r < 2 ^ 64)
when_exists Q s small (inl q) = (s, record { only = λ j h. (q, h); all = λ j p. p.1 }, small)
when_exists Q s small (inr never) = (0, record { only = λ j h. absurd (nothing_in j h); all = λ j p. absurd (never p.0) }, omega arith)

written_exists : (fresh d : ℕ) (row : ℕ → Option ℕ) → d < 64 → ((x : ℕ) → Under 64 (row x)) → (noted : ℕ → Option ℕ) × Written (λ x. In x fresh) d row noted × ((x : ℕ) → Under 64 (noted x))
written_exists fresh d row small brief = (
  λ x. cond (has x fresh) (Some d) (row x),
  record {
    here = λ x h. ap (λ (q : Bool). cond q (Some d) (row x)) (eq-eqb _ 1 h);
    elsewhere = λ x h. ap (λ (q : Bool). cond q (Some d) (row x)) (ne_eqb _ 1 h);
  },
  λ x. elim (has x fresh) as (λ (q : Bool). Under 64 (cond q (Some d) (row x))) [ true ↦ small | false ↦ brief x ],
)

-- ---- distances

module _ (f : ℕ → ℕ) (small : (x : ℕ) → f x < 2 ^ 64) where
  led_exists : (set : ℕ) → ((x : ℕ) → In x set → x < 64) → (to : ℕ) × Marks (Led f set) to × (to < 2 ^ 64)
  led_exists set below =
      let r = union_exists (λ (x y : ℕ). In x set × In y (f x)) 64 (λ x h. when_exists (In x set) (f x) (small x) (in_or_not x set)) in (
        r.0,
        record {
          only = λ y h. let p = r.1.only y h in (p.0, p.2.0, p.2.1);
          all = λ y p. r.1.all y (p.0, below p.0 p.1, (p.1, p.2));
        },
        r.2,
      )

  -- the least number of steps from v to each fact
  abbrev Row : ℕ → Type 0
  Row v = (row : ℕ → Option ℕ) × ((w : ℕ) → w < 64 → Least f v w (row w)) × ((w : ℕ) → Under 64 (row w))

  grow : (fuel v d reach fresh : ℕ) (row : ℕ → Option ℕ) → Reached f v d reach fresh row → ((x : ℕ) → Under 64 (row x)) → 64 ≤ d + fuel → Row v
  grow zero v d reach fresh row r brief le = absurd (omega (arith, ones-le 64 reach r.small, r.grown))
  grow (suc fuel) v d reach fresh row r brief le =
      let to = led_exists fresh (λ x h. in_below 64 x reach r.small (r.part x h)) in
      let w = written_exists fresh d row (omega (arith, ones-le 64 reach r.small, r.grown)) brief in
      let next = bit_and to.0 ((2 ^ 64 - 1) - reach) in
      ⊎_elim
      (λ none. (w.0, reached_all f v d reach fresh to.0 row w.0 r w.1 to.1 to.2 none, w.2))
      (λ some. grow fuel v (d + 1) (bit_or reach next) next w.0 (reached_more f v d reach fresh to.0 row w.0 r w.1 to.1 to.2 some) w.2 (omega arith))
      (cases_eq next 0)

  row_exists : (v : ℕ) → v < 64 → Row v
  row_exists v h = grow 64 v 0 _ _ (λ _. None) (reached_none f v (λ _. None) h (λ _ _. refl)) (λ _. tt) (omega arith)

option_discrete : Discrete (Option ℕ)
option_discrete (Some m) (Some n) = elim (ℕ_discrete m n) [ yes e ↦ yes (ap Some e) | no ne ↦ no (λ e. ne (cc)) ]
option_discrete (Some m) None = no (λ e. let z : ◌≡◌ {A = ℕ} 0 1 = cc in omega arith)
option_discrete None (Some n) = no (λ e. let z : ◌≡◌ {A = ℕ} 0 1 = cc in omega arith)
option_discrete None None = yes refl

module _ (b : Task) (ok : Lawful b) where
  arcs_exist : (v : ℕ) → (s : ℕ) × Marks (Step b v) s × (s < 2 ^ 64)
  arcs_exist v =
      let added = union_exists (Swaps b v) (length b.actions) (λ a h. when_exists (In v (action b a).deletes) (action b a).adds (omega (arith, (ok.actions_known a h).1, pow_mono {i = b.facts} {j = 64} ok.few_facts.1)) (in_or_not v (action b a).deletes)) in
      let own = union_exists (BothIn b v) (length b.groups) (λ g h. when_exists (In v (group b g)) (group b g) (group_small b ok g h) (in_or_not v (group b g))) in
      (bit_and added.0 own.0, step_all b v (length b.actions) added.0 own.0 refl added.1 (together_all b v (length b.groups) own.0 refl own.1), omega (arith, added.2, and_le_l added.0 own.0))

  pub facts_exist : (v w : ℕ) → Together b v w → (r : Option ℕ) × Facts b v w r × Under 64 r
  facts_exist v w both =
      let row = row_exists (λ x. (arcs_exist x).0) (λ x. (arcs_exist x).2) v (fact_small b ok both.0 v both.1 both.2) in
      (row.0 w, facts_are b ok (λ x. (arcs_exist x).0) (λ x _. (arcs_exist x).1) v w (row.0 w) both (λ _ small. row.1 w small), row.2 w)

  -- a distance is below the number of facts
  pub facts_short : (v w : ℕ) (r : Option ℕ) → Facts b v w r → Under 64 r
  facts_short v w r x = let e = facts_exist v w (together b v w r x) in subst (Under 64) (one_far b ok v w e.0 r e.1 x) e.2

  facts_from : (v w : ℕ) (r : Option ℕ) → Together b v w → ∥ Facts b v w r ∥₁ → Facts b v w r
  facts_from v w r both t =
      let e = facts_exist v w both in
      subst (λ (s : Option ℕ). Facts b v w s) (∥∥₁_elim t (hedberg option_discrete e.0 r) (λ x. one_far b ok v w e.0 r e.1 x)) e.1

  pub charted_from : (t : Table) → ∥ Charted b t ∥₁ → Charted b t
  charted_from t cut v w both = facts_from v w (at t v w) both (∥∥₁_map cut (λ h. h v w both))

-- ---- what can be told

-- it is known whether P holds
abbrev Told : Type 0 → Type 0
Told P = P ⊎ (P → ⊥)

tell_below : (P : ℕ → Type 0) (n : ℕ) → ((k : ℕ) → Told (P k)) → Told ((k : ℕ) × (k < n) × P k)
tell_below P zero each = inr (λ p. omega (arith, p.1))
tell_below P (suc n) each =
    ⊎_elim (λ p. inl (p.0, omega (arith, p.1), p.2))
    (λ none. ⊎_elim (λ p. inl (n, omega arith, p)) (λ out. inr (λ p. ⊎_elim (λ e. out (subst P e p.2)) (λ ne. none (p.0, omega (arith, p.1), p.2)) (cases_eq p.0 n))) (each n))
    (tell_below P n each)

tell_meet : (s t : ℕ) → Told (Meet s t)
tell_meet s t = ⊎_elim (λ z. inr (λ m. meet_to s t m z)) (λ some. inl (meet_from s t some)) (cases_eq (bit_and s t) 0)

tell_up_to : (r : Option ℕ) (less d : ℕ) → Told (UpTo r less d)
tell_up_to (Some r) less d = ⊎_elim (λ l. inr (λ h. omega arith)) (λ l. inl (omega arith)) (cases_lt r (d + less))
tell_up_to None less d = inl tt

tell_rule : (P : Rule → Type 0) → ((rule : Rule) → Told (P rule)) → Told ((rule : Rule) × P rule)
tell_rule P each =
    ⊎_elim (λ p. inl (A1, p))
    (λ n1. ⊎_elim (λ p. inl (A2, p))
    (λ n2. ⊎_elim (λ p. inl (B1, p))
    (λ n3. ⊎_elim (λ p. inl (B2, p))
    (λ n4. ⊎_elim (λ p. inl (B3, p))
    (λ n5. ⊎_elim (λ p. inl (B4, p))
    (λ n6. inr (λ x. none n1 n2 n3 n4 n5 n6 x.0 x.1))
    (each B4)) (each B3)) (each B2)) (each B1)) (each A2)) (each A1)
  where
    none : (P A1 → ⊥) → (P A2 → ⊥) → (P B1 → ⊥) → (P B2 → ⊥) → (P B3 → ⊥) → (P B4 → ⊥) → (rule : Rule) → P rule → ⊥
    none n1 n2 n3 n4 n5 n6 A1 p = n1 p
    none n1 n2 n3 n4 n5 n6 A2 p = n2 p
    none n1 n2 n3 n4 n5 n6 B1 p = n3 p
    none n1 n2 n3 n4 n5 n6 B2 p = n4 p
    none n1 n2 n3 n4 n5 n6 B3 p = n5 p
    none n1 n2 n3 n4 n5 n6 B4 p = n6 p

nothing_prop : IsProp ⊥
nothing_prop p q = absurd p

told : {P : Type 0} → Told P → ∥ P ∥₁ → P
told (inl p) t = p
told (inr never) t = absurd (∥∥₁_elim t nothing_prop never)

module _ (b : Task) (ok : Lawful b) where
  tell_together : (v w : ℕ) → Told (Together b v w)
  tell_together v w =
      ⊎_elim (λ p. inl (p.0, p.1, p.2.0, p.2.1)) (λ none. inr (λ p. none (p.0, p.1, (p.2, p.3))))
      (tell_below (λ (g : ℕ). In v (group b g) × In w (group b g)) (length b.groups)
      (λ g. ⊎_elim (λ x. ⊎_elim (λ y. inl (x, y)) (λ out. inr (λ p. out p.1)) (in_or_not w (group b g))) (λ out. inr (λ p. out p.0)) (in_or_not v (group b g))))

  in_from : (i s : ℕ) → ∥ In i s ∥₁ → In i s
  in_from i s t = ⊎_elim (λ h. h) (λ out. absurd (∥∥₁_elim t nothing_prop out)) (in_or_not i s)

  pub grouped_from : (f : ℕ → ℕ) → ∥ Grouped b f ∥₁ → Grouped b f
  grouped_from f cut v small = record {
    only = λ j h. told (tell_together v j) (∥∥₁_map cut (λ g. (g v small).only j h));
    all = λ j p. in_from j (f v) (∥∥₁_map cut (λ g. (g v small).all j p));
  }

  -- what `Far` says of v and w
  abbrev FarAt : ℕ → ℕ → ℕ → ℕ → ℕ → ℕ → Type 0
  FarAt p q less d v w = (r : Option ℕ) × Facts b v w r × In v p × In w q × UpTo r less d

  tell_far_at : (p q less d v w : ℕ) → Told (FarAt p q less d v w)
  tell_far_at p q less d v w =
      ⊎_elim
      (λ both.
      let e = facts_exist b ok v w both in
      ⊎_elim
      (λ vp. ⊎_elim
      (λ wq. ⊎_elim
      (λ up. inl (e.0, e.1, vp, wq, up))
      (λ out. inr (λ x. out (subst (λ (s : Option ℕ). UpTo s less d) (one_far b ok v w x.0 e.0 x.1 e.1) x.4)))
      (tell_up_to e.0 less d))
      (λ out. inr (λ x. out x.3)) (in_or_not w q))
      (λ out. inr (λ x. out x.2)) (in_or_not v p))
      (λ apart. inr (λ x. apart (together b v w x.0 x.1))) (tell_together v w)

  tell_far : (p q less d : ℕ) → Told (Far b p q less d)
  tell_far p q less d =
      ⊎_elim
      (λ x. let y = x.2 in let z = y.2 in inl (x.0, y.0, z.0, z.1, z.2, z.3, z.4))
      (λ none. inr (λ (v, w, r, f, vp, wq, up). none (v, fact_small b ok f.group_of v f.within f.first, (w, fact_small b ok f.group_of w f.within f.second, (r, f, vp, wq, up)))))
      (tell_below (λ (v : ℕ). (w : ℕ) × (w < 64) × FarAt p q less d v w) 64 (λ v. tell_below (λ (w : ℕ). FarAt p q less d v w) 64 (λ w. tell_far_at p q less d v w)))

  tell_A1 : (a c d : ℕ) → Told ((f : ℕ) × In f (action b a).adds × In f (action b c).deletes × (d ≡ 0))
  tell_A1 a c d =
      ⊎_elim (λ m. ⊎_elim (λ e. inl (m.0, m.1, m.2, e)) (λ ne. inr (λ x. ne x.3)) (cases_eq d 0)) (λ none. inr (λ x. none (x.0, x.1, x.2))) (tell_meet (action b a).adds (action b c).deletes)

  tell_A2 : (a c d : ℕ) → Told ((f : ℕ) × In f (action b a).deletes × In f (action b c).needs × (d ≤ 1))
  tell_A2 a c d =
      ⊎_elim (λ m. ⊎_elim (λ l. inr (λ x. omega (arith, x.3))) (λ l. inl (m.0, m.1, m.2, l)) (cases_lt 1 d)) (λ none. inr (λ x. none (x.0, x.1, x.2))) (tell_meet (action b a).deletes (action b c).needs)

  tell_by : (rule : Rule) (a c d : ℕ) → Told (By rule b a c d)
  tell_by A1 a c d = tell_A1 a c d
  tell_by A2 a c d = tell_A2 a c d
  tell_by B1 a c d = tell_far (action b a).adds (action b c).adds 1 d
  tell_by B2 a c d = tell_far (action b a).adds (action b c).needs 0 d
  tell_by B3 a c d = tell_far (action b a).needs (action b c).adds 2 d
  tell_by B4 a c d = tell_far (action b a).needs (action b c).needs 1 d

  tell_ruled : (a c d : ℕ) → Told (Ruled b a c d)
  tell_ruled a c d = tell_rule (λ (rule : Rule). By rule b a c d) (λ rule. tell_by rule a c d)

  -- what forbids 66 rounds forbids every number: no distance that is a number is as great
  far_ever : (p q less d e : ℕ) → 66 ≤ d → Far b p q less d → Far b p q less e
  far_ever p q less d e big (v, w, Some r, f, vp, wq, up) = absurd (omega (arith, facts_short b ok v w (Some r) f))
  far_ever p q less d e big (v, w, None, f, vp, wq, up) = (v, w, None, f, vp, wq, tt)

  by_ever : (rule : Rule) (a c d e : ℕ) → 66 ≤ d → By rule b a c d → By rule b a c e
  by_ever A1 a c d e big h = absurd (omega (arith, h.3))
  by_ever A2 a c d e big h = absurd (omega (arith, h.3))
  by_ever B1 a c d e big h = far_ever (action b a).adds (action b c).adds 1 d e big h
  by_ever B2 a c d e big h = far_ever (action b a).adds (action b c).needs 0 d e big h
  by_ever B3 a c d e big h = far_ever (action b a).needs (action b c).adds 2 d e big h
  by_ever B4 a c d e big h = far_ever (action b a).needs (action b c).needs 1 d e big h

  -- the bound of what the rules forbid, where they forbid nothing from n on
  bound_below : (a c n : ℕ) → ((d : ℕ) → n ≤ d → Ruled b a c d → ⊥) → (k : Option ℕ) × Covers (Ruled b a c) k
  bound_below a c zero none = (Some 0, record { only = λ d l. absurd (omega arith); all = λ d h. absurd (none d (omega arith) h) })
  bound_below a c (suc n) none =
      ⊎_elim
      (λ h. (Some (suc n), record { only = λ d l. (h.0, by_down b h.0 a c n d (omega arith) h.1); all = λ d x. ⊎_elim (λ l. l) (λ l. absurd (none d l x)) (cases_lt d (suc n)) }))
      (λ out. bound_below a c n (λ d l x. ⊎_elim (λ e. out (subst (λ (m : ℕ). Ruled b a c m) e x)) (λ ne. none d (omega arith) x) (cases_eq d n)))
      (tell_ruled a c n)

  bound_exists : (a c : ℕ) → (k : Option ℕ) × Covers (Ruled b a c) k
  bound_exists a c =
      ⊎_elim
      (λ h. (None, record { only = λ d _. (h.0, by_ever h.0 a c 66 d (omega arith) h.1); all = λ _ _. tt }))
      (λ out. bound_below a c 66 (λ d l x. out (x.0, by_down b x.0 a c d 66 l x.1)))
      (tell_ruled a c 66)

  spared_exists : (k : Option ℕ) → (r : Option ℕ) × Spared k r
  spared_exists (Some n) = ⊎_elim (λ e. (Some 0, (λ _. refl, λ ne. absurd (ne e)))) (λ ne. (Some n, (λ e. absurd (ne e), λ _. refl))) (cases_eq n 1)
  spared_exists None = (None, refl)

  -- every two actions have a gap
  pub gap_exists : (a c : ℕ) → (r : Option ℕ) × Gap b a c r
  gap_exists a c =
      let k = bound_exists a c in
      ⊎_elim
      (λ e. let s = spared_exists k.0 in (s.0, gap_same b a c k.0 s.0 e s.1 k.1))
      (λ ne. (k.0, gap_other b a c k.0 ne k.1))
      (cases_eq a c)

  gap_from : (a c : ℕ) (r : Option ℕ) → ∥ Gap b a c r ∥₁ → Gap b a c r
  gap_from a c (Some zero) t = λ d f. ∥∥₁_elim t nothing_prop (λ x. x d f)
  gap_from a c (Some (suc m)) t = (
    (λ e. ∥∥₁_elim t nothing_prop (λ x. x.0.0 e), told (tell_ruled a c m) (∥∥₁_map t (λ x. x.0.1))),
    λ d l f. ∥∥₁_elim t nothing_prop (λ x. x.1 d l f),
  )
  gap_from a c None t = λ n. (
    suc n,
    omega arith,
    (λ e. omega (arith, e.1), told (tell_ruled a c (suc n)) (∥∥₁_map t (λ x. let p = x (suc n) in let q = p.2.1 in (q.0, by_down b q.0 a c p.0 (suc n) p.1 q.1)))),
  )

  pub spaced_from : (t : Table) → ∥ Spaced b t ∥₁ → Spaced b t
  spaced_from t cut a c ha hc = gap_from a c (at t a c) (∥∥₁_map cut (λ h. h a c ha hc))
