-- The six rules, sorted by the fact of the second action, and the gap that they give.
use Rattle.std.proofs.Common.{◌≡◌, ℕ, zero, suc, ◌^◌, ◌<◌, ◌⊎◌, ◌≢◌, List, length, set, Some, None, Option, sym, refl, ap, subst, inl, inr, ⊎_elim, arith, pow_mono, get_or-set_other, get_or-set_same}
use lib.Bits.{bit_and, bit_or}
use Rattle.std.proofs.lemmas.Bool.{cases_eq, cases_order}
use Rattle.model.specs.declared.Action.{Action}
use Rattle.sets.specs.Sets.{In, Marks}
use Rattle.sets.proofs.Members.{in_or, or_left, or_right, in_and, and_in, in_below}
use Rattle.model.specs.Tasks.{Task, Lawful, Has, action}
use Rattle.model.specs.Distances.{Distance, Facts}
use Rattle.model.specs.Gaps.{UpTo, Rule, A1, A2, B1, B2, B3, B4, By, Gap, Closer}
use Rattle.londex.specs.Ways.{Together, Led, entry}
use Rattle.londex.specs.Tables.{Table, at, Grouped, Charted}
use Rattle.londex.specs.Bounds.{Covers, Spared, Waits, KeptOff}
use Rattle.londex.proofs.Covers.{covers_like}
use Rattle.londex.proofs.Paths.{fact_small, one_group}

-- ---- distances

-- there is one distance
pub one_distance : (b : Task) (g v w : ℕ) (r s : Option ℕ) → Distance b g v w r → Distance b g v w s → r ≡ s
one_distance b g v w (Some r) (Some s) x y =
    ap Some (⊎_elim (λ e. e) (⊎_elim (λ l. absurd (y.1 r l x.0)) (λ l. absurd (x.1 s l y.0))) (cases_order r s))
one_distance b g v w (Some r) None x y = absurd (y r x.0)
one_distance b g v w None (Some s) x y = absurd (x s y.0)
one_distance b g v w None None x y = refl

pub together : (b : Task) (v w : ℕ) (r : Option ℕ) → Facts b v w r → Together b v w
together b v w r f = (f.group_of, f.within, f.first, f.second)

pub turned : (b : Task) (v w : ℕ) → Together b v w → Together b w v
turned b v w (g, within, vg, wg) = (g, within, wg, vg)

pub one_far : (b : Task) → Lawful b → (v w : ℕ) (r s : Option ℕ) → Facts b v w r → Facts b v w s → r ≡ s
one_far b ok v w r s x y =
    one_distance b y.group_of v w r s (subst (λ (g : ℕ). Distance b g v w r) (one_group b ok x.group_of y.group_of v x.within y.within x.first y.first) x.far) y.far

-- one less off is one round more
less_off : (r : Option ℕ) (less d : ℕ) → UpTo r (suc less) d → UpTo r less (suc d)
less_off (Some r) less d h = omega arith
less_off None less d h = tt

more_off : (r : Option ℕ) (less d : ℕ) → UpTo r less (suc d) → UpTo r (suc less) d
more_off (Some r) less d h = omega arith
more_off None less d h = tt

-- ---- the rules

-- some rule forbids d rounds from a to c, the same action in one round not yet exempt
abbrev pub Ruled : Task → ℕ → ℕ → ℕ → Type 0
Ruled b a c d = (rule : Rule) × By rule b a c d

module _ (b : Task) (ok : Lawful b) (own : ℕ → ℕ) (grouped : Grouped b own) (t : Table) (charted : Charted b t) where
  member_small : (a : ℕ) → Has b a → ((action b a).needs < 2 ^ 64) × ((action b a).adds < 2 ^ 64)
  member_small a has =
      let k = ok.actions_known a has in
      let p = pow_mono {i = b.facts} {j = 64} ok.few_facts.1 in
      (omega (arith, k.0), omega (arith, k.1))

  -- a fact of one group with w is one of those that w's group has
  own_has : (v w : ℕ) → Together b v w → In v (own w)
  own_has v w both = (grouped w (fact_small b ok both.0 w both.1 both.3)).all v (turned b v w both)

  own_is : (v w : ℕ) → w < 64 → In v (own w) → Together b v w
  own_is v w small h = turned b w v ((grouped w small).only v h)

  -- the same with the distance of the table
  charted_up : (v w : ℕ) (r : Option ℕ) (less d : ℕ) → Facts b v w r → UpTo r less d → UpTo (at t v w) less d
  charted_up v w r less d f up = subst (λ (s : Option ℕ). UpTo s less d) (one_far b ok v w r (at t v w) f (charted v w (together b v w r f))) up

  module _ (a c : ℕ) (ha : Has b a) (near : ℕ) (nearby : Marks (Led own (bit_or (action b a).adds (action b a).needs)) near) (row : ℕ → Option ℕ) (waits : (w : ℕ) → w < 64 → Covers (Waits t (own w) (action b a) w) (row w)) where
    -- the first action
    abbrev x : Action
    x = action b a

    -- the second
    abbrev y : Action
    y = action b c

    -- a member of near has a group with a fact that x adds or needs
    near_small : (w : ℕ) → In w near → w < 64
    near_small w h =
        let l = nearby.only w h in
        let v_small = ⊎_elim (λ k. in_below 64 l.0 x.adds (member_small a ha).1 k) (λ k. in_below 64 l.0 x.needs (member_small a ha).0 k) (in_or l.0 x.adds x.needs l.1) in
        let both = (grouped l.0 v_small).only w l.2 in
        fact_small b ok both.0 w both.1 both.3

    near_has : (v w : ℕ) → In v (bit_or x.adds x.needs) → Together b v w → In w near
    near_has v w h both = nearby.all w (v, h, (grouped v (fact_small b ok both.0 v both.1 both.2)).all w both)

    row_small : (v w : ℕ) → Together b v w → w < 64
    row_small v w both = fact_small b ok both.0 w both.1 both.3

    -- what the waits forbid to what needs w
    after_add : (v w : ℕ) (r : Option ℕ) (d : ℕ) → Facts b v w r → In v x.adds → UpTo r 0 d → Closer (row w) d
    after_add v w r d f va up =
        let both = together b v w r f in
        (waits w (row_small v w both)).all d (inl (v, and_in v x.adds (own w) va (own_has v w both), charted_up v w r 0 d f up))

    after_need : (v w : ℕ) (r : Option ℕ) (d : ℕ) → Facts b v w r → In v x.needs → UpTo r 0 (suc d) → Closer (row w) d
    after_need v w r d f vn up =
        let both = together b v w r f in
        (waits w (row_small v w both)).all d (inr (v, and_in v x.needs (own w) vn (own_has v w both), charted_up v w r 0 (suc d) f up))

    -- a fact w of q is near, as v is one of x's
    near_in : (v w q : ℕ) (r : Option ℕ) → Facts b v w r → In v (bit_or x.adds x.needs) → In w q → In w (bit_and q near)
    near_in v w q r f h wq = and_in w q near wq (near_has v w h (together b v w r f))

    ruled_to : (d : ℕ) → Ruled b a c d → KeptOff x y near row d
    ruled_to d (A1, h) = inl (inl h)
    ruled_to d (A2, h) = inl (inr h)
    ruled_to d (B1, (v, w, r, f, vp, wq, up)) = inr (inr (w, near_in v w y.adds r f (or_left v x.adds x.needs vp) wq, after_add v w r (suc d) f vp (less_off r 0 d up)))
    ruled_to d (B2, (v, w, r, f, vp, wq, up)) = inr (inl (w, near_in v w y.needs r f (or_left v x.adds x.needs vp) wq, after_add v w r d f vp up))
    ruled_to d (B3, (v, w, r, f, vp, wq, up)) = inr (inr (w, near_in v w y.adds r f (or_right v x.adds x.needs vp) wq, after_need v w r (suc d) f vp (less_off r 0 (suc d) (less_off r 1 d up))))
    ruled_to d (B4, (v, w, r, f, vp, wq, up)) = inr (inl (w, near_in v w y.needs r f (or_right v x.adds x.needs vp) wq, after_need v w r d f vp (less_off r 0 d up)))

    -- what a wait stands for
    waits_from : (w d : ℕ) → In w near → Closer (row w) d → ((v : ℕ) × Facts b v w (at t v w) × In v x.adds × UpTo (at t v w) 0 d) ⊎ ((v : ℕ) × Facts b v w (at t v w) × In v x.needs × UpTo (at t v w) 0 (suc d))
    waits_from w d h l =
        let small = near_small w h in
        ⊎_elim
        (λ p. let k = in_and p.0 x.adds (own w) p.1 in inl (p.0, charted p.0 w (own_is p.0 w small k.1), k.0, p.2))
        (λ p. let k = in_and p.0 x.needs (own w) p.1 in inr (p.0, charted p.0 w (own_is p.0 w small k.1), k.0, p.2))
        ((waits w small).only d l)

    ruled_from : (d : ℕ) → KeptOff x y near row d → Ruled b a c d
    ruled_from d (inl (inl h)) = (A1, h)
    ruled_from d (inl (inr h)) = (A2, h)
    ruled_from d (inr (inl (w, h, l))) =
        let k = in_and w y.needs near h in
        ⊎_elim
        (λ p. (B2, (p.0, w, at t p.0 w, p.1, p.2, k.0, p.3)))
        (λ p. (B4, (p.0, w, at t p.0 w, p.1, p.2, k.0, more_off (at t p.0 w) 0 d p.3)))
        (waits_from w d k.1 l)
    ruled_from d (inr (inr (w, h, l))) =
        let k = in_and w y.adds near h in
        ⊎_elim
        (λ p. (B1, (p.0, w, at t p.0 w, p.1, p.2, k.0, more_off (at t p.0 w) 0 d p.3)))
        (λ p. (B3, (p.0, w, at t p.0 w, p.1, p.2, k.0, more_off (at t p.0 w) 1 d (more_off (at t p.0 w) 0 (suc d) p.3))))
        (waits_from w (suc d) k.1 l)

    ruled_covers : (k : Option ℕ) → Covers (KeptOff x y near row) k → Covers (Ruled b a c) k
    ruled_covers k h = covers_like k ruled_from ruled_to h

  -- the same of actions as they stand in the book's table
  pub kept_covers : (a c near : ℕ) (x y : Action) (row : ℕ → Option ℕ) (k : Option ℕ) → Has b a → action b a ≡ x → action b c ≡ y → Marks (Led own (bit_or x.adds x.needs)) near → ((w : ℕ) → w < 64 → Covers (Waits t (own w) x w) (row w)) → Covers (KeptOff x y near row) k → Covers (Ruled b a c) k
  kept_covers a c near x y row k ha xe ye nearby waits h =
      ruled_covers a c ha near (subst (λ (z : Action). Marks (Led own (bit_or z.adds z.needs)) near) (sym xe) nearby) row
      (λ w small. subst (λ (z : Action). Covers (Waits t (own w) z w) (row w)) (sym xe) (waits w small)) k
      (subst (λ (z : Action). Covers (KeptOff z (action b c) near row) k) (sym xe) (subst (λ (z : Action). Covers (KeptOff x z near row) k) (sym ye) h))

-- ---- the gap

module _ (b : Task) (a c : ℕ) where
  -- the bound of the rules is the gap, but where it forbids only the exempt
  gap_is : (k : Option ℕ) → (a ≡ c → k ≡ Some 1 → ⊥) → Covers (Ruled b a c) k → Gap b a c k
  gap_is (Some zero) other x = λ d f. omega (arith, x.all d f.1)
  gap_is (Some (suc m)) other x = ((λ e. other e.0 (ap (λ n. Some (suc n)) e.1), x.only m (omega arith)), λ d l f. omega (arith, x.all d f.1))
  gap_is None other x = λ n. (suc n, omega arith, (λ e. omega (arith, e.1), x.only (suc n) tt))

  gap_exempt : a ≡ c → Covers (Ruled b a c) (Some 1) → Gap b a c (Some 0)
  gap_exempt same x = λ d f. f.0 (same, omega (arith, x.all d f.1))

  pub gap_same : (k r : Option ℕ) → a ≡ c → Spared k r → Covers (Ruled b a c) k → Gap b a c r
  gap_same (Some n) r same s x =
      ⊎_elim (λ e. subst (λ (r : Option ℕ). Gap b a c r) (sym (s.0 e)) (gap_exempt same (subst (λ (n : ℕ). Covers (Ruled b a c) (Some n)) e x)))
      (λ ne. subst (λ (r : Option ℕ). Gap b a c r) (sym (s.1 ne)) (gap_is (Some n) (λ _ e. ne (cc)) x)) (cases_eq n 1)
  gap_same None r same s x = subst (λ (r : Option ℕ). Gap b a c r) (sym s) (gap_is None (λ _ e. let z : ◌≡◌ {A = ℕ} 0 1 = cc in omega arith) x)

  pub gap_other : (k : Option ℕ) → (a ≡ c → ⊥) → Covers (Ruled b a c) k → Gap b a c k
  gap_other k differ x = gap_is k (λ e _. differ e) x

-- the bounds after a as gaps, once that of a itself is spared
pub gap_spared : (b : Task) (a c : ℕ) (row : List (Option ℕ)) (r : Option ℕ) → a < length row → Spared (entry row a) r → Covers (Ruled b a c) (entry row c) → Gap b a c (entry (set row a r) c)
gap_spared b a c row r inside s x =
    ⊎_elim
    (λ e. subst (λ (n : ℕ). Gap b a n (entry (set row a r) n)) e (subst (Gap b a a) (sym (get_or-set_same row a r None inside)) (gap_same b a a (entry row a) r refl s (subst (λ (n : ℕ). Covers (Ruled b a n) (entry row n)) (sym e) x))))
    (λ ne. let off : c ≢ a = λ e. ne (sym e) in subst (Gap b a c) (sym (get_or-set_other row a c r None off)) (gap_other b a c (entry row c) ne x))
    (cases_eq a c)
