-- The ways along the graph of all arcs are those of the groups.
use Rattle.std.proofs.Common.{◌≡◌, ℕ, zero, suc, ◌^◌, ◌<◌, length, Some, None, Option, subst, ⊎_elim, arith, pow_mono}
use Rattle.std.proofs.lemmas.Bool.{cases_order}
use Rattle.sets.specs.Sets.{In, Marks}
use Rattle.sets.proofs.Members.{in_below}
use Rattle.model.specs.Tasks.{Task, Lawful, group}
use Rattle.model.specs.Distances.{Arc, PathOf, Distance, Facts}
use Rattle.londex.specs.Ways.{Together, Step, Steps, Least}

module _ (b : Task) (ok : Lawful b) where
  pub group_small : (g : ℕ) → g < length b.groups → group b g < 2 ^ 64
  group_small g h = omega (arith, (ok.groups_known g h).1, pow_mono {i = b.facts} {j = 64} ok.few_facts.1)

  pub fact_small : (g v : ℕ) → g < length b.groups → In v (group b g) → v < 64
  fact_small g v h i = in_below 64 v (group b g) (group_small g h) i

  -- a fact is of one group
  pub one_group : (g h v : ℕ) → g < length b.groups → h < length b.groups → In v (group b g) → In v (group b h) → g ≡ h
  one_group g h v gw hw gi hi =
      ⊎_elim (λ e. e) (⊎_elim (λ l. absurd (ok.groups_apart g h l hw v gi hi)) (λ l. absurd (ok.groups_apart h g l gw v hi gi))) (cases_order g h)

  module _ (f : ℕ → ℕ) (arcs : (v : ℕ) → v < 64 → Marks (Step b v) (f v)) (g : ℕ) (within : g < length b.groups) where
    arc_from : (v x : ℕ) → In v (group b g) → In x (f v) → Arc b g v x
    arc_from v x vg h =
        let s = (arcs v (fact_small g v within vg)).only x h in
        subst (λ (k : ℕ). Arc b k v x) (one_group s.0 g v s.1 within s.2.0 vg) s.2

    path_from : (n v w : ℕ) → In v (group b g) → Steps f v w n → PathOf b g v w n
    path_from zero v w vg same = same
    path_from (suc n) v w vg (x, step, rest) = let arc = arc_from v x vg step in (x, arc, path_from n x w arc.1 rest)

    path_to : (n v w : ℕ) → PathOf b g v w n → Steps f v w n
    path_to zero v w same = same
    path_to (suc n) v w (x, arc, rest) = (x, (arcs v (fact_small g v within arc.0)).all x (g, within, arc), path_to n x w rest)

    pub distance_is : (v w : ℕ) (r : Option ℕ) → In v (group b g) → Least f v w r → Distance b g v w r
    distance_is v w (Some r) vg x = (path_from r v w vg x.0, λ n l p. x.1 n l (path_to n v w p))
    distance_is v w None vg x = λ n p. x n (path_to n v w p)

  pub facts_are : (f : ℕ → ℕ) → ((v : ℕ) → v < 64 → Marks (Step b v) (f v)) → (v w : ℕ) (r : Option ℕ) → Together b v w → (v < 64 → w < 64 → Least f v w r) → Facts b v w r
  facts_are f arcs v w r (g, within, vg, wg) x =
      record { group_of = g; within = within; first = vg; second = wg; far = distance_is f arcs g within v w r vg (x (fact_small g v within vg) (fact_small g w within wg)) }
