-- What `find_map` answers over a range, as the lowest pair that passes.
use Rattle.std.proofs.Common.{◌≡◌, ℕ, ◌+◌, ◌-◌, ◌<◌, ◌≤◌, Some, None, Option, MatchOption, IsTrue, refl, sym, ap, subst, arith}
use Rattle.std.proofs.iter.Yields.{nat_range_steps}
use Rattle.std.specs.Fn.{Called}
use Rattle.std.specs.Iterator.Runs.{SomeRun, AllItemsGive, IsFirstToGive, ItemsCountUp}
use Rattle.std.specs.Option.{option_map, IfSome, IsSomeAnd}
use Rattle.std.proofs.iter.runs.Sources.{range_runs}
use Rattle.std.specs.declared.ops.Range.{Range}
use denote.Param.Members.{Mut}
use Rattle.sets.specs.Sets.{Lowest}
use Rattle.plan_check.specs.Finds.{LowestPair}

unmapped : (o : Option ℕ) (n : ℕ) → option_map (λ y. y) o ≡ Some n → o ≡ Some n
unmapped None n e = e
unmapped (Some x) n e = e

-- the first number of a range at which something was given gave y, or each gave None; what is given at i is told by Q
abbrev pub FirstMapped : {B : Type 0} → (ℕ → Option B → Type 0) → Range ℕ → Option B → Type 0
FirstMapped Q s None = (i : ℕ) → s.start ≤ i → i < s.end → Q i None
FirstMapped Q s (Some y) = (i : ℕ) × Q i (Some y) × ((k : ℕ) → s.start ≤ k → k < i → Q k None)

-- `find_map`
module _ {F B : Type 0} (g : Mut F (ℕ × Unit {0}) (Option B)) (f : F) (Q : ℕ → Option B → Type 0) (test : (i : ℕ) (o : Option B) (q : F) → Called g f (i, tt) o q → (q ≡ f) × Q i o) where
  pub first_mapped : (s : Range ℕ) (r : Option B)
      → SomeRun nat_range_steps s (λ p. MatchOption r (IsTrue p.whole × AllItemsGive p g f None) (λ y. (i : ℕ) × (i < p.len) × (p.len ≡ i + 1) × IsFirstToGive p g f (Some y) None i))
      → FirstMapped Q s r
  first_mapped s r (p, from, runs) = by r runs
    where
      up : ItemsCountUp p p.from.start p.from.end
      up = range_runs p p.seen

      keeps : (a : ℕ × Unit {0}) (r : Option B) (q : F) → Called g f a r q → q ≡ f
      keeps a r q call = (test a.0 r q call).0

      at : (k : ℕ) → k < p.len → p.at k ≡ Some (s.start + k)
      at k less = unmapped (p.at k) (s.start + k) (subst (λ (s : Range ℕ). option_map (λ y. y) (p.at k) ≡ Some (s.start + k)) from (up.3 k less))

      by : (r : Option B) → MatchOption r (IsTrue p.whole × AllItemsGive p g f None) (λ y. (i : ℕ) × (i < p.len) × (p.len ≡ i + 1) × IsFirstToGive p g f (Some y) None i) → FirstMapped Q s r
      by None h = λ i a b.
          let less : i - s.start < p.len = omega (arith, a, b, up.1 h.0, ap (λ (s : Range ℕ). s.end) from, ap (λ (s : Range ℕ). s.start) from) in
          let is : s.start + (i - s.start) ≡ i = omega (arith, a) in
          subst (λ (n : ℕ). Q n None) is (test (s.start + (i - s.start)) None f (subst (λ o. IfSome o (λ x. Called g f (x, tt) None f)) (at (i - s.start) less) (h.1 keeps (i - s.start)))).1
      by (Some y) h =
          let first = h.3 keeps in (
            s.start + h.0,
            (test (s.start + h.0) (Some y) f (subst (λ o. IsSomeAnd o (λ x. Called g f (x, tt) (Some y) f)) (at h.0 h.1) first.0)).1,
            λ k a b.
                let less : k - s.start < h.0 = omega (arith, a, b) in
                let is : s.start + (k - s.start) ≡ k = omega (arith, a) in
                subst (λ (n : ℕ). Q n None) is (test (s.start + (k - s.start)) None f (subst (λ o. IsSomeAnd o (λ x. Called g f (x, tt) None f)) (at (k - s.start) (omega (arith, less, h.1))) (first.1 (k - s.start) less))).1,
          )

-- the first pair by its first number, of the first pairs at each
pub lowest_pair : (P : ℕ → ℕ → Type 0) (s : Range ℕ) (r : Option (ℕ × ℕ)) → ((k m : ℕ) → P k m → (s.start ≤ k) × (k < s.end)) → FirstMapped (λ a o. LowestPair o (λ k m. (k ≡ a) × P k m)) s r → LowestPair r P
lowest_pair P s None within h = λ k m p. let w = within k m p in h k w.0 w.1 k m (refl, p)
lowest_pair P s (Some (i, j)) within (a, found, earlier) = (
  found.0.1,
  λ k m less p. earlier k (within k m p).0 (omega (arith, less, found.0.0)) k m (refl, p),
  λ m less p. found.2 m less (found.0.0, p),
)

-- the lowest number beside a, as a pair
pub pair_lowest : (a : ℕ) (P : ℕ → ℕ → Type 0) (o : Option ℕ) (r : Option (ℕ × ℕ)) → r ≡ option_map (λ k. (a, k)) o → Lowest o (P a) → LowestPair r (λ i k. (i ≡ a) × P i k)
pair_lowest a P o r is h = subst (λ r. LowestPair r (λ i k. (i ≡ a) × P i k)) (sym is) (by o h)
  where
    by : (o : Option ℕ) → Lowest o (P a) → LowestPair (option_map (λ k. (a, k)) o) (λ i k. (i ≡ a) × P i k)
    by None h = λ i k p. h k (subst (λ (n : ℕ). P n k) p.0 p.1)
    by (Some k) h = ((refl, h.0), λ i m less p. omega (arith, less, p.0), λ m less p. h.1 m less p.1)
