-- What `position` and `find` answer, as the lowest number that passes.
use Rattle.std.proofs.Common.{◌≡◌, ℕ, ◌<◌, ◌≤◌, Bool, true, false, Decides, List, length, slice_index_or, Some, None, Option, MatchOption, refl, subst, arith}
use Rattle.std.proofs.iter.Yields.{nat_range_steps}
use Rattle.std.proofs.lemmas.Iterator.{IsFirst-from_position, YieldsList, first_from_Range}
use Rattle.std.specs.Fn.{Called, CalledAt}
use Rattle.std.specs.Iterator.{YieldsThen}
use Rattle.std.specs.List.{FoldsTo, AllWithin, HoldsAt}
use Rattle.std.specs.declared.ops.Range.{Range}
use denote.Param.Members.{Mut}
use denote.Ref.{Bor}
use Rattle.sets.specs.Sets.{Lowest}

module _ {A : Type 0} (Yes : A → Type 0) (xs : List A) (e : A) where
  -- the first place with Yes, and that place as a number of fewer bits
  first_lowest : (r m : Option ℕ) → MatchOption r (AllWithin (λ x. Yes x → ⊥) xs 0 (length xs)) (λ i. (i < length xs) × HoldsAt Yes xs i × AllWithin (λ x. Yes x → ⊥) xs 0 i)
      → (r ≡ None → m ≡ None) → ((i : ℕ) → i < length xs → r ≡ Some i → m ≡ Some i)
      → Lowest m (λ i. (i < length xs) × Yes (slice_index_or xs i e))
  first_lowest None m h none some = rw (none refl) (λ k p. h k e (omega arith) p.0 p.1)
  first_lowest (Some i) m h none some = rw (some i h.0 refl) ((h.0, h.1 e), λ k l p. h.2 k e (omega arith) l p.1)

-- `position`, by a test of Yes, and its place as a number of fewer bits
pub placed_lowest : {S A B F : Type 0} {steps : S → Option A → S → Type 0} {v : A → B} {g : Mut F (A × Unit {0}) Bool} {s : S} {r m : Option ℕ} (Yes : B → Type 0) (all : List B) (e : B) (u : S) (f : F)
    → (xs : List A) × (o : Option A) × (j : F) × YieldsThen steps s xs o u × FoldsTo (λ p x q. Called g p (x, tt) false q) f xs j × MatchOption o (r ≡ None) (λ x. (r ≡ Some (length xs)) × ((h : F) × Called g j (x, tt) true h))
    → YieldsList steps v s all
    → ((x : A) (q : F) → Called g f (x, tt) true q → Yes (v x))
    → ((x : A) (q : F) → Called g f (x, tt) false q → (q ≡ f) × (Yes (v x) → ⊥))
    → (r ≡ None → m ≡ None)
    → ((i : ℕ) → i < length all → r ≡ Some i → m ≡ Some i)
    → Lowest m (λ i. (i < length all) × Yes (slice_index_or all i e))
placed_lowest {r = r} {m = m} Yes all e u f ran yields hit miss none some =
    first_lowest Yes all e r m (IsFirst-from_position u f r Yes (λ x. Yes x → ⊥) ran yields hit miss) none some

-- `find` over a range: the test is of T; of the numbers in the range those with T are those with P, and no others have P
pub lowest_found : {F : Type 0} {g : Mut F (Bor ℕ × Unit {0}) Bool} (s u : Range ℕ) (f : F) (r : Option ℕ) (T P : ℕ → Type 0)
    → (xs : List ℕ) × (j : F) × YieldsThen nat_range_steps s xs r u × FoldsTo (λ p x q. CalledAt g p x false q) f xs j × MatchOption r (Unit {0}) (λ x. (h : F) × CalledAt g j x true h)
    → ((x : Bor ℕ) (t : Bool) (q : F) → Called g f (x, tt) t q → (q ≡ f) × Decides t (T x.now))
    → ((k : ℕ) → s.start ≤ k → k < s.end → T k → P k)
    → ((k : ℕ) → P k → (s.start ≤ k) × (k < s.end) × T k)
    → Lowest r P
lowest_found {g = g} s u f r T P ran test gives within =
    by r (first_from_Range s u f r T (λ x. T x → ⊥) ran (λ x q k. (at x true q k).1.0 refl) (λ x q k. let w = at x false q k in (w.0, λ t. absurd (cc (w.1.1 t)))))
  where
    at : (x : ℕ) (t : Bool) (q : _) → CalledAt g f x t q → (q ≡ f) × Decides t (T x)
    at x t q k = let w = test k.shown t q k.called in (w.0, subst (λ (n : ℕ). Decides t (T n)) k.shows w.1)

    by : (o : Option ℕ) → MatchOption o ((k : ℕ) → s.start ≤ k → k < s.end → T k → ⊥) (λ i. (s.start ≤ i) × (i < s.end) × T i × ((k : ℕ) → s.start ≤ k → k < i → T k → ⊥)) → Lowest o P
    by None none = λ k p. let w = within k p in none k w.0 w.1 w.2
    by (Some i) h = (gives i h.0 h.1 h.2, λ k less p. let w = within k p in h.3 k w.0 less w.2)
