-- The first fault of a whole book, number by number.
use Rattle.std.proofs.Common.{◌≡◌, ℕ, ◌<◌, ◌⊎◌, Some, ⊎_elim, arith}
use Rattle.sets.specs.Sets.{Lowest}
use Rattle.model.specs.Tasks.{Task}
use Rattle.faults.specs.declared.Fault.{Fault}
use Rattle.faults.specs.declared.Fault.TheVariants.{Field, BytesLeft, AddsAndDeletes, SharedGroup, NotOneAtStart, BrokenGroup, BarAtStart}
use Rattle.faults.specs.Faults.{Breaks, Earlier, FirstBroken}

later : {P : Type 0} (m n : ℕ) → n < m → (m < n) ⊎ ((m ≡ n) × P) → ⊥
later m n l e = ⊎_elim (λ h. omega (arith, l)) (λ h. let same = h.0 in omega (arith, l)) e

lower : {P : Type 0} (n : ℕ) → (n < n) ⊎ ((n ≡ n) × P) → P
lower n e = ⊎_elim (λ h. absurd (omega (arith, h))) (λ h. h.1) e

module _ (b : Task) where
  -- no fault of this kind
  abbrev pub Free : (ℕ → Fault) → Type 0
  Free fault = (k : ℕ) → Breaks b (fault k) → ⊥

  pub unbroken : Free AddsAndDeletes → Free SharedGroup → Free NotOneAtStart → Free BrokenGroup → Free BarAtStart → (f : Fault) → Breaks b f → ⊥
  unbroken n7 n8 n9 n10 n11 (Field r f) h = h
  unbroken n7 n8 n9 n10 n11 (BytesLeft at) h = h
  unbroken n7 n8 n9 n10 n11 (AddsAndDeletes a) h = n7 a h
  unbroken n7 n8 n9 n10 n11 (SharedGroup g) h = n8 g h
  unbroken n7 n8 n9 n10 n11 (NotOneAtStart g) h = n9 g h
  unbroken n7 n8 n9 n10 n11 (BrokenGroup a) h = n10 a h
  unbroken n7 n8 n9 n10 n11 (BarAtStart i) h = n11 i h

  module _ (f : Fault) where
    -- none of this kind comes before f
    abbrev NoneBefore : (ℕ → Fault) → Type 0
    NoneBefore fault = (k : ℕ) → Earlier (fault k) f → Breaks b (fault k) → ⊥

    first_from : Breaks b f → NoneBefore AddsAndDeletes → NoneBefore SharedGroup → NoneBefore NotOneAtStart → NoneBefore BrokenGroup → NoneBefore BarAtStart → FirstBroken b f
    first_from here n7 n8 n9 n10 n11 = (here, go)
      where
        go : (e : Fault) → Breaks b e → Earlier e f → ⊥
        go (Field r d) h l = h
        go (BytesLeft at) h l = h
        go (AddsAndDeletes a) h l = n7 a l h
        go (SharedGroup g) h l = n8 g l h
        go (NotOneAtStart g) h l = n9 g l h
        go (BrokenGroup a) h l = n10 a l h
        go (BarAtStart i) h l = n11 i l h

  -- ---- the finders, one after the other

  abbrev pub Found : ℕ → (ℕ → Fault) → Type 0
  Found i fault = Lowest (Some i) (λ k. Breaks b (fault k))

  pub first_7 : (a : ℕ) → Found a AddsAndDeletes → FirstBroken b (AddsAndDeletes a)
  first_7 a found = first_from (AddsAndDeletes a) found.0
      (λ k e. found.1 k (lower 7 e))
      (λ k e. absurd (later 8 7 (omega arith) e))
      (λ k e. absurd (later 9 7 (omega arith) e))
      (λ k e. absurd (later 10 7 (omega arith) e))
      (λ k e. absurd (later 11 7 (omega arith) e))

  module _ (n7 : Free AddsAndDeletes) where
    pub first_8 : (g : ℕ) → Found g SharedGroup → FirstBroken b (SharedGroup g)
    first_8 g found = first_from (SharedGroup g) found.0
        (λ k e. n7 k)
        (λ k e. found.1 k (lower 8 e))
        (λ k e. absurd (later 9 8 (omega arith) e))
        (λ k e. absurd (later 10 8 (omega arith) e))
        (λ k e. absurd (later 11 8 (omega arith) e))

    module _ (n8 : Free SharedGroup) where
      pub first_9 : (g : ℕ) → Found g NotOneAtStart → FirstBroken b (NotOneAtStart g)
      first_9 g found = first_from (NotOneAtStart g) found.0
          (λ k e. n7 k)
          (λ k e. n8 k)
          (λ k e. found.1 k (lower 9 e))
          (λ k e. absurd (later 10 9 (omega arith) e))
          (λ k e. absurd (later 11 9 (omega arith) e))

      module _ (n9 : Free NotOneAtStart) where
        pub first_10 : (a : ℕ) → Found a BrokenGroup → FirstBroken b (BrokenGroup a)
        first_10 a found = first_from (BrokenGroup a) found.0
            (λ k e. n7 k)
            (λ k e. n8 k)
            (λ k e. n9 k)
            (λ k e. found.1 k (lower 10 e))
            (λ k e. absurd (later 11 10 (omega arith) e))

        pub first_11 : Free BrokenGroup → (i : ℕ) → Found i BarAtStart → FirstBroken b (BarAtStart i)
        first_11 n10 i found = first_from (BarAtStart i) found.0 (λ k e. n7 k) (λ k e. n8 k) (λ k e. n9 k) (λ k e. n10 k) (λ k e. found.1 k (lower 11 e))
