-- More items at the first blank places.
use Rattle.std.proofs.Common.{◌≡◌, ℕ, zero, suc, ◌+◌, ◌-◌, ◌<◌, ◌≤◌, List, [], ◌∷◌, ◌++◌, length, take, drop, replicate, slice_set, refl, sym, ap, ◌∙◌, arith, length-append}
use Rattle.std.proofs.lemmas.List.{length-take-le, append_assoc, take_at, drop_at, length-replicate}
use Rattle.few.specs.Rows.{filled_up}

module _ {A : Type 0} (blank x : A) where
  set_past : (xs : List A) (k : ℕ) → slice_set (xs ++ replicate (suc k) blank) (length xs) x ≡ (xs ++ (x ∷ [])) ++ replicate k blank
  set_past [] k = refl
  set_past (y ∷ xs) k = ap (λ (zs : List A). y ∷ zs) (set_past xs k)

  take_past : (xs : List A) (ys : List A) → take (suc (length xs)) ((xs ++ (x ∷ [])) ++ ys) ≡ xs ++ (x ∷ [])
  take_past [] ys = refl
  take_past (y ∷ xs) ys = ap (λ (zs : List A). y ∷ zs) (take_past xs ys)

  row_after : (n : ℕ) (xs : List A) → length xs < n → slice_set (filled_up n blank xs) (length xs) x ≡ filled_up n blank (xs ++ (x ∷ []))
  row_after n xs lt =
      let e : n - length xs ≡ suc (n - length (xs ++ (x ∷ []))) = omega (arith, lt, length-append xs (x ∷ [])) in
      ap (λ (k : ℕ). slice_set (xs ++ replicate k blank) (length xs) x) e ∙ set_past xs (n - length (xs ++ (x ∷ [])))

  -- the row after it, and its front
  pub pushed : (n len : ℕ) (slots : List A) → length slots ≡ n → len < n → slots ≡ filled_up n blank (take len slots) → (slice_set slots len x ≡ filled_up n blank (take len slots ++ (x ∷ []))) × (take (len + 1) (slice_set slots len x) ≡ take len slots ++ (x ∷ []))
  pushed n len slots full lt is =
      let front = take len slots in
      let e : length front ≡ len = length-take-le len slots (omega (arith, full, lt)) in
      let row : slice_set slots len x ≡ filled_up n blank (front ++ (x ∷ [])) =
      ap (λ (zs : List A). slice_set zs len x) is ∙ ap (λ (k : ℕ). slice_set (filled_up n blank front) k x) (sym e) ∙ row_after n front (omega (arith, e, lt))
      in (
        row,
        ap (λ (zs : List A). take (len + 1) zs) row
            ∙ (let one : len + 1 ≡ suc (length front) = omega (arith, e) in ap (λ (k : ℕ). take k (filled_up n blank (front ++ (x ∷ [])))) one)
            ∙ take_past front (replicate (n - length (front ++ (x ∷ []))) blank),
      )

module _ {A : Type 0} (blank : A) where
  drop_blank : (k m : ℕ) → drop k (replicate m blank) ≡ replicate (m - k) blank
  drop_blank zero m = let e : m - 0 ≡ m = omega arith in ap (λ (n : ℕ). replicate n blank) (sym e)
  drop_blank (suc k) zero = let e : 0 - suc k ≡ 0 = omega arith in ap (λ (n : ℕ). replicate n blank) (sym e)
  drop_blank (suc k) (suc m) =
      let e : suc m - suc k ≡ m - k = omega arith in drop_blank k m ∙ ap (λ (n : ℕ). replicate n blank) (sym e)

  pub filled_length : (n : ℕ) (xs : List A) → length xs ≤ n → length (filled_up n blank xs) ≡ n
  filled_length n xs fits = omega (arith, fits, length-append xs (replicate (n - length xs) blank), length-replicate (n - length xs) blank)

  -- the row after some more, and its front
  pub extended : (n len : ℕ) (slots items : List A) → length slots ≡ n → len + length items ≤ n → slots ≡ filled_up n blank (take len slots) → (take len slots ++ (items ++ drop (length items) (drop len slots)) ≡ filled_up n blank (take len slots ++ items)) × (take (len + length items) (take len slots ++ (items ++ drop (length items) (drop len slots))) ≡ take len slots ++ items)
  extended n len slots items full fits is =
      let front = take len slots in
      let e : length front ≡ len = length-take-le len slots (omega (arith, full, fits)) in
      let both : length (front ++ items) ≡ len + length items = omega (arith, length-append front items, e) in
      let rest : drop len slots ≡ replicate (n - length front) blank = ap (drop len) is ∙ drop_at front (replicate (n - length front) blank) len e in
      let less : n - length front - length items ≡ n - length (front ++ items) = omega (arith, length-append front items) in
      let tail : drop (length items) (drop len slots) ≡ replicate (n - length (front ++ items)) blank =
      ap (drop (length items)) rest ∙ drop_blank (length items) (n - length front) ∙ ap (λ (k : ℕ). replicate k blank) less in
      let row : front ++ (items ++ drop (length items) (drop len slots)) ≡ filled_up n blank (front ++ items) =
      ap (λ (zs : List A). front ++ (items ++ zs)) tail ∙ sym (append_assoc front items (replicate (n - length (front ++ items)) blank)) in (
        row,
        ap (take (len + length items)) row ∙ take_at (front ++ items) (replicate (n - length (front ++ items)) blank) (len + length items) both,
      )
