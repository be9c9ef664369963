-- A loop that moves what stands behind place i down by one.
use Rattle.std.proofs.Common.{◌≡◌, ℕ, ◌+◌, ◌<◌, ◌≤◌, ◌≢◌, ◌⊎◌, List, length, get_or, take, set, sym, refl, ◌∙◌, inl, inr, arith}
use Rattle.std.specs.List.{remove}
use Rattle.std.proofs.lemmas.Bool.{cases_lt, cases_eq}
use Rattle.std.proofs.lemmas.List.{same_lists, get_or-set_same, get_or-set_other, length-set, get_or-take, length-take-le, get_or_read}
use Rattle.std.proofs.lemmas.List.Edits.{length-remove, get_or-remove_below, get_or-remove_above}

module _ {X : Type 0} (xs : List X) (i : ℕ) where
  -- what the array holds when places below j are done
  pub record Shifted (ys : List X) (j : ℕ) : Type 0 where
    pub long : length ys ≡ length xs
    pub done : (k : ℕ) (d : X) → k < j → get_or ys k d ≡ get_or (remove xs i) k d
    pub left : (k : ℕ) (d : X) → j ≤ k → get_or ys k d ≡ get_or xs k d

  pub shifted_all : (ys : List X) (j n m : ℕ) → n ≤ j → i < m → n + 1 ≡ m → m ≤ length xs → Shifted ys j → take n ys ≡ remove (take m xs) i
  shifted_all ys j n m up lt e le old = same_lists _ _ (omega (arith, length-take-le n ys (omega (arith, old.long)), long, length-take-le m xs le)) each
    where
      long : length (remove (take m xs) i) + 1 ≡ length (take m xs)
      long = length-remove (take m xs) i (omega (arith, length-take-le m xs le))

      at : (k : ℕ) (d : X) → k < n → (k < i) ⊎ (i ≤ k) → get_or (remove xs i) k d ≡ get_or (remove (take m xs) i) k d
      at k d l (inl b) = get_or-remove_below xs i d k b (omega arith) ∙ sym (get_or-remove_below (take m xs) i d k b (omega (arith, length-take-le m xs le)) ∙ get_or-take m xs k d (omega arith))
      at k d l (inr a) = get_or-remove_above xs i d k a (omega arith) ∙ sym (get_or-remove_above (take m xs) i d k a (omega (arith, length-take-le m xs le)) ∙ get_or-take m xs (k + 1) d (omega arith))

      each : (k : ℕ) (d : X) → k < length (take n ys) → get_or (take n ys) k d ≡ get_or (remove (take m xs) i) k d
      each k d l = let b : k < n = omega (arith, length-take-le n ys (omega (arith, old.long))) in get_or-take n ys k d b ∙ old.done k d (omega arith) ∙ at k d b (cases_lt k i)
