-- What a chain of iterators answers, said of the places of the list that it goes over.
use Rattle.std.proofs.Common.{◌≡◌, ℕ, zero, suc, ◌+◌, ◌<◌, ◌≤◌, Bool, true, false, Decides, List, length, MatchBool, slice_index_or, refl, sym, subst, ⊎_elim, arith}
use Rattle.std.specs.Array.{IsFromFnResult, IsFromFnResultFrom}
use Rattle.std.specs.Fn.{Called}
use Rattle.std.specs.List.{AllWithin, HoldsAt}
use Rattle.std.proofs.lemmas.Bool.{cases_eq}
use denote.Param.Members.{Mut}

module _ {A : Type 0} (Yes : A → Type 0) (xs : List A) (e : A) where
  -- `any`, by a test of Yes
  pub some_decides : {r : Bool} → MatchBool r ((k : ℕ) × (k < length xs) × HoldsAt Yes xs k) (AllWithin (λ x. Yes x → ⊥) xs 0 (length xs)) → Decides r ((i : ℕ) × (i < length xs) × Yes (slice_index_or xs i e))
  some_decides {r = true} m = (λ z. (m.0, m.1, m.2 e), λ z. refl)
  some_decides {r = false} m = (λ z. absurd (cc z), λ h. absurd (m h.0 e (omega arith) h.1 h.2))

  -- `all`, by a test of Yes
  pub each_decides : {r : Bool} → MatchBool r (AllWithin Yes xs 0 (length xs)) ((k : ℕ) × (k < length xs) × HoldsAt (λ x. Yes x → ⊥) xs k) → Decides r ((i : ℕ) → i < length xs → Yes (slice_index_or xs i e))
  each_decides {r = true} m = (λ z i l. m i e (omega arith) l, λ h. refl)
  each_decides {r = false} m = (λ z. absurd (cc z), λ h. absurd (m.2 e (h m.0 m.1)))

module _ {F B : Type 0} (g : Mut F (ℕ × Unit {0}) B) (f : F) (Q : ℕ → B → Type 0) (ys : List B) (e : B) (calls : (i : ℕ) (y : B) (q : F) → Called g f (i, tt) y q → (q ≡ f) × Q i y) where
  each_from : (n i : ℕ) → IsFromFnResultFrom g f ys i n → (v : ℕ) → i ≤ v → v < i + n → Q v (slice_index_or ys v e)
  each_from zero i h v le lt = absurd (omega (arith, le, lt))
  each_from (suc n) i (q, y, at, call, rest) v le lt =
      let c = calls i y q call in
      ⊎_elim
      (λ same. subst (λ (k : ℕ). Q k (slice_index_or ys k e)) (sym same) (subst (Q i) (sym (at.1 e)) c.1))
      (λ ne. each_from n (i + 1) (subst (λ (p : F). IsFromFnResultFrom g p ys (i + 1) n) c.0 rest) v (omega (arith, le, ne)) (omega (arith, lt)))
      (cases_eq v i)

  -- `array::from_fn`, whose closure is left as it was by each call. The record is not opened at its length, which would unfold to as many calls
  pub made_each : (n : ℕ) → IsFromFnResult g f ys n → (v : ℕ) → v < n → Q v (slice_index_or ys v e)
  made_each n r v lt = each_from n 0 r.each v (omega arith) (omega (arith, lt))
