-- What a table of bookings keeps as one is added or taken out.
use Rattle.std.proofs.Common.{◌≡◌, ℕ, ◌+◌, ◌<◌, ◌≤◌, ◌⊎◌, List, length, get_or, set, sym, refl, ◌∙◌, subst, inl, inr, ⊎_elim, arith}
use Rattle.std.specs.List.{remove}
use Rattle.std.proofs.lemmas.Bool.{cases_lt, cases_eq}
use Rattle.std.proofs.lemmas.List.{get_or-set_same, get_or-set_other}
use Rattle.std.proofs.lemmas.List.Edits.{length-remove, get_or-remove_below, get_or-remove_above}
use Rattle.model.specs.declared.Booking.{Booking}
use Rattle.model.specs.Ledgers.{slot}
use Rattle.model.specs.Bookings.{Proper, Once}
use Rattle.card.specs.Tables.{Empty}
use Rattle.card.proofs.Shift.{Shifted}

-- ---- the empty slots

abbrev EmptyFrom : ℕ → List Booking → Type 0
EmptyFrom n xs = (k : ℕ) → n ≤ k → Empty (get_or xs k (slot 0 0))

pub empty_removed : (xs ys : List Booking) (i j n : ℕ) → Shifted xs i ys j → j ≤ n → n < length xs → EmptyFrom (n + 1) xs → EmptyFrom n (set ys n (slot 0 0))
empty_removed xs ys i j n old up lt h k le =
    ⊎_elim (λ e. subst (λ (m : ℕ). Empty (get_or (set ys n (slot 0 0)) m (slot 0 0))) (sym e) (subst Empty (sym (get_or-set_same ys n (slot 0 0) (slot 0 0) (omega (arith, old.long)))) (refl, refl)))
    (λ ne. subst Empty (sym (get_or-set_other ys n k (slot 0 0) (slot 0 0) ne ∙ old.left k (slot 0 0) (omega arith))) (h k (omega arith)))
    (cases_eq k n)

-- ---- the bookings

module _ (xs : List Booking) (i : ℕ) (within : i < length xs) where
  -- where a booking that is left stood
  abbrev Source : ℕ → Type 0
  Source k = (j : ℕ) × (j < length xs) × (get_or (remove xs i) k (slot 0 0) ≡ get_or xs j (slot 0 0)) × (((k < i) × (j ≡ k)) ⊎ ((i ≤ k) × (j ≡ k + 1)))

  source : (k : ℕ) → k < length (remove xs i) → Source k
  source k lt =
      ⊎_elim (λ b. (k, omega (arith, length-remove xs i within), get_or-remove_below xs i (slot 0 0) k b within, inl (b, refl)))
      (λ b. (k + 1, omega (arith, length-remove xs i within), get_or-remove_above xs i (slot 0 0) k b within, inr (b, refl)))
      (cases_lt k i)

  pub proper_removed : (n : ℕ) → Proper n xs → Proper n (remove xs i)
  proper_removed n h x (k, (lt, e)) = let s = source k lt in h x (s.0, (s.1, sym s.2 ∙ e))

  apart : (k l : ℕ) (s : Source k) (t : Source l) → k < l → s.0 < t.0
  apart k l (_, _, _, inl p) (_, _, _, inl q) lt = omega arith
  apart k l (_, _, _, inl p) (_, _, _, inr q) lt = omega arith
  apart k l (_, _, _, inr p) (_, _, _, inl q) lt = omega arith
  apart k l (_, _, _, inr p) (_, _, _, inr q) lt = omega arith

  pub once_removed : Once xs → Once (remove xs i)
  once_removed h k l lt inside e =
      let s = source k (omega arith) in
      let t = source l inside in
      h s.0 t.0 (apart k l s t lt) t.1 (sym s.2 ∙ e ∙ t.2)
