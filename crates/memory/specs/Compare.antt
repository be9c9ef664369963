-- What the tests on lists decide.
use Rattle.std.specs.Prelude.{◌≡◌, ℕ, zero, suc, ◌<◌, Bool, true, false, ◌||◌, List, [], ◌∷◌, ◌++◌, length, take, drop, Decides, slice_index_or, refl}
use Rattle.std.proofs.Common.{sym, ap, ◌∙◌, ⊎_elim, arith, take-append-drop}
use Rattle.std.proofs.lemmas.Bool.{eq-eqb, eqb-true, and_parts, and_from, or_cases, or_left, or_right, false≢true}
use Rattle.std.specs.List.{ContainsAt}
use Rattle.model.specs.declared.Booking.{Booking}
use Rattle.model.proofs.Same.{Test, booking_test, task_test}
use Rattle.model.specs.Ledgers.{same, slot, Among}
use Rattle.model.specs.Bookings.{AllOf}
use Rattle.model.specs.declared.Standing.{Standing}
use Rattle.memory.specs.Lists.{among, all_among}
use Rattle.memory.specs.Keeping.{KeepsJust}
use Rattle.memory.specs.Memories.{same_told}

pub told_test : Test same_told
told_test x y = (
  λ e.
      let a = and_parts _ _ e in
      let p = eqb-true _ _ a.0 in
      let q = eqb-true _ _ a.1 in
      λ i. record { state = p i; t = q i },
  λ e. and_from _ _ (eq-eqb _ _ (ap (λ (a : Standing). a.state) e)) (eq-eqb _ _ (ap (λ (a : Standing). a.t) e)),
)

module _ {A : Type 0} {f : A → A → Bool} (test : Test f) where
  pub among_test : (x : A) (ys : List A) → Decides (among f x ys) (ContainsAt ys x)
  among_test x ys = (there ys, λ h. here ys h.0 h.1 h.2)
    where
      there : (zs : List A) → among f x zs ≡ true → ContainsAt zs x
      there [] e = absurd (false≢true e)
      there (z ∷ zs) e = ⊎_elim (λ p. (0, omega arith, λ d. (test z x).0 p)) (λ p. let r = there zs p in (suc r.0, omega (arith, r.1), λ d. r.2 d)) (or_cases _ _ e)

      here : (zs : List A) (k : ℕ) → k < length zs → ((d : A) → slice_index_or zs k d ≡ x) → among f x zs ≡ true
      here [] k lt e = absurd (omega arith)
      here (z ∷ zs) zero lt e = or_left _ _ ((test z x).1 (e z))
      here (z ∷ zs) (suc k) lt e = or_right _ _ (here zs k (omega arith) e)

  or_append : (x : A) (ys zs : List A) → among f x (ys ++ zs) ≡ (among f x ys || among f x zs)
  or_append x [] zs = refl
  or_append x (y ∷ ys) zs = ap (λ (b : Bool). f y x || b) (or_append x ys zs) ∙ assoc (f y x) (among f x ys) (among f x zs)
    where
      assoc : (a b c : Bool) → (a || (b || c)) ≡ ((a || b) || c)
      assoc true b c = refl
      assoc false b c = refl

  -- where the two parts stand in the other order
  pub among_turned : (x : A) (n : ℕ) (ys : List A) → among f x (drop n ys ++ take n ys) ≡ among f x ys
  among_turned x n ys =
      or_append x (drop n ys) (take n ys) ∙ swap (among f x (drop n ys)) (among f x (take n ys)) ∙ sym (or_append x (take n ys) (drop n ys)) ∙ ap (among f x) (take-append-drop n ys)
    where
      swap : (a b : Bool) → (a || b) ≡ (b || a)
      swap true true = refl
      swap true false = refl
      swap false true = refl
      swap false false = refl

-- ---- bookings

among_booked : (y : Booking) (ys : List Booking) → Decides (among same y ys) (Among y ys)
among_booked y ys =
    let d = among_test booking_test y ys in (
      λ e. let h = d.0 e in (h.0, (h.1, h.2 (slot 0 0))),
      λ a. d.1 (a.0, a.1.0, λ z. other ys a.0 a.1.0 z ∙ a.1.1),
    )
  where
    other : (zs : List Booking) (k : ℕ) → k < length zs → (z : Booking) → slice_index_or zs k z ≡ slice_index_or zs k (slot 0 0)
    other [] k lt z = absurd (omega arith)
    other (x ∷ zs) zero lt z = refl
    other (x ∷ zs) (suc k) lt z = other zs k (omega arith) z

all_booked : (xs ys : List Booking) → Decides (all_among same xs ys) (AllOf xs ys)
all_booked xs ys = (from xs, to xs)
  where
    from : (zs : List Booking) → all_among same zs ys ≡ true → AllOf zs ys
    from [] e z (i, (lt, is)) = absurd (omega arith)
    from (x ∷ zs) e z (zero, (lt, is)) = let a = (among_booked x ys).0 (and_parts _ _ e).0 in (a.0, (a.1.0, a.1.1 ∙ is))
    from (x ∷ zs) e z (suc i, (lt, is)) = from zs (and_parts _ _ e).1 z (i, (omega arith, is))

    to : (zs : List Booking) → AllOf zs ys → all_among same zs ys ≡ true
    to [] h = refl
    to (x ∷ zs) h = and_from _ _ ((among_booked x ys).1 (h x (0, (omega arith, refl)))) (to zs (λ z a. h z (suc a.0, (omega (arith, a.1.0), a.1.1))))

-- ---- subjects

pub keeps_just : KeepsJust
keeps_just x y = (
  λ e.
      let u = and_parts _ _ e in
      let v = and_parts _ _ u.1 in
      record { task = (task_test x.task y.task).0 u.0; rounds = eqb-true _ _ v.0; bookings = (all_booked x.card.bookings y.card.bookings).0 v.1 },
  λ g.
      and_from _ _ ((task_test x.task y.task).1 g.task)
      (and_from _ _ (eq-eqb _ _ g.rounds) ((all_booked x.card.bookings y.card.bookings).1 g.bookings)),
)
