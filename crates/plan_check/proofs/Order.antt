-- The first flaw of a round, number by number.
use Rattle.std.proofs.Common.{◌≡◌, ℕ, ◌+◌, ◌<◌, ◌≤◌, eqb, ◌⊎◌, List, length, Some, None, MatchBool, refl, subst, ⊎_elim, arith}
use Rattle.std.proofs.lemmas.Bool.{cases_lt}
use Rattle.sets.specs.Sets.{In, Part, Lowest}
use Rattle.model.specs.declared.Booking.{Booking}
use Rattle.model.specs.Tasks.{Task, Has, bar}
use Rattle.model.specs.Plans.{next}
use Rattle.model.specs.Ledgers.{slot, Among}
use Rattle.model.specs.Bookings.{BookedFor}
use Rattle.plan_check.specs.declared.flaws.Flaw.{Flaw}
use Rattle.plan_check.specs.declared.flaws.Flaw.TheVariants.{StripLength, UnknownAction, MissingBooking, UnmetNeed, Disturbance, BarAfter, GoalMissed}
use Rattle.plan_check.specs.Flaws.{flaw_number, flaw_first, flaw_second, Sooner}
use Rattle.plan_check.specs.Finds.{Unmet, LowestPair, ClashIn, FlawOf}

module _ (b : Task) (bookings : List Booking) (t state round : ℕ) where
  abbrev Here : Flaw → Type 0
  Here e = FlawOf b bookings t state round e

  abbrev First : Flaw → Type 0
  First f = Here f × ((e : Flaw) → Here e → Sooner e f → ⊥)

  abbrev Unknown : ℕ → Type 0
  Unknown a = In a round × (Has b a → ⊥)

  abbrev BarIn : ℕ → ℕ → Type 0
  BarIn s i = (i < length b.bars) × Part (bar b i) s

  -- what a flaw of number n says of the actions or the bar that it names
  abbrev Says : (n i j : ℕ) → Type 0
  Says n i j =
      MatchBool (eqb n 24) (Unknown i)
      (MatchBool (eqb n 25) (Among (slot i t) bookings × (In i round → ⊥))
      (MatchBool (eqb n 26) (Unmet b state round i) (MatchBool (eqb n 27) (ClashIn b round i j) (MatchBool (eqb n 28) (BarIn (next b state round) i) ⊥))))

  says : (e : Flaw) → Here e → Says (flaw_number e) (flaw_first e) (flaw_second e)
  says StripLength h = h.1
  says (UnknownAction s a) h = h.1
  says (MissingBooking s a) h = (subst (λ (n : ℕ). Among (slot a n) bookings) h.0 h.1.0, h.1.1)
  says (UnmetNeed s a) h = h.1
  says (Disturbance s a c) h = h.1
  says (BarAfter s i) h = h.1
  says (GoalMissed s) h = h.1

  says_at : (n : ℕ) (e : Flaw) → flaw_number e ≡ n → Here e → Says n (flaw_first e) (flaw_second e)
  says_at n e is h = subst (λ (m : ℕ). Says m (flaw_first e) (flaw_second e)) is (says e h)

  range : (e : Flaw) → Here e → (24 ≤ flaw_number e) × (flaw_number e < 29)
  range StripLength h = absurd h.1
  range (UnknownAction s a) h = (omega arith, omega arith)
  range (MissingBooking s a) h = (omega arith, omega arith)
  range (UnmetNeed s a) h = (omega arith, omega arith)
  range (Disturbance s a c) h = (omega arith, omega arith)
  range (BarAfter s i) h = (omega arith, omega arith)
  range (GoalMissed s) h = absurd h.1

  -- no flaw here has a number below n
  abbrev Clear : ℕ → Type 0
  Clear n = (e : Flaw) → flaw_number e < n → Here e → ⊥

  clear_start : Clear 24
  clear_start e l h = omega (arith, (range e h).0)

  clear_more : (n : ℕ) → Clear n → ((i j : ℕ) → Says n i j → ⊥) → Clear (n + 1)
  clear_more n before none e l h =
      ⊎_elim (λ lt. before e lt h) (λ ge. none (flaw_first e) (flaw_second e) (says_at n e (omega arith) h)) (cases_lt (flaw_number e) n)

  -- nothing of a lower number is here, and nothing of the same number at lower actions or a lower bar
  first_from : (f : Flaw) → Clear (flaw_number f) → Here f → ((i j : ℕ) → (i < flaw_first f) ⊎ ((i ≡ flaw_first f) × (j < flaw_second f)) → Says (flaw_number f) i j → ⊥) → First f
  first_from f before here lower = (
    here,
    λ e h. ⊎_elim (λ sooner. omega (arith, here.0, h.0))
        (λ same. ⊎_elim (λ l. before e l h) (λ s. lower (flaw_first e) (flaw_second e) s.1 (says_at (flaw_number f) e s.0 h)) same.1),
  )

  -- the same where it names one action or bar
  first_one : (f : Flaw) → flaw_second f ≡ 0 → Clear (flaw_number f) → Here f → ((i j : ℕ) → i < flaw_first f → Says (flaw_number f) i j → ⊥) → First f
  first_one f one before here lower = first_from f before here (λ i j l. ⊎_elim (lower i j) (λ s. absurd (omega (arith, s.1))) l)

  -- ---- the finders, one after the other

  module _ (no_unknown : Lowest None Unknown) (booked : ℕ) (for_t : BookedFor bookings t booked) where
    clear_25 : Clear 25
    clear_25 = clear_more 24 clear_start (λ i j. no_unknown i)

    module _ (no_missing : Lowest None (λ a. In a booked × (In a round → ⊥))) where
      clear_26 : Clear 26
      clear_26 = clear_more 25 clear_25 (λ i j h. no_missing i ((for_t i).1 h.0, h.1))

      pub first_26 : (a : ℕ) → Lowest (Some a) (Unmet b state round) → First (UnmetNeed t a)
      first_26 a found = first_one (UnmetNeed t a) refl clear_26 (refl, found.0) (λ i j. found.1 i)

      module _ (no_unmet : Lowest None (Unmet b state round)) where
        clear_27 : Clear 27
        clear_27 = clear_more 26 clear_26 (λ i j. no_unmet i)

        pub first_27 : (a c : ℕ) → LowestPair (Some (a, c)) (ClashIn b round) → First (Disturbance t a c)
        first_27 a c found =
            first_from (Disturbance t a c) clear_27 (refl, found.0)
            (λ i j l h. ⊎_elim (λ less. found.1 i j less h) (λ s. found.2 j s.1 (subst (λ (k : ℕ). ClashIn b round k j) s.0 h)) l)

        module _ (no_clash : LowestPair None (ClashIn b round)) (after : ℕ) (is : after ≡ next b state round) where
          clear_28 : Clear 28
          clear_28 = clear_more 27 clear_27 no_clash

          pub first_28 : (i : ℕ) → Lowest (Some i) (BarIn after) → First (BarAfter t i)
          first_28 i found =
              let at_next = subst (λ (s : ℕ). Lowest (Some i) (BarIn s)) is found in
              first_one (BarAfter t i) refl clear_28 (refl, at_next.0) (λ i j. at_next.1 i)

          pub no_flaw : Lowest None (BarIn after) → (e : Flaw) → Here e → ⊥
          no_flaw no_bar e h = clear_more 28 clear_28 (λ i j. subst (λ (s : ℕ). Lowest None (BarIn s)) is no_bar i) e (range e h).1 h
