-- A strip round by round: no flaw before a round, and what the check answers in the end.
use Rattle.std.proofs.Common.{◌≡◌, ℕ, ◌+◌, ◌<◌, List, length, get_or, Ok, Err, Result, sym, ap, ◌∙◌, subst, ⊎_elim, add-one, arith}
use Rattle.std.proofs.lemmas.Bool.{cases_lt, cases_order}
use Rattle.sets.specs.Sets.{Part}
use Rattle.model.specs.Tasks.{Task, action}
use Rattle.model.specs.Plans.{Round, state_at}
use Rattle.model.specs.Ledgers.{Ledger}
use Rattle.model.specs.Bookings.{Sound, Serves}
use Rattle.model.proofs.States.{state_after, run_from}
use Rattle.rounds.proofs.Tables.{disturb_sym}
use Rattle.plan_check.specs.declared.flaws.Flaw.{Flaw}
use Rattle.plan_check.specs.declared.flaws.Flaw.TheVariants.{StripLength, UnknownAction, MissingBooking, UnmetNeed, Disturbance, BarAfter, GoalMissed}
use Rattle.plan_check.specs.Flaws.{flaw_number, flaw_round, RoundFlaw, Fails, wrong_length, in_round, misses, Sooner, Checks}
use Rattle.plan_check.specs.Finds.{FlawOf, RoundChecks}
use Rattle.plan_check.proofs.Parts.{in_stable, part_stable}

module _ (b : Task) (l : Ledger) (strip : List ℕ) where
  abbrev pub at : ℕ → ℕ
  at t = state_at b b.initial strip t

  abbrev HasFlaw : ℕ → Flaw → Type 0
  HasFlaw t e = RoundFlaw b l.bookings (at t) (get_or strip t 0) e

  -- no flaw of a round before t
  abbrev pub ClearBefore : ℕ → Type 0
  ClearBefore t = (e : Flaw) → flaw_round e < t → HasFlaw (flaw_round e) e → ⊥

  abbrev HereAt : ℕ → Flaw → Type 0
  HereAt t e = FlawOf b l.bookings t (at t) (get_or strip t 0) e

  here_at : (t : ℕ) (e : Flaw) → flaw_round e ≡ t → HasFlaw (flaw_round e) e → HereAt t e
  here_at t e is h = (is, subst (λ (n : ℕ). HasFlaw n e) is h)

  -- what the check of round t answers at a state
  abbrev Answers_at : ℕ → ℕ → Result ℕ Flaw → Type 0
  Answers_at t state r = RoundChecks b l.bookings t state (get_or strip t 0) r

  pub goes_on : (t state after : ℕ) → t < length strip → state ≡ at t → ClearBefore t → Answers_at t state (Ok after) → (after ≡ at (t + 1)) × ClearBefore (t + 1)
  goes_on t state after lt is before answer =
      let here = subst (λ (s : ℕ). Answers_at t s (Ok after)) is answer in (
        here.0 ∙ sym (state_after b b.initial strip t lt) ∙ ap at (sym (add-one t)),
        λ e le h. ⊎_elim (λ less. before e less h) (λ more. here.1 e (here_at t e (omega arith) h)) (cases_lt (flaw_round e) t),
      )

  -- ---- a strip that serves

  lawful : (n t : ℕ) → t < n → ClearBefore n → Round b (at t) (get_or strip t 0)
  lawful n t lt clear = record {
    known = λ a h. ⊎_elim (λ has. has) (λ past. absurd (clear (UnknownAction t a) lt (h, λ has. omega arith))) (cases_lt a (length b.actions));
    ready = λ a h. part_stable (action b a).needs (at t) (λ n. clear (UnmetNeed t a) lt (h, n));
    calm = λ a c p q differ d. ⊎_elim differ (λ s. ⊎_elim (λ less. clear (Disturbance t a c) lt (less, p, q, d)) (λ more. clear (Disturbance t c a) lt (more, q, p, disturb_sym (action b a) (action b c) d)) s) (cases_order a c);
    clear = λ i h p. clear (BarAfter t i) lt (h, p);
  }

  pub serves : (n : ℕ) → n ≡ l.rounds → Sound l → length strip ≡ l.rounds → ClearBefore n → Part b.goal (at n) → Serves l b strip
  serves n all sound long clear goal = (
    long,
    (run_from b b.initial strip (λ t lt. lawful n t (omega arith) clear), subst (λ (k : ℕ). Part b.goal (at k)) (all ∙ sym long) goal),
    λ x among. in_stable x.action (get_or strip x.round 0) (λ out. clear (MissingBooking x.round x.action) (omega (arith, (sound.proper x among).1)) (among, out)),
  )

  -- ---- the first flaw

  abbrev Answers : Flaw → Type 0
  Answers f = Checks b l strip (Err f)

  pub fails_length : (length strip ≡ l.rounds → ⊥) → Answers StripLength
  fails_length differ = (wrong_length differ, λ e h. ⊎_elim (λ less. omega arith) (λ same. ⊎_elim (lowest e) (λ s. ⊎_elim (λ less. omega arith) (λ s. omega (arith, s.1)) s.1) same.1))
    where
      lowest : (e : Flaw) → flaw_number e < 23 → ⊥
      lowest StripLength lt = omega arith
      lowest (UnknownAction t a) lt = omega arith
      lowest (MissingBooking t a) lt = omega arith
      lowest (UnmetNeed t a) lt = omega arith
      lowest (Disturbance t a c) lt = omega arith
      lowest (BarAfter t i) lt = omega arith
      lowest (GoalMissed t) lt = omega arith

  not_sooner : (f e : Flaw) → length strip ≡ l.rounds → flaw_round f < l.rounds → ClearBefore (flaw_round f) → ((e : Flaw) → HereAt (flaw_round f) e → Sooner e f → ⊥) → Fails b l strip e → Sooner e f → ⊥
  not_sooner f StripLength long lt before first (wrong_length differ) s = differ long
  not_sooner f e long lt before first (in_round le h) s = ⊎_elim (λ less. before e less h) (λ same. first e (here_at (flaw_round f) e same.0 h) s) s
  not_sooner f (GoalMissed t) long lt before first (misses is lacks) s = ⊎_elim (λ less. omega arith) (λ same. omega (arith, same.0)) s

  pub fails_round : (t state : ℕ) (f : Flaw) → length strip ≡ l.rounds → t < l.rounds → state ≡ at t → ClearBefore t → Answers_at t state (Err f) → Answers f
  fails_round t state f long lt same before answer =
      let here = subst (λ (s : ℕ). Answers_at t s (Err f)) same answer in
      let is = here.0.0 in (
        in_round (omega (arith, is)) (subst (λ (n : ℕ). HasFlaw n f) (sym is) here.0.1),
        λ e. not_sooner f e long (omega (arith, is)) (subst ClearBefore (sym is) before) (subst (λ (n : ℕ). (e : Flaw) → HereAt n e → Sooner e f → ⊥) (sym is) here.1),
      )

  pub fails_goal : (n : ℕ) → n ≡ l.rounds → length strip ≡ l.rounds → ClearBefore n → (Part b.goal (at n) → ⊥) → Answers (GoalMissed n)
  fails_goal n all long before lacks = (misses all (λ p. lacks (subst (λ (k : ℕ). Part b.goal (at k)) (long ∙ sym all) p)), sooner)
    where
      sooner : (e : Flaw) → Fails b l strip e → Sooner e (GoalMissed n) → ⊥
      sooner StripLength (wrong_length differ) s = differ long
      sooner e (in_round lt h) s = before e (omega arith) h
      sooner (GoalMissed t) (misses is short) s = ⊎_elim (λ less. omega arith) (λ same. ⊎_elim (λ less. omega arith) (λ s. ⊎_elim (λ less. omega arith) (λ s. omega (arith, s.1)) s.1) same.1) s
