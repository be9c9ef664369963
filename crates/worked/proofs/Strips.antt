-- Rounds and flaws of the sample, by computing.
use Rattle.std.proofs.Common.{◌≡◌, ℕ, zero, suc, ◌+◌, ◌^◌, ◌<◌, ◌≤◌, Bool, true, false, cond, ◌&&◌, ◌||◌, eqb, ltb, ◌⊎◌, List, [], ◌∷◌, length, get_or, Err, sym, refl, subst, inl, inr, ⊎_elim, arith, lit<}
use lib.Bits.{bit_and, bit_or}
use Rattle.std.proofs.lemmas.Bool.{eqb-true, eqb-false, eq-eqb, ltb-true, and_parts, or_cases, cases_eq}
use Rattle.sets.specs.Sets.{In, has, Part}
use Rattle.sets.proofs.Members.{in_below, part_from, part_to, meet_to, or_left, or_right}
use Rattle.model.specs.declared.Action.{Action}
use Rattle.model.specs.Tasks.{Task, Has, action, bar}
use Rattle.model.specs.Plans.{Disturb, next, Clear, Round, Run, state_at, Valid}
use Rattle.model.specs.Ledgers.{Among}
use Rattle.plan_check.specs.declared.flaws.Flaw.{Flaw}
use Rattle.plan_check.specs.declared.flaws.Flaw.TheVariants.{StripLength, UnknownAction, MissingBooking, UnmetNeed, Disturbance, BarAfter, GoalMissed}
use Rattle.plan_check.specs.Flaws.{flaw_number, flaw_round, flaw_first, flaw_second, RoundFlaw, Fails, wrong_length, in_round, misses, Sooner, Checks}
use Rattle.worked.specs.Sample.{sample, five_rounds}

-- ---- tests over the members of a set

abbrev all_in : ℕ → ℕ → (ℕ → Bool) → Bool
all_in zero s test = true
all_in (suc n) s test = cond (has n s) (test n) true && all_in n s test

all_in_sound : (n s : ℕ) (test : ℕ → Bool) → all_in n s test ≡ true → (a : ℕ) → a < n → In a s → test a ≡ true
all_in_sound zero s test e a l h = absurd (omega arith)
all_in_sound (suc n) s test e a l h =
    let p = and_parts (cond (has n s) (test n) true) (all_in n s test) e in
    ⊎_elim (λ same. subst (λ (k : ℕ). test k ≡ true) (sym same) (subst (λ (t : Bool). cond t (test n) true ≡ true) (eq-eqb _ _ (subst (λ (k : ℕ). In k s) same h)) p.0))
    (λ other. all_in_sound n s test p.1 a (omega arith) h) (cases_eq a n)

either : (f x y : ℕ) → In f x ⊎ In f y → In f (bit_or x y)
either f x y h = ⊎_elim (or_left f x y) (or_right f x y) h

-- ---- a round but for the bars, and its bars

abbrev deletes_none : Action → Action → Bool
deletes_none x y = eqb (bit_and x.deletes (bit_or y.needs y.adds)) 0

abbrev quiet : Action → Action → Bool
quiet x y = deletes_none x y && deletes_none y x

quiet_sound : (x y : Action) → quiet x y ≡ true → Disturb x y → ⊥
quiet_sound x y e (f, inl (d, k)) = meet_to x.deletes (bit_or y.needs y.adds) (f, d, either f y.needs y.adds k) (eqb-true _ _ (and_parts (deletes_none x y) (deletes_none y x) e).0)
quiet_sound x y e (f, inr (d, k)) = meet_to y.deletes (bit_or x.needs x.adds) (f, d, either f x.needs x.adds k) (eqb-true _ _ (and_parts (deletes_none x y) (deletes_none y x) e).1)

module _ (b : Task) where
  abbrev fit_test : ℕ → ℕ → Bool
  fit_test state a = ltb a (length b.actions) && eqb (bit_and (action b a).needs state) (action b a).needs

  abbrev pair_test : ℕ → ℕ → Bool
  pair_test round a = all_in 8 round (λ c. eqb a c || quiet (action b a) (action b c))

  abbrev loose_test : ℕ → ℕ → Bool
  loose_test state round = all_in 8 round (fit_test state) && all_in 8 round (pair_test round)

  record Loose (state round : ℕ) : Type 0 where
    known : (a : ℕ) → In a round → Has b a
    ready : (a : ℕ) → In a round → Part (action b a).needs state
    calm : (a c : ℕ) → In a round → In c round → (a ≡ c → ⊥) → Disturb (action b a) (action b c) → ⊥

  loose : (state round : ℕ) → round < 2 ^ 8 → loose_test state round ≡ true → Loose state round
  loose state round small e = record {
    known = λ a h. ltb-true _ _ (fit a h).0;
    ready = λ a h. part_from (action b a).needs state (eqb-true _ _ (fit a h).1);
    calm = λ a c h k differ. quiet_sound (action b a) (action b c) (⊎_elim (λ same. absurd (differ (eqb-true _ _ same))) (λ q. q) (or_cases (eqb a c) (quiet (action b a) (action b c)) (pairs a c h k)));
  }
    where
      parts : (all_in 8 round (fit_test state) ≡ true) × (all_in 8 round (pair_test round) ≡ true)
      parts = and_parts (all_in 8 round (fit_test state)) (all_in 8 round (pair_test round)) e

      fit : (a : ℕ) → In a round → (ltb a (length b.actions) ≡ true) × (eqb (bit_and (action b a).needs state) (action b a).needs ≡ true)
      fit a h = and_parts (ltb a (length b.actions)) (eqb (bit_and (action b a).needs state) (action b a).needs) (all_in_sound 8 round (fit_test state) parts.0 a (in_below 8 a round small h) h)

      pairs : (a c : ℕ) → In a round → In c round → (eqb a c || quiet (action b a) (action b c)) ≡ true
      pairs a c h k = all_in_sound 8 round (λ c. eqb a c || quiet (action b a) (action b c)) (all_in_sound 8 round (pair_test round) parts.1 a (in_below 8 a round small h) h) c (in_below 8 c round small k) k

  -- no flaw of a loose round has a number below that of the bars
  loose_clean : (state round : ℕ) → Loose state round → (e : Flaw) → RoundFlaw b [] state round e → flaw_number e < 28 → ⊥
  loose_clean state round x StripLength h l = h
  loose_clean state round x (UnknownAction t a) (i, k) l = k (x.known a i)
  loose_clean state round x (MissingBooking t a) ((i, (k, e)), o) l = omega arith
  loose_clean state round x (UnmetNeed t a) (i, k) l = k (x.ready a i)
  loose_clean state round x (Disturbance t a c) (lt, i, k, d) l = x.calm a c i k (λ e. omega arith) d
  loose_clean state round x (BarAfter t i) h l = omega arith
  loose_clean state round x (GoalMissed t) h l = h

  -- a lawful round has no flaw
  lawful_clean : (state round : ℕ) → Round b state round → (e : Flaw) → RoundFlaw b [] state round e → ⊥
  lawful_clean state round x StripLength h = h
  lawful_clean state round x (UnknownAction t a) (i, k) = k (x.known a i)
  lawful_clean state round x (MissingBooking t a) ((i, (k, e)), o) = omega arith
  lawful_clean state round x (UnmetNeed t a) (i, k) = k (x.ready a i)
  lawful_clean state round x (Disturbance t a c) (lt, i, k, d) = x.calm a c i k (λ e. omega arith) d
  lawful_clean state round x (BarAfter t i) (k, p) = x.clear i k p
  lawful_clean state round x (GoalMissed t) h = h

-- the sample has one bar
clear : (state : ℕ) → eqb (bit_and 72 state) 72 ≡ false → Clear sample state
clear state e zero l p = eqb-false _ _ e (part_to 72 state p)
clear state e (suc i) l p = omega arith

lawful : (state round : ℕ) → round < 2 ^ 8 → loose_test sample state round ≡ true → eqb (bit_and 72 (next sample state round)) 72 ≡ false → Round sample state round
lawful state round small e c =
    let x = loose sample state round small e in
    record { known = x.known; ready = x.ready; calm = x.calm; clear = clear (next sample state round) c }

pub plan_valid : Valid sample (1 ∷ 4 ∷ 8 ∷ 2 ∷ 64 ∷ [])
plan_valid = (
  (lawful 37 1 (lit< tt) refl refl, (lawful 38 4 (lit< tt) refl refl, (lawful 42 8 (lit< tt) refl refl, (lawful 50 2 (lit< tt) refl refl, (lawful 49 64 (lit< tt) refl refl, tt))))),
  part_from 145 177 refl,
)

abbrev strip : List ℕ
strip = 1 ∷ 20 ∷ 8 ∷ 2 ∷ 64 ∷ []

abbrev FlawAt : ℕ → Flaw → Type 0
FlawAt t e = RoundFlaw sample [] (state_at sample 37 strip t) (get_or strip t 0) e

none_sooner : (e : Flaw) → Fails sample five_rounds strip e → Sooner e (BarAfter 1 0) → ⊥
none_sooner e (wrong_length n) s = n refl
none_sooner e (misses is n) s = ⊎_elim (λ l. omega arith) (λ same. omega (arith, same.0)) s
none_sooner e (in_round l h) s =
    ⊎_elim
    (λ early. let zero_th : flaw_round e ≡ 0 = omega arith in lawful_clean sample 37 1 (lawful 37 1 (lit< tt) refl refl) e (subst (λ (t : ℕ). FlawAt t e) zero_th h))
    (λ same. ⊎_elim (λ number. loose_clean sample 38 20 (loose sample 38 20 (lit< tt) refl) e (subst (λ (t : ℕ). FlawAt t e) same.0 h) number)
    (λ last. ⊎_elim (λ first. omega arith) (λ second. omega (arith, second.1)) last.1) same.1) s

pub strip_barred : Checks sample five_rounds strip (Err (BarAfter 1 0))
strip_barred = (in_round {f = BarAfter 1 0} (lit< tt) (lit< tt, part_from 72 74 refl), none_sooner)
