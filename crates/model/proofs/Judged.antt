-- A walk with a lawful sieve says none exactly where nothing leads to the goal, and else shows the first way.
use Rattle.std.proofs.Common.{◌≡◌, ℕ, suc, ◌+◌, ◌<◌, true, ◌⊎◌, List, [], ◌∷◌, length, Some, None, Option, sym, refl, ap, ◌∙◌, subst, inl, inr, ⊎_elim, arith}
use Rattle.std.proofs.lemmas.Bool.{cases_lt, cases_order}
use Rattle.sets.specs.Sets.{Part}
use Rattle.model.specs.Plans.{next, Before}
use Rattle.model.specs.Bookings.{Serves}
use Rattle.model.specs.Sieves.{Subject, Genuine, Standing, OpenRound, Way, Hopeless, HopelessStart, Rules, Law}
use Rattle.model.specs.Walks.{FirstFrom, Place, at, rounds, Walk, reached, missed, opened, exhausted, dropped, failed, found}
use Rattle.model.proofs.Spaces.{grouped_next}
use Rattle.model.proofs.Serving.{serves_way, way_serves}

-- a way through all rounds from the standing, and every other comes after it
abbrev pub FirstWay : Subject → ℕ → ℕ → List ℕ → Type 0
FirstWay x state t p = (t + length p ≡ x.card.rounds) × Way x t state p × ((q : List ℕ) → t + length q ≡ x.card.rounds → Way x t state q → (q ≡ p) ⊎ Before p q)

-- what may be said of a standing: that it is hopeless, or its first way
abbrev pub Outcome : Subject → ℕ → ℕ → Option (List ℕ) → Type 0
Outcome x state t None = Hopeless x state t
Outcome x state t (Some p) = FirstWay x state t p

-- the standing of a place
abbrev pub spot : Place → ℕ
spot (at state t) = state
spot (rounds state t from) = state

abbrev pub time : Place → ℕ
time (at state t) = t
time (rounds state t from) = t

-- the walk is there rightly: none of the rounds below the number leads to the goal
abbrev pub Arrived : Subject → Place → Type 0
Arrived x (at state t) = Standing x state t
Arrived x (rounds state t from) = Standing x state t × (t < x.card.rounds) × ((r : ℕ) → r < from → HopelessStart x state t r)

empty : (q : List ℕ) → length q ≡ 0 → q ≡ []
empty [] e = refl
empty (r ∷ rs) e = absurd (omega arith)

at_end : (x : Subject) (state t : ℕ) (q : List ℕ) → t ≡ x.card.rounds → t + length q ≡ x.card.rounds → Way x t state q → Part x.task.goal state
at_end x state t [] h e w = w
at_end x state t (r ∷ rs) h e w = absurd (omega arith)

hopeless_by_starts : (x : Subject) (state t : ℕ) → t < x.card.rounds → ((r : ℕ) → HopelessStart x state t r) → Hopeless x state t
hopeless_by_starts x state t lt all [] e w = omega arith
hopeless_by_starts x state t lt all (r ∷ rs) e w = all r rs e w

not_open : (x : Subject) (state t r : ℕ) → (OpenRound x state t r → ⊥) → HopelessStart x state t r
not_open x state t r no_round rest e w = no_round w.0

by_next : (x : Subject) (state t r : ℕ) → Hopeless x (next x.task state r) (suc t) → HopelessStart x state t r
by_next x state t r no_way rest e w = no_way rest (omega arith) w.1

-- the rounds up to this one lead nowhere
one_more : (x : Subject) (state t from round : ℕ) → FirstFrom x state t from round → ((r : ℕ) → r < from → HopelessStart x state t r) → HopelessStart x state t round → (r : ℕ) → r < suc round → HopelessStart x state t r
one_more x state t from round first below here r lt =
    ⊎_elim (λ h. below r h)
    (λ h. ⊎_elim (λ e. subst (λ n. HopelessStart x state t n) (sym e) here)
    (⊎_elim (λ g. not_open x state t r (first.2 r h g)) (λ g. absurd (omega arith))) (cases_order r round))
    (cases_lt r from)

-- a way that starts with the first open round, and goes on first, is first
lead : (x : Subject) (state t from round : ℕ) (rest : List ℕ) → t < x.card.rounds → FirstFrom x state t from round → ((r : ℕ) → r < from → HopelessStart x state t r) → FirstWay x (next x.task state round) (suc t) rest → FirstWay x state t (round ∷ rest)
lead x state t from round rest lt first below (e, w, before) = (omega arith, (first.1, w), rank)
  where
    cons_before : (r : ℕ) (p q : List ℕ) → Before p q → Before (r ∷ p) (r ∷ q)
    cons_before r p q (i, same, less) = (suc i, ap (λ s. r ∷ s) same, less)

    rank : (q : List ℕ) → t + length q ≡ x.card.rounds → Way x t state q → (q ≡ round ∷ rest) ⊎ Before (round ∷ rest) q
    rank [] e2 w2 = absurd (omega arith)
    rank (r ∷ rs) e2 w2 =
        ⊎_elim (λ same.
        let w3 : Way x (suc t) (next x.task state round) rs = subst (λ n. Way x (suc t) (next x.task state n) rs) same w2.1 in
        subst (λ n. (n ∷ rs ≡ round ∷ rest) ⊎ Before (round ∷ rest) (n ∷ rs)) (sym same)
        (⊎_elim (λ h. inl (ap (λ s. round ∷ s) h)) (λ h. inr (cons_before round rest rs h)) (before rs (omega arith) w3)))
        (⊎_elim (λ less. ⊎_elim (λ h. absurd (below r h rs e2 w2)) (λ h. absurd (first.2 r h less w2.0)) (cases_lt r from))
        (λ more. inr (0, refl, more))) (cases_order r round)

-- an open round leads from a standing to a standing
pub moves : (x : Subject) → Genuine x → (state t round : ℕ) → Standing x state t → t < x.card.rounds → OpenRound x state t round → Standing x (next x.task state round) (suc t)
moves x ok state t round st lt open_here = (grouped_next x.task ok.lawful state round st.0 open_here.0, omega arith)

-- where Good holds of what a sieve means, all that it drops is hopeless, and Good stays when it is told of a hopeless standing
pub record Sound {M : Type 0} (rules : Rules M) (x : Subject) (Good : M → Type 0) : Type 0 where
  pub keeps : (m : M) (state t : ℕ) → Good m → Standing x state t → Hopeless x state t → Good (rules.told m state t)
  pub standings : (m : M) (state t : ℕ) → Good m → rules.drops_standing m state t ≡ true → Hopeless x state t
  pub starts : (m : M) (state t round : ℕ) → Good m → rules.drops_start m state t round ≡ true → HopelessStart x state t round

-- a lawful sieve that has begun is sound
pub by_law : {M : Type 0} (rules : Rules M) {whole : M → Type 0} (kept : M → Type 0) → Law rules whole kept → (x : Subject) → Sound rules x (λ m. kept m × (rules.subject m ≡ Some x))
by_law rules kept law x = record {
  keeps = λ m state t good st no_way. (law.keeps m x state t good.0 good.1 st no_way, law.stays m state t ∙ good.1);
  standings = λ m state t good e. (law.standings m x state t good.0 good.1 e).1;
  starts = λ m state t round good e. (law.starts m x state t round good.0 good.1 e).1;
}

module _ {M : Type 0} {rules : Rules M} {x : Subject} {Good : M → Type 0} (sound : Sound rules x Good) (ok : Genuine x) where
  pub judged : {place : Place} {m n : M} {out : Option (List ℕ)} {o d : ℕ} → Walk rules x place m out o d n → Good m → Arrived x place → Outcome x (spot place) (time place) out × Good n
  judged (reached {state} {t} e goal) good st = ((omega arith, goal, λ q len w. inl (empty q (omega arith))), good)
  judged (missed {state} {t} {m} e miss) good st =
      let no_way : Hopeless x state t = λ q len w. miss (at_end x state t q e len w) in
      (no_way, sound.keeps m state t good st no_way)
  judged (opened lt w) good st = judged w good (st, lt, λ r h. absurd (omega arith))
  judged (exhausted {state} {t} {from} {m} none) good (st, lt, below) =
      let no_way : Hopeless x state t = hopeless_by_starts x state t lt (λ r. ⊎_elim (λ h. below r h) (λ h. not_open x state t r (none r h)) (cases_lt r from)) in
      (no_way, sound.keeps m state t good st no_way)
  judged (dropped {state} {t} {from} {m = m} round first drop w) good (st, lt, below) =
      let here : HopelessStart x state t round = ⊎_elim (λ e. sound.starts m state t round good e) (λ e. by_next x state t round (sound.standings m _ (suc t) good e)) drop in
      judged w good (st, lt, one_more x state t from round first below here)
  judged (failed {state} {t} {from} {m = m} round first keep clear w v) good (st, lt, below) =
      let deeper = judged w good (moves x ok state t round st lt first.1) in
      judged v deeper.1 (st, lt, one_more x state t from round first below (by_next x state t round deeper.0))
  judged (found {state} {t} {from} {m = m} {rest = rest} round first keep clear w) good (st, lt, below) =
      let deeper = judged w good (moves x ok state t round st lt first.1) in
      (lead x state t from round rest lt first below deeper.0, deeper.1)

-- ---- from the initial state, in terms of plans

pub beginning : (x : Subject) → Genuine x → Standing x x.task.initial 0
beginning x ok = (ok.lawful.one_of_each, omega arith)

pub none_serves : (x : Subject) → Hopeless x x.task.initial 0 → (p : List ℕ) → Serves x.card x.task p → ⊥
none_serves x no_way p s = no_way p (omega (arith, s.0)) (serves_way x p s)

pub first_serves : (x : Subject) → Genuine x → (p : List ℕ) → FirstWay x x.task.initial 0 p → Serves x.card x.task p × ((q : List ℕ) → Serves x.card x.task q → (q ≡ p) ⊎ Before p q)
first_serves x ok p (e, w, before) = (way_serves x p ok.sound (omega arith) w, λ q s. before q (omega (arith, s.0)) (serves_way x q s))
