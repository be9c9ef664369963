-- What the goal sieve and the gap sieve drop is hopeless.
use Rattle.std.proofs.Common.{◌≡◌, ℕ, ◌+◌, ◌-◌, ◌<◌, ◌≤◌, List, ◌∷◌, length, get_or, Some, None, Option, sym, subst, zero-add, arith}
use Rattle.sets.specs.Sets.{In}
use Rattle.model.specs.Tasks.{Task}
use Rattle.model.specs.Plans.{state_at, OneOfEach}
use Rattle.model.specs.Distances.{PathOf, Distance}
use Rattle.model.specs.Gaps.{Closer}
use Rattle.model.specs.Sieves.{Subject, Genuine, Way, Hopeless, HopelessStart, Due, by_goal, by_booking, Late, GoalDrops, Near, GapDrops}
use Rattle.model.proofs.States.{state_first}
use Rattle.model.proofs.Serving.{run_of, ends, held}
use Rattle.model.proofs.Spaces.{path_between, needs_before, not_closer}

too_far : (b : Task) (g v w n m : ℕ) (r : Option ℕ) → Distance b g v w r → Closer r n → m ≤ n → PathOf b g v w m → ⊥
too_far b g v w n m (Some r) far near le path = far.1 m (omega arith) path
too_far b g v w n m None far near le path = far m path

module _ (x : Subject) (ok : Genuine x) (state t : ℕ) (one : OneOfEach x.task state) (p : List ℕ) (whole : t + length p ≡ x.card.rounds) (way : Way x t state p) where
  -- what is due stands in time
  in_time : (w n : ℕ) → Due x t w n → (n ≤ length p) × In w (state_at x.task state p n)
  in_time w n (by_goal is wanted) = (omega arith, subst (λ k. In w (state_at x.task state p k)) (omega arith) (ends x t state p way w wanted))
  in_time w n (by_booking y is among has coming need) =
      let early : n < length p = omega (arith, (ok.sound.proper y among).1) in
      (omega arith, needs_before x.task ok.lawful state p one (run_of x t state p way) n y.action w early (held x t state p way n early y among (omega arith)) need)

  not_late : (v : ℕ) → In v state → Late x t v → ⊥
  not_late v here l =
      let due = in_time l.w l.n l.due in
      let path = path_between x.task ok.lawful state p one (run_of x t state p way) l.g l.within l.n 0 v l.w (omega (arith, due.0)) l.from (subst (λ s. In v s) (sym (state_first x.task state p)) here) l.to (subst (λ k. In l.w (state_at x.task state p k)) (sym (zero-add l.n)) due.1) in
      too_far x.task l.g v l.w l.n path.0 l.far l.is l.above path.1 path.2

  not_near : (a : ℕ) → In a (get_or p 0 0) → Near x t a → ⊥
  not_near a taken c =
      let d = c.booking.round - t in
      let early : d < length p = omega (arith, (ok.sound.proper c.booking c.stands).1, c.coming) in
      let here = held x t state p way d early c.booking c.stands (omega (arith, c.coming)) in
      not_closer x.task ok.lawful state p one (run_of x t state p way) a c.booking.action 0 d c.gap (omega arith) taken (subst (λ k. In c.booking.action (get_or p k 0)) (sym (zero-add d)) here) (λ same. c.other (same.0, omega (arith, same.1, c.coming))) c.is c.closer

pub goal_hopeless : (x : Subject) → Genuine x → (state t : ℕ) → GoalDrops x state t → Hopeless x state t
goal_hopeless x ok state t (st, (v, here, late)) rest whole way = not_late x ok state t st.0 rest whole way v here late

pub gap_hopeless : (x : Subject) → Genuine x → (state t round : ℕ) → GapDrops x state t round → HopelessStart x state t round
gap_hopeless x ok state t round (st, lt, (a, taken, near)) rest whole way = not_near x ok state t st.0 (round ∷ rest) whole way a taken near
