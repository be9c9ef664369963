-- The tests decide the relations, for every genuine subject.
use Rattle.std.specs.Prelude.{◌≡◌, ℕ, zero, suc, ◌+◌, ◌-◌, ◌<◌, ◌≤◌, Bool, not, ◌&&◌, ◌⊎◌, List, length, Some, None, Decides, Option, ◌==◌, bit_and, count_ones, nat_le, refl}
use Rattle.std.proofs.Common.{subst, inl, inr, ⊎_elim, arith}
use Rattle.std.proofs.lemmas.Bool.{cases_lt, cases_eq, leb-true, le-leb, false≢true, or_cases, or_left, or_right}
use Rattle.std.proofs.lemmas.Bool.Decides.{Decides-like, Decides-not, Decides-and, Decides-or, Decides-eqb, Decides-ltb}
use Rattle.sets.specs.Sets.{In, has, Meet, One}
use Rattle.sets.proofs.Members.{meet_from, meet_to}
use Rattle.sets.proofs.Counts.{one_from, one_to}
use Rattle.model.specs.declared.Booking.{Booking}
use Rattle.model.specs.Tasks.{Task, Lawful, Has, action, group}
use Rattle.model.specs.Plans.{OneOfEach}
use Rattle.model.specs.Distances.{Arc, PathOf, Distance}
use Rattle.model.specs.Gaps.{UpTo, Far, A1, A2, B1, B2, B3, B4, By, Gap, Closer}
use Rattle.model.specs.Ledgers.{Among, any}
use Rattle.model.specs.Sieves.{Subject, Genuine, Due, by_goal, by_booking, Late, GoalDrops, Near, GapDrops}
use Rattle.model.proofs.Ledgers.{any_from, any_to}
use Rattle.model.proofs.Spaces.{by_down}
use Rattle.londex.proofs.Paths.{fact_small, one_group}
use Rattle.londex.proofs.Rules.{Ruled}
use Rattle.londex.proofs.Exists.{facts_exist, gap_exists}
use Rattle.lookahead.specs.Tests.{any_below, standing_test, arc_test, short, due_test, late_test, goal_test, far_test, meet_test, ruled_test, near_test, gap_test}

-- ---- tests in general

pub leb_says : (a b : ℕ) → Decides (nat_le a b) (a ≤ b)
leb_says a b = (leb-true a b, le-leb a b)

pub any_says : (p : ℕ → Bool) (P : ℕ → Type 0) (n : ℕ) → ((k : ℕ) → k < n → Decides (p k) (P k)) → Decides (any_below n p) ((k : ℕ) × (k < n) × P k)
unfolding any_below
any_says p P zero each = (λ e. absurd (false≢true e), λ q. absurd (omega (arith, q.1)))
any_says p P (suc n) each =
    let before = any_says p P n (λ k l. each k (omega arith)) in
    let here = each n (omega arith) in (
      λ e. ⊎_elim (λ h. (n, omega arith, here.0 h)) (λ h. let q = before.0 h in (q.0, omega (arith, q.1), q.2)) (or_cases (p n) (any_below n p) e),
      λ q. ⊎_elim (λ same. or_left (p n) (any_below n p) (here.1 (subst P same q.2))) (λ ne. or_right (p n) (any_below n p) (before.1 (q.0, omega (arith, q.1), q.2))) (cases_eq q.0 n),
    )

pub booking_says : (p : Booking → Bool) (P : Booking → Type 0) (xs : List Booking) → ((y : Booking) → Decides (p y) (P y)) → Decides (any p xs) ((y : Booking) × Among y xs × P y)
booking_says p P xs each = (
  λ e. let q = any_from p xs e in (q.0, q.1, (each q.0).0 q.2),
  λ q. any_to p xs q.0 q.1 ((each q.0).1 q.2),
)

has_says : (i s : ℕ) → Decides (has i s) (In i s)
has_says i s = Decides-eqb _ 1

meet_says : (s t : ℕ) → Decides (meet_test s t) (Meet s t)
unfolding meet_test
meet_says s t = Decides-like (not (bit_and s t == 0)) (meet_from s t) (meet_to s t) (Decides-not (bit_and s t == 0) (Decides-eqb (bit_and s t) 0))

one_says : (s t : ℕ) → Decides (count_ones (bit_and s t) == 1) (One s t)
one_says s t = Decides-like (count_ones (bit_and s t) == 1) (one_from s t) (one_to s t) (Decides-eqb (count_ones (bit_and s t)) 1)

pub standing_says : (b : Task) (state : ℕ) → Decides (standing_test b state) (OneOfEach b state)
unfolding standing_test
standing_says b state =
    let some = any_says (λ g. not (count_ones (bit_and state (group b g)) == 1)) (λ g. One state (group b g) → ⊥) (length b.groups) (λ g _. Decides-not _ (one_says state (group b g))) in
    Decides-like _
    (λ none g l. ⊎_elim (λ e. one_from state (group b g) e) (λ ne. absurd (none (g, l, λ o. ne (one_to state (group b g) o)))) (cases_eq (count_ones (bit_and state (group b g))) 1))
    (λ each q. q.2 (each q.0 q.1))
    (Decides-not (any_below (length b.groups) (λ g. not (count_ones (bit_and state (group b g)) == 1))) some)

-- ---- ways

module _ (b : Task) (ok : Lawful b) where
  arc_says : (g v w : ℕ) → Decides (arc_test b g v w) (Arc b g v w)
  unfolding arc_test
  arc_says g v w =
      Decides-like _
      (λ h. (h.0.0, h.0.1, (h.1.0, h.1.1, h.1.2.0, h.1.2.1)))
      (λ h. ((h.0, h.1), (h.2.0, h.2.1, (h.2.2, h.2.3))))
      (Decides-and (has v (group b g) && has w (group b g)) _ (Decides-and (has v (group b g)) (has w (group b g)) (has_says v (group b g)) (has_says w (group b g)))
      (any_says (λ a. has v (action b a).deletes && has w (action b a).adds) (λ a. In v (action b a).deletes × In w (action b a).adds) (length b.actions)
      (λ a _. Decides-and (has v (action b a).deletes) (has w (action b a).adds) (has_says v (action b a).deletes) (has_says w (action b a).adds))))

  -- some way from v to w has fewer than n arcs
  abbrev Short : ℕ → ℕ → ℕ → ℕ → Type 0
  Short g w n v = (k : ℕ) × (k < n) × PathOf b g v w k

  module _ (g w : ℕ) (within : g < length b.groups) where
    short_to : (n v : ℕ) → (v ≡ w) ⊎ ((x : ℕ) × (x < 64) × (Arc b g v x × Short g w n x)) → Short g w (suc n) v
    short_to n v (inl e) = (0, omega arith, e)
    short_to n v (inr (x, l, (arc, (k, less, path)))) = (suc k, omega arith, (x, arc, path))

    short_from : (n v : ℕ) → Short g w (suc n) v → (v ≡ w) ⊎ ((x : ℕ) × (x < 64) × (Arc b g v x × Short g w n x))
    short_from n v (zero, less, e) = inl e
    short_from n v (suc k, less, (x, arc, path)) = inr (x, fact_small b ok g x within arc.1, (arc, (k, omega arith, path)))

    short_says : (n v : ℕ) → Decides (short b g w n v) (Short g w n v)
    unfolding short
    short_says zero v = (λ e. absurd (false≢true e), λ q. absurd (omega (arith, q.1)))
    short_says (suc n) v =
        Decides-like _ (short_to n v) (short_from n v)
        (Decides-or (v == w) _ (Decides-eqb v w)
        (any_says (λ x. arc_test b g v x && short b g w n x) (λ x. Arc b g v x × Short g w n x) 64
        (λ x _. Decides-and (arc_test b g v x) (short b g w n x) (arc_says g v x) (short_says n x))))

    up_none : (v : ℕ) (r : Option ℕ) (less d : ℕ) → Distance b g v w r → UpTo r less d → Short g w (d + less) v → ⊥
    up_none v (Some r) less d far up (k, l, path) = far.1 k (omega arith) path
    up_none v None less d far up (k, l, path) = far k path

    none_up : (v : ℕ) (r : Option ℕ) (less d : ℕ) → Distance b g v w r → (Short g w (d + less) v → ⊥) → UpTo r less d
    none_up v (Some r) less d far none = ⊎_elim (λ l. absurd (none (r, l, far.0))) (λ l. l) (cases_lt r (d + less))
    none_up v None less d far none = tt

    -- the distance, in this group
    far_exists : (v : ℕ) → In v (group b g) → In w (group b g) → (r : Option ℕ) × Distance b g v w r
    far_exists v vg wg =
        let e = facts_exist b ok v w (g, within, vg, wg) in
        let f = e.1 in
        (e.0, subst (λ (h : ℕ). Distance b h v w e.0) (one_group b ok f.group_of g v f.within within f.first vg) f.far)

  -- ---- what the rules forbid

  -- what `Far` says of a group and two of its facts
  abbrev FarIn : ℕ → ℕ → ℕ → ℕ → ℕ → ℕ → ℕ → Type 0
  FarIn p q less d g v w = ((In v (group b g) × In w (group b g)) × (In v p × In w q)) × (Short g w (d + less) v → ⊥)

  far_to : (p q less d : ℕ) → (g : ℕ) × (g < length b.groups) × ((v : ℕ) × (v < 64) × ((w : ℕ) × (w < 64) × FarIn p q less d g v w)) → Far b p q less d
  far_to p q less d (g, within, (v, vs, (w, ws, ((on, at), none)))) =
      let e = far_exists g w within v on.0 on.1 in
      (v, w, e.0, record { group_of = g; within = within; first = on.0; second = on.1; far = e.1 }, at.0, at.1, none_up g w within v e.0 less d e.1 none)

  far_from : (p q less d : ℕ) → Far b p q less d → (g : ℕ) × (g < length b.groups) × ((v : ℕ) × (v < 64) × ((w : ℕ) × (w < 64) × FarIn p q less d g v w))
  far_from p q less d (v, w, r, f, vp, wq, up) =
      let g = f.group_of in
      (g, f.within, (v, fact_small b ok g v f.within f.first, (w, fact_small b ok g w f.within f.second, (((f.first, f.second), (vp, wq)), up_none g w f.within v r less d f.far up))))

  in_both : (i j s t : ℕ) → Decides (has i s && has j t) (In i s × In j t)
  in_both i j s t = Decides-and (has i s) (has j t) (has_says i s) (has_says j t)

  far_says : (p q less d : ℕ) → Decides (far_test b p q less d) (Far b p q less d)
  unfolding far_test
  far_says p q less d =
      Decides-like _ (far_to p q less d) (far_from p q less d)
      (any_says _ (λ g. (v : ℕ) × (v < 64) × ((w : ℕ) × (w < 64) × FarIn p q less d g v w)) (length b.groups)
      (λ g within. any_says _ (λ v. (w : ℕ) × (w < 64) × FarIn p q less d g v w) 64
      (λ v _. any_says _ (λ w. FarIn p q less d g v w) 64
      (λ w _. Decides-and ((has v (group b g) && has w (group b g)) && (has v p && has w q)) (not (short b g w (d + less) v))
      (Decides-and (has v (group b g) && has w (group b g)) (has v p && has w q) (in_both v w (group b g) (group b g)) (in_both v w p q))
      (Decides-not (short b g w (d + less) v) (short_says g w within (d + less) v))))))

  module _ (a c d : ℕ) where
    -- the six rules, side by side
    abbrev Six : Type 0
    Six = ((Meet (action b a).adds (action b c).deletes × (d ≡ 0)) ⊎ (Meet (action b a).deletes (action b c).needs × (d ≤ 1))) ⊎ ((By B1 b a c d ⊎ By B2 b a c d) ⊎ (By B3 b a c d ⊎ By B4 b a c d))

    six_to : Six → Ruled b a c d
    six_to (inl (inl (m, e))) = (A1, (m.0, m.1, m.2, e))
    six_to (inl (inr (m, l))) = (A2, (m.0, m.1, m.2, l))
    six_to (inr (inl (inl h))) = (B1, h)
    six_to (inr (inl (inr h))) = (B2, h)
    six_to (inr (inr (inl h))) = (B3, h)
    six_to (inr (inr (inr h))) = (B4, h)

    six_from : Ruled b a c d → Six
    six_from (A1, h) = inl (inl ((h.0, h.1, h.2), h.3))
    six_from (A2, h) = inl (inr ((h.0, h.1, h.2), h.3))
    six_from (B1, h) = inr (inl (inl h))
    six_from (B2, h) = inr (inl (inr h))
    six_from (B3, h) = inr (inr (inl h))
    six_from (B4, h) = inr (inr (inr h))

    ruled_says : Decides (ruled_test b a c d) (Ruled b a c d)
    unfolding ruled_test
    ruled_says =
        Decides-like _ six_to six_from
        (Decides-or _ _
        (Decides-or _ _ (Decides-and _ _ (meet_says (action b a).adds (action b c).deletes) (Decides-eqb d 0)) (Decides-and _ _ (meet_says (action b a).deletes (action b c).needs) (leb_says d 1)))
        (Decides-or _ _
        (Decides-or _ _ (far_says (action b a).adds (action b c).adds 1 d) (far_says (action b a).adds (action b c).needs 0 d))
        (Decides-or _ _ (far_says (action b a).needs (action b c).adds 2 d) (far_says (action b a).needs (action b c).needs 1 d))))

    -- below the gap is what the rules forbid, but for the step itself
    pub closer_ruled : (r : Option ℕ) → Gap b a c r → Closer r d → Ruled b a c d
    closer_ruled (Some zero) gap l = absurd (omega arith)
    closer_ruled (Some (suc m)) gap l = let h = gap.0.1 in (h.0, by_down b h.0 a c m d (omega arith) h.1)
    closer_ruled None gap l = let e = gap d in let h = e.2.1 in (h.0, by_down b h.0 a c e.0 d e.1 h.1)

    pub ruled_closer : (r : Option ℕ) → Gap b a c r → ((a ≡ c) × (d ≡ 0) → ⊥) → Ruled b a c d → Closer r d
    ruled_closer (Some zero) gap other h = absurd (gap d (other, h))
    ruled_closer (Some (suc m)) gap other h = ⊎_elim (λ l. absurd (gap.1 d l (other, h))) (λ l. omega arith) (cases_lt m d)
    ruled_closer None gap other h = tt

-- ---- the two sieves

closer_up : (r : Option ℕ) (n : ℕ) → Closer r n → UpTo r 1 n
closer_up (Some r) n l = omega arith
closer_up None n l = tt

up_closer : (r : Option ℕ) (n : ℕ) → UpTo r 1 n → Closer r n
up_closer (Some r) n l = omega arith
up_closer None n l = tt

pub late_small : (x : Subject) → Lawful x.task → (t v : ℕ) → Late x t v → v < 64
late_small x ok t v l = fact_small x.task ok l.g v l.within l.from

pub near_small : (x : Subject) → Lawful x.task → (t a : ℕ) → Near x t a → a < 64
near_small x ok t a n = omega (arith, ok.few_actions, n.has)

module _ (x : Subject) (ok : Genuine x) where
  abbrev b : Task
  b = x.task

  -- a booking for which w is due in a number of rounds with P
  abbrev DueBooking : ℕ → ℕ → (ℕ → Type 0) → Booking → Type 0
  DueBooking t w P y = (Has b y.action × (t ≤ y.round)) × (In w (action b y.action).needs × P (y.round - t))

  due_to : (t w : ℕ) (P : ℕ → Type 0) → (In w b.goal × P (x.card.rounds - t)) ⊎ ((y : Booking) × Among y x.card.bookings × DueBooking t w P y) → (n : ℕ) × Due x t w n × P n
  due_to t w P (inl h) = (x.card.rounds - t, by_goal refl h.0, h.1)
  due_to t w P (inr (y, on, h)) = (y.round - t, by_booking y refl on h.0.0 h.0.1 h.1.0, h.1.1)

  due_from : (t w : ℕ) (P : ℕ → Type 0) (n : ℕ) → Due x t w n → P n → (In w b.goal × P (x.card.rounds - t)) ⊎ ((y : Booking) × Among y x.card.bookings × DueBooking t w P y)
  due_from t w P n (by_goal e h) p = inl (h, subst P e p)
  due_from t w P n (by_booking y e on has coming h) p = inr (y, on, ((has, coming), (h, subst P e p)))

  due_says : (t w : ℕ) (p : ℕ → Bool) (P : ℕ → Type 0) → ((n : ℕ) → Decides (p n) (P n)) → Decides (due_test x t w p) ((n : ℕ) × Due x t w n × P n)
  unfolding due_test
  due_says t w p P each =
      Decides-like _ (due_to t w P) (λ q. due_from t w P q.0 q.1 q.2)
      (Decides-or _ _ (Decides-and _ _ (has_says w b.goal) (each (x.card.rounds - t)))
      (booking_says _ (DueBooking t w P) x.card.bookings
      (λ y. Decides-and _ _ (Decides-and _ _ (Decides-ltb y.action (length b.actions)) (leb_says t y.round)) (Decides-and _ _ (has_says w (action b y.action).needs) (each (y.round - t))))))

  -- what `Late` says of a group and a fact of it
  abbrev LateIn : ℕ → ℕ → ℕ → ℕ → Type 0
  LateIn t v g w = (In v (group b g) × In w (group b g)) × ((n : ℕ) × Due x t w n × (Short b ok.lawful g w (n + 1) v → ⊥))

  late_to : (t v : ℕ) → (g : ℕ) × (g < length b.groups) × ((w : ℕ) × (w < 64) × LateIn t v g w) → Late x t v
  late_to t v (g, within, (w, small, (on, (n, due, none)))) =
      let e = far_exists b ok.lawful g w within v on.0 on.1 in
      record { g = g; w = w; n = n; within = within; from = on.0; to = on.1; due = due; far = e.0; is = e.1; above = up_closer e.0 n (none_up b ok.lawful g w within v e.0 1 n e.1 none) }

  late_from : (t v : ℕ) → Late x t v → (g : ℕ) × (g < length b.groups) × ((w : ℕ) × (w < 64) × LateIn t v g w)
  late_from t v l =
      (l.g, l.within, (l.w, fact_small b ok.lawful l.g l.w l.within l.to, ((l.from, l.to), (l.n, l.due, up_none b ok.lawful l.g l.w l.within v l.far 1 l.n l.is (closer_up l.far l.n l.above)))))

  late_says : (t v : ℕ) → Decides (late_test x t v) (Late x t v)
  unfolding late_test
  late_says t v =
      Decides-like _ (late_to t v) (late_from t v)
      (any_says _ (λ g. (w : ℕ) × (w < 64) × LateIn t v g w) (length b.groups)
      (λ g within. any_says _ (λ w. LateIn t v g w) 64
      (λ w _. Decides-and _ _ (in_both b ok.lawful v w (group b g) (group b g))
      (due_says t w (λ n. not (short b g w (n + 1) v)) (λ n. Short b ok.lawful g w (n + 1) v → ⊥) (λ n. Decides-not _ (short_says b ok.lawful g w within (n + 1) v))))))

  pub goal_says : (state t : ℕ) → Decides (goal_test x state t) (GoalDrops x state t)
  unfolding goal_test
  goal_says state t =
      Decides-like _
      (λ h. (h.0, (h.1.0, h.1.2.0, h.1.2.1)))
      (λ h. (h.0, (h.1.0, late_small x ok.lawful t h.1.0 h.1.2, (h.1.1, h.1.2))))
      (Decides-and _ _ (Decides-and _ _ (standing_says b state) (leb_says t x.card.rounds))
      (any_says _ (λ v. In v state × Late x t v) 64 (λ v _. Decides-and _ _ (has_says v state) (late_says t v))))

  -- what `Near` says of a booking
  abbrev NearBooking : ℕ → ℕ → Booking → Type 0
  NearBooking t a y = (((t ≤ y.round) × Has b y.action) × ((a ≡ y.action) × (y.round ≡ t) → ⊥)) × Ruled b a y.action (y.round - t)

  near_to : (t a : ℕ) → Has b a × ((y : Booking) × Among y x.card.bookings × NearBooking t a y) → Near x t a
  near_to t a (has, (y, on, ((at, other), ruled))) =
      let e = gap_exists b ok.lawful a y.action in
      record { booking = y; stands = on; coming = at.0; has = has; has_booked = at.1; other = other; gap = e.0; is = e.1; closer = ruled_closer b ok.lawful a y.action (y.round - t) e.0 e.1 (λ s. other (s.0, omega (arith, s.1, at.0))) ruled }

  near_from : (t a : ℕ) → Near x t a → Has b a × ((y : Booking) × Among y x.card.bookings × NearBooking t a y)
  near_from t a n =
      let y = n.booking in
      (n.has, (y, n.stands, (((n.coming, n.has_booked), n.other), closer_ruled b ok.lawful a y.action (y.round - t) n.gap n.is n.closer)))

  near_says : (t a : ℕ) → Decides (near_test x t a) (Near x t a)
  unfolding near_test
  near_says t a =
      Decides-like _ (near_to t a) (near_from t a)
      (Decides-and _ _ (Decides-ltb a (length b.actions))
      (booking_says _ (NearBooking t a) x.card.bookings
      (λ y. Decides-and _ _ (Decides-and _ _ (Decides-and _ _ (leb_says t y.round) (Decides-ltb y.action (length b.actions))) (Decides-not _ (Decides-and _ _ (Decides-eqb a y.action) (Decides-eqb y.round t))))
      (ruled_says b ok.lawful a y.action (y.round - t)))))

  pub gap_says : (state t round : ℕ) → Decides (gap_test x state t round) (GapDrops x state t round)
  unfolding gap_test
  gap_says state t round =
      Decides-like _
      (λ h. (h.0.0, h.0.1, (h.1.0, h.1.2.0, h.1.2.1)))
      (λ h. ((h.0, h.1), (h.2.0, near_small x ok.lawful t h.2.0 h.2.2, (h.2.1, h.2.2))))
      (Decides-and _ _ (Decides-and _ _ (Decides-and _ _ (standing_says b state) (leb_says t x.card.rounds)) (Decides-ltb t x.card.rounds))
      (any_says _ (λ a. In a round × Near x t a) 64 (λ a _. Decides-and _ _ (has_says a round) (near_says t a))))
