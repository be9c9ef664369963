-- The relation of the ledger and the function that computes it are one.
use Rattle.std.proofs.Common.{◌≡◌, ℕ, zero, suc, ◌<◌, Bool, true, false, eqb, leb, ◌⊎◌, List, [], ◌∷◌, ◌++◌, length, sym, refl, ap, ◌∙◌, subst, inl, inr, ⊎_elim, arith}
use Rattle.std.proofs.lemmas.Bool.{cases_Bool, cases_lt, cases_order, both_ways, and_parts, and_from, eqb-true, eq-eqb, leb-true, lt-ltb, le-leb, ltb-true, cond-true, cond-false, not-true, not_from_false, or_left, or_right, or_cases, false≢true}
use Rattle.model.specs.declared.Booking.{Booking}
use Rattle.model.specs.Ledgers.{Ledger, Call, book, release, stretch, find, slot, Among, Applies, no_such_action, too_late, stands_already, full, absent, too_long, cut_off, foreign, too_short, Allowed, Enters, Verdict, done, refused, Turns, same, any, taken_out, Ground, grounds, first, verdict, entered, settled, after, Computed}

-- ---- bookings and lists of them

same_from : (x y : Booking) → same x y ≡ true → x ≡ y
same_from x y e =
    let p = and_parts (eqb x.action y.action) (eqb x.round y.round) e in
    let a : x.action ≡ y.action = eqb-true _ _ p.0 in
    let t : x.round ≡ y.round = eqb-true _ _ p.1 in
    λ i. record { action = a i; round = t i }

same_to : (x y : Booking) → x ≡ y → same x y ≡ true
same_to x y e = and_from (eqb x.action y.action) (eqb x.round y.round) (eq-eqb _ _ (ap (λ b. b.action) e)) (eq-eqb _ _ (ap (λ b. b.round) e))

among_none : (x : Booking) → Among x [] → ⊥
among_none x (i, (lt, e)) = omega arith

among_here : (x : Booking) (xs : List Booking) → Among x (x ∷ xs)
among_here x xs = (0, (omega arith, refl))

among_behind : (x y : Booking) (xs : List Booking) → Among x xs → Among x (y ∷ xs)
among_behind x y xs (i, (lt, e)) = (suc i, (omega arith, e))

among_cases : (x y : Booking) (xs : List Booking) → Among x (y ∷ xs) → (x ≡ y) ⊎ Among x xs
among_cases x y xs (zero, (lt, e)) = inl (sym e)
among_cases x y xs (suc i, (lt, e)) = inr (i, (omega arith, e))

-- a booking that passes a test
abbrev Passing : (Booking → Bool) → List Booking → Type 0
Passing test xs = (x : Booking) × Among x xs × (test x ≡ true)

pub any_from : (test : Booking → Bool) (xs : List Booking) → any test xs ≡ true → Passing test xs
any_from test [] e = absurd (false≢true e)
any_from test (x ∷ xs) e =
    ⊎_elim (λ p. (x, among_here x xs, p)) (λ p. let r = any_from test xs p in (r.0, among_behind r.0 x xs r.1, r.2)) (or_cases (test x) (any test xs) e)

pub any_to : (test : Booking → Bool) (xs : List Booking) (x : Booking) → Among x xs → test x ≡ true → any test xs ≡ true
any_to test [] x a p = absurd (among_none x a)
any_to test (y ∷ ys) x a p =
    ⊎_elim (λ e. or_left (test y) (any test ys) (ap test (sym e) ∙ p)) (λ b. or_right (test y) (any test ys) (any_to test ys x b p)) (among_cases x y ys a)

pub stands_from : (x : Booking) (xs : List Booking) → any (same x) xs ≡ true → Among x xs
stands_from x xs e = let r = any_from (same x) xs e in subst (λ (y : Booking). Among y xs) (sym (same_from x r.0 r.2)) r.1

pub stands_to : (x : Booking) (xs : List Booking) → Among x xs → any (same x) xs ≡ true
stands_to x xs a = any_to (same x) xs x a (same_to x x refl)

no_from : {P : Type 0} (r : Bool) → (P → r ≡ true) → r ≡ false → P → ⊥
no_from r to e p = both_ways r e (to p)

pub no_to : {P : Type 0} (r : Bool) → (r ≡ true → P) → (P → ⊥) → r ≡ false
no_to r from no_p = ⊎_elim (λ e. absurd (no_p (from e))) (λ e. e) (cases_Bool r)

-- what comes before and after the first x stays
taken_out_split : (x : Booking) (before behind : List Booking) → (Among x before → ⊥) → taken_out x (before ++ (x ∷ behind)) ≡ before ++ behind
taken_out_split x [] behind none = cond-true (same x x) behind (x ∷ taken_out x behind) (same_to x x refl)
taken_out_split x (y ∷ ys) behind none =
    cond-false (same x y) (ys ++ (x ∷ behind)) (y ∷ taken_out x (ys ++ (x ∷ behind))) (no_to (same x y) (λ e. subst (λ (z : Booking). Among z (y ∷ ys)) (sym (same_from x y e)) (among_here y ys)) none)
    ∙ ap (λ zs. y ∷ zs) (taken_out_split x ys behind (λ a. none (among_behind x y ys a)))

-- the place of the first x
abbrev Split : Booking → List Booking → Type 0
Split x xs = (before behind : List Booking) × (xs ≡ before ++ (x ∷ behind)) × (taken_out x xs ≡ before ++ behind) × (Among x before → ⊥)

split_behind : (x y : Booking) (ys : List Booking) → same x y ≡ false → Split x ys → Split x (y ∷ ys)
split_behind x y ys q (before, behind, is, left, none) = (
  y ∷ before,
  behind,
  ap (λ zs. y ∷ zs) is,
  cond-false (same x y) ys (y ∷ taken_out x ys) q ∙ ap (λ zs. y ∷ zs) left,
  λ a. ⊎_elim (λ p. both_ways _ q (same_to x y p)) none (among_cases x y before a),
)

split : (x : Booking) (xs : List Booking) → any (same x) xs ≡ true → Split x xs
split x [] e = absurd (false≢true e)
split x (y ∷ ys) e =
    ⊎_elim (λ q. ([], ys, ap (λ z. z ∷ ys) (sym (same_from x y q)), cond-true (same x y) ys (y ∷ taken_out x ys) q, among_none x))
    (λ q. split_behind x y ys q (split x ys (⊎_elim (λ p. absurd (both_ways _ q p)) (λ p. p) (or_cases (same x y) (any (same x) ys) e))))
    (cases_Bool (same x y))

-- ---- the first ground that applies

-- the number m applies, by the list
abbrev Told : ℕ → List Ground → Type 0
Told m [] = ⊥
Told m (x ∷ xs) = ((m ≡ x.number) × (x.applies ≡ true)) ⊎ Told m xs

-- the numbers rise, from above n
abbrev Rising : ℕ → List Ground → Type 0
Rising n [] = Unit {0}
Rising n (x ∷ xs) = (n < x.number) × Rising x.number xs

rising_told : (n : ℕ) (xs : List Ground) → Rising n xs → (m : ℕ) → Told m xs → n < m
rising_told n [] up m h = absurd h
rising_told n (x ∷ xs) up m (inl h) = omega (arith, up.0, h.0)
rising_told n (x ∷ xs) up m (inr h) = omega (arith, up.0, rising_told x.number xs up.1 m h)

-- what a verdict says of the list
abbrev Says : List Ground → Verdict → Type 0
Says xs done = (m : ℕ) → Told m xs → ⊥
Says xs (refused n) = Told n xs × ((m : ℕ) → m < n → Told m xs → ⊥)

past : (x : Ground) (xs : List Ground) (v : Verdict) → x.applies ≡ false → Says xs v → Says (x ∷ xs) v
past x xs v no_x says = by v says
  where
    behind : (m : ℕ) → Told m (x ∷ xs) → Told m xs
    behind m (inl h) = absurd (both_ways _ no_x h.1)
    behind m (inr h) = h

    by : (w : Verdict) → Says xs w → Says (x ∷ xs) w
    by done p = λ m h. p m (behind m h)
    by (refused n) p = (inr p.0, λ m lt h. p.1 m lt (behind m h))

first_says : (n : ℕ) (xs : List Ground) → Rising n xs → Says xs (first xs)
first_says n [] up = λ m h. h
first_says n (x ∷ xs) up =
    ⊎_elim (λ e. subst (Says (x ∷ xs)) (sym (cond-true x.applies (refused x.number) (first xs) e)) (inl (refl, e), lower))
    (λ e. subst (Says (x ∷ xs)) (sym (cond-false x.applies (refused x.number) (first xs) e)) (past x xs (first xs) e (first_says x.number xs up.1)))
    (cases_Bool x.applies)
  where
    lower : (m : ℕ) → m < x.number → Told m (x ∷ xs) → ⊥
    lower m lt (inl h) = omega (arith, h.0)
    lower m lt (inr h) = omega (arith, rising_told x.number xs up.1 m h)

one_verdict : (xs : List Ground) (v w : Verdict) → Says xs v → Says xs w → v ≡ w
one_verdict xs done done p q = refl
one_verdict xs done (refused n) p q = absurd (p n q.0)
one_verdict xs (refused n) done p q = absurd (q n p.0)
one_verdict xs (refused n) (refused m) p q =
    ⊎_elim (λ e. ap refused e) (⊎_elim (λ lt. absurd (q.1 n lt p.0)) (λ lt. absurd (p.1 m lt q.0))) (cases_order n m)

-- ---- the grounds of each call are what applies to it

told : (l : Ledger) (c : Call) (m : ℕ) → Applies l c m → Told m (grounds l c)
told l (book a t) m (no_such_action e h) = inl (e, lt-ltb 63 a h)
told l (book a t) m (too_late e h) = inr (inl (e, le-leb l.rounds t h))
told l (book a t) m (stands_already e h) = inr (inr (inl (e, stands_to (slot a t) l.bookings h)))
told l (book a t) m (full e h) = inr (inr (inr (inl (e, le-leb 16 (length l.bookings) h))))
told l (release a t) m (absent e h) = inl (e, not_from_false _ (no_to _ (stands_from (slot a t) l.bookings) h))
told l (stretch k) m (too_long e h) = inl (e, lt-ltb 32 k h)
told l (stretch k) m (cut_off x e a h) = inr (inl (e, any_to (λ y. leb k y.round) l.bookings x a (le-leb k x.round h)))
told l (find b places) m (foreign x e a h) = inl (e, any_to (λ y. leb (length b.actions) y.action) l.bookings x a (⊎_elim (λ lt. absurd (h lt)) (λ le. le-leb _ _ le) (cases_lt x.action (length b.actions))))
told l (find b places) m (too_short e h) = inr (inl (e, lt-ltb places l.rounds h))

applies : (l : Ledger) (c : Call) (m : ℕ) → Told m (grounds l c) → Applies l c m
applies l (book a t) m (inl h) = no_such_action h.0 (ltb-true 63 a h.1)
applies l (book a t) m (inr (inl h)) = too_late h.0 (leb-true l.rounds t h.1)
applies l (book a t) m (inr (inr (inl h))) = stands_already h.0 (stands_from (slot a t) l.bookings h.1)
applies l (book a t) m (inr (inr (inr (inl h)))) = full h.0 (leb-true 16 (length l.bookings) h.1)
applies l (book a t) m (inr (inr (inr (inr h)))) = absurd h
applies l (release a t) m (inl h) = absent h.0 (no_from _ (stands_to (slot a t) l.bookings) (not-true _ h.1))
applies l (release a t) m (inr h) = absurd h
applies l (stretch k) m (inl h) = too_long h.0 (ltb-true 32 k h.1)
applies l (stretch k) m (inr (inl h)) =
    let r = any_from (λ y. leb k y.round) l.bookings h.1 in cut_off r.0 h.0 r.1 (leb-true k r.0.round r.2)
applies l (stretch k) m (inr (inr h)) = absurd h
applies l (find b places) m (inl h) =
    let r = any_from (λ y. leb (length b.actions) y.action) l.bookings h.1 in
    foreign r.0 h.0 r.1 (λ lt. let le = leb-true (length b.actions) r.0.action r.2 in omega arith)
applies l (find b places) m (inr (inl h)) = too_short h.0 (ltb-true places l.rounds h.1)
applies l (find b places) m (inr (inr h)) = absurd h

rising : (l : Ledger) (c : Call) → Rising 0 (grounds l c)
rising l (book a t) = (omega arith, (omega arith, (omega arith, (omega arith, tt))))
rising l (release a t) = (omega arith, tt)
rising l (stretch k) = (omega arith, (omega arith, tt))
rising l (find b places) = (omega arith, (omega arith, tt))

-- ---- the ledger

enters_from : (l : Ledger) (c : Call) (k : Ledger) → Enters l c k → k ≡ entered l c
enters_from l (book a t) k h = λ i. record { rounds = h.0 i; bookings = h.1 i }
enters_from l (release a t) k (e, (before, behind, is, left, none)) =
    let bookings : k.bookings ≡ taken_out (slot a t) l.bookings = left ∙ sym (ap (taken_out (slot a t)) is ∙ taken_out_split (slot a t) before behind none) in
    λ i. record { rounds = e i; bookings = bookings i }
enters_from l (stretch n) k h = λ i. record { rounds = h.0 i; bookings = h.1 i }
enters_from l (find b places) k h = h

enters_to : (l : Ledger) (c : Call) → Allowed l c → Enters l c (entered l c)
enters_to l (book a t) may = (refl, refl)
enters_to l (release a t) may =
    (refl, split (slot a t) l.bookings (⊎_elim (λ e. e) (λ e. absurd (may 16 (absent refl (no_from _ (stands_to (slot a t) l.bookings) e)))) (cases_Bool (any (same (slot a t)) l.bookings))))
enters_to l (stretch n) may = (refl, refl)
enters_to l (find b places) may = refl

turned : (l : Ledger) (c : Call) (v : Verdict) → Says (grounds l c) v → Turns l c v (settled v (entered l c) l)
turned l c done says = let may : Allowed l c = λ n h. says n (told l c n h) in (may, enters_to l c may)
turned l c (refused n) says = ((applies l c n says.0, λ m lt h. says.1 m lt (told l c m h)), refl)

turns_to : (l : Ledger) (c : Call) → Turns l c (verdict l c) (after l c)
turns_to l c = turned l c (verdict l c) (first_says 0 (grounds l c) (rising l c))

pub turns_from : (l : Ledger) (c : Call) (v : Verdict) (k : Ledger) → Turns l c v k → (v ≡ verdict l c) × (k ≡ after l c)
turns_from l c v k h = let e = one_verdict (grounds l c) v (verdict l c) (says v h) (first_says 0 (grounds l c) (rising l c)) in (e, next v h ∙ ap (λ w. settled w (entered l c) l) e)
  where
    says : (w : Verdict) → Turns l c w k → Says (grounds l c) w
    says done p = λ m q. p.0 m (applies l c m q)
    says (refused n) p = (told l c n p.0.0, λ m lt q. p.0.1 m lt (applies l c m q))

    next : (w : Verdict) → Turns l c w k → k ≡ settled w (entered l c) l
    next done p = enters_from l c k p.1
    next (refused n) p = p.1

-- what the function computes, by its verdict
pub turns_by : (l : Ledger) (c : Call) (v : Verdict) (k : Ledger) → v ≡ verdict l c → k ≡ settled v (entered l c) l → Turns l c v k
turns_by l c v k e h =
    subst (λ (x : Ledger). Turns l c v x) (sym h)
    (subst (λ (w : Verdict). Turns l c w (settled w (entered l c) l)) (sym e) (turns_to l c))

pub turns_computed : Computed
turns_computed l c v k = (turns_from l c v k, λ h. turns_by l c v k h.0 (h.1 ∙ ap (λ w. settled w (entered l c) l) (sym h.0)))
