-- The ledger of a list of calls: what a card must hold and answer, judged on the calls alone. First as a relation,
-- in the words of the rules, then as a function that computes it; Computed says that they are one.
use Rattle.std.specs.Prelude.{◌≡◌, ℕ, ◌<◌, ◌≤◌, Bool, false, cond, not, ◌&&◌, ◌||◌, leb, List, [], ◌∷◌, ◌++◌, length, ◌==◌, nat_le, nat_lt, slice_index_or}
use Rattle.model.specs.declared.Booking.{Booking}
use Rattle.model.specs.Tasks.{Task, Has}

-- how many rounds a card has, and its bookings in the order of booking
pub record Ledger : Type 0 where
  pub rounds : ℕ
  pub bookings : List Booking

-- a card at its beginning
abbrev pub opening : Ledger
opening = record { rounds = 0; bookings = [] }

-- what may be asked of a card: to book or to release action a in round t, to have k rounds from now on, or to be
-- searched for a plan of the task b, with a strip of so many places to write it on
pub data Call : Type 0 where
  book : (a t : ℕ) → Call
  release : (a t : ℕ) → Call
  stretch : (k : ℕ) → Call
  find : (b : Task) (places : ℕ) → Call

-- the booking of action a in round t
abbrev pub slot : ℕ → ℕ → Booking
slot a t = record { action = a; round = t }

-- the place i of a list holds x
abbrev pub HoldsAt : List Booking → ℕ → Booking → Type 0
HoldsAt xs i x = (i < length xs) × (slice_index_or xs i (slot 0 0) ≡ x)

-- x is one of the list
abbrev pub Among : Booking → List Booking → Type 0
Among x xs = (i : ℕ) × HoldsAt xs i x

-- ---- the relation

-- where a number applies to a call
pub data Applies (l : Ledger) : Call → ℕ → Type 0 where
  no_such_action : {a t n : ℕ} → n ≡ 12 → 63 < a → Applies l (book a t) n
  too_late : {a t n : ℕ} → n ≡ 13 → l.rounds ≤ t → Applies l (book a t) n
  stands_already : {a t n : ℕ} → n ≡ 14 → Among (slot a t) l.bookings → Applies l (book a t) n
  full : {a t n : ℕ} → n ≡ 15 → 16 ≤ length l.bookings → Applies l (book a t) n
  absent : {a t n : ℕ} → n ≡ 16 → (Among (slot a t) l.bookings → ⊥) → Applies l (release a t) n
  too_long : {k n : ℕ} → n ≡ 17 → 32 < k → Applies l (stretch k) n
  cut_off : {k n : ℕ} (x : Booking) → n ≡ 18 → Among x l.bookings → k ≤ x.round → Applies l (stretch k) n
  foreign : {b : Task} {places n : ℕ} (x : Booking) → n ≡ 19 → Among x l.bookings → (Has b x.action → ⊥) → Applies l (find b places) n
  too_short : {b : Task} {places n : ℕ} → n ≡ 20 → places < l.rounds → Applies l (find b places) n

-- a call is refused by the first number that applies
abbrev pub Refused : Ledger → Call → ℕ → Type 0
Refused l c n = Applies l c n × ((m : ℕ) → m < n → Applies l c m → ⊥)

-- no number applies
abbrev pub Allowed : Ledger → Call → Type 0
Allowed l c = (n : ℕ) → Applies l c n → ⊥

-- what a call that is not refused makes of the ledger: a booking is added last; one is taken out, the first where the
-- list should have it twice, and the others keep their order; the number of rounds is changed; a search changes nothing
abbrev pub Enters : Ledger → Call → Ledger → Type 0
Enters l (book a t) k = (k.rounds ≡ l.rounds) × (k.bookings ≡ l.bookings ++ (slot a t ∷ []))
Enters l (release a t) k = (k.rounds ≡ l.rounds) × ((before behind : List Booking) × (l.bookings ≡ before ++ (slot a t ∷ behind)) × (k.bookings ≡ before ++ behind) × (Among (slot a t) before → ⊥))
Enters l (stretch n) k = (k.rounds ≡ n) × (k.bookings ≡ l.bookings)
Enters l (find b places) k = k ≡ l

-- the end of a call
pub data Verdict : Type 0 where
  done : Verdict
  refused : ℕ → Verdict

-- the call c ends with the verdict v and takes the ledger l to k; a refused call changes nothing
abbrev pub Turns : Ledger → Call → Verdict → Ledger → Type 0
Turns l c done k = Allowed l c × Enters l c k
Turns l c (refused n) k = Refused l c n × (k ≡ l)

-- ---- the function

-- whether x and y are the same booking
abbrev pub same : Booking → Booking → Bool
same x y = x.action == y.action && x.round == y.round

-- whether some booking of the list passes the test
abbrev pub any : (Booking → Bool) → List Booking → Bool
any test [] = false
any test (x ∷ xs) = test x || any test xs

-- the list without the first x
abbrev pub taken_out : Booking → List Booking → List Booking
taken_out x [] = []
taken_out x (y ∷ ys) = cond (same x y) ys (y ∷ taken_out x ys)

-- a ground of refusal: a number, and whether it applies
pub record Ground : Type 0 where
  pub number : ℕ
  pub applies : Bool

-- the ground of this number
abbrev pub ground : ℕ → Bool → Ground
ground n b = record { number = n; applies = b }

-- all grounds on which a call may be refused, in order
abbrev pub grounds : Ledger → Call → List Ground
grounds l (book a t) = ground 12 (nat_lt 63 a) ∷ ground 13 (nat_le l.rounds t) ∷ ground 14 (any (same (slot a t)) l.bookings) ∷ ground 15 (nat_le 16 (length l.bookings)) ∷ []
grounds l (release a t) = ground 16 (not (any (same (slot a t)) l.bookings)) ∷ []
grounds l (stretch k) = ground 17 (nat_lt 32 k) ∷ ground 18 (any (λ x. leb k x.round) l.bookings) ∷ []
grounds l (find b places) = ground 19 (any (λ x. leb (length b.actions) x.action) l.bookings) ∷ ground 20 (nat_lt places l.rounds) ∷ []

-- the first ground that applies refuses
abbrev pub first : List Ground → Verdict
first [] = done
first (x ∷ xs) = cond x.applies (refused x.number) (first xs)

-- how a call ends
abbrev pub verdict : Ledger → Call → Verdict
verdict l c = first (grounds l c)

-- what a call that is done makes of the ledger
abbrev pub entered : Ledger → Call → Ledger
entered l (book a t) = record { rounds = l.rounds; bookings = l.bookings ++ (slot a t ∷ []) }
entered l (release a t) = record { rounds = l.rounds; bookings = taken_out (slot a t) l.bookings }
entered l (stretch k) = record { rounds = k; bookings = l.bookings }
entered l (find b places) = l

-- the new ledger where the call is done, else the old one
abbrev pub settled : Verdict → Ledger → Ledger → Ledger
settled done new old = new
settled (refused n) new old = old

-- the ledger after one call
abbrev pub after : Ledger → Call → Ledger
after l c = settled (verdict l c) (entered l c) l

-- the ledger after a list of calls, the newest first, that began with a new card
abbrev pub ledger : List Call → Ledger
ledger [] = opening
ledger (c ∷ cs) = after (ledger cs) c

-- the verdict of each call of the list
abbrev pub verdicts : List Call → List Verdict
verdicts [] = []
verdicts (c ∷ cs) = verdict (ledger cs) c ∷ verdicts cs

-- ---- the two are one

-- a call turns the ledger exactly as the function computes
abbrev pub Computed : Type 0
Computed = (l : Ledger) (c : Call) (v : Verdict) (k : Ledger) → (Turns l c v k → (v ≡ verdict l c) × (k ≡ after l c)) × ((v ≡ verdict l c) × (k ≡ after l c) → Turns l c v k)
