-- The bookings of the front of a list, as a loop goes over them.
use Rattle.std.proofs.Common.{◌≡◌, ℕ, ◌+◌, ◌<◌, ◌≤◌, true, false, ◌⊎◌, List, length, get_or, take, is_some, Some, None, Option, sym, ◌∙◌, subst, inl, inr, ⊎_elim, arith}
use Rattle.std.proofs.lemmas.Bool.{cases_lt, true≢false, false≢true}
use Rattle.std.proofs.lemmas.List.{get_or-take, length-take-le}
use Rattle.model.specs.declared.Booking.{Booking}
use Rattle.model.specs.Ledgers.{slot, HoldsAt, Among}
use Rattle.card.specs.Tables.{Place}

pub booking_is : (x : Booking) (a t : ℕ) → x.action ≡ a → x.round ≡ t → x ≡ slot a t
booking_is x a t p q = λ i. record { action = p i; round = q i }

-- what the place j of the front is
pub front_from : (n : ℕ) (xs : List Booking) (x : Booking) (j : ℕ) → n ≤ length xs → HoldsAt (take n xs) j x → (j < n) × (get_or xs j (slot 0 0) ≡ x)
front_from n xs x j le (lt, e) = let b : j < n = omega (arith, length-take-le n xs le) in (b, sym (get_or-take n xs j (slot 0 0) b) ∙ e)

pub front_to : (n : ℕ) (xs : List Booking) (x : Booking) (j : ℕ) → n ≤ length xs → j < n → get_or xs j (slot 0 0) ≡ x → HoldsAt (take n xs) j x
front_to n xs x j le lt e = (omega (arith, length-take-le n xs le), get_or-take n xs j (slot 0 0) lt ∙ e)

-- one place more
pub among_more : (xs : List Booking) (i : ℕ) (x : Booking) → i < length xs → Among x (take (i + 1) xs) → Among x (take i xs) ⊎ (get_or xs i (slot 0 0) ≡ x)
among_more xs i x lt (j, h) =
    let f = front_from (i + 1) xs x j (omega arith) h in
    ⊎_elim (λ b. inl (j, front_to i xs x j (omega arith) b f.1))
    (λ b. let e : j ≡ i = omega (arith, f.0) in inr (subst (λ (n : ℕ). get_or xs n (slot 0 0) ≡ x) e f.1)) (cases_lt j i)

pub among_wider : (xs : List Booking) (i : ℕ) (x : Booking) → i < length xs → Among x (take i xs) → Among x (take (i + 1) xs)
among_wider xs i x lt (j, h) = let f = front_from i xs x j (omega arith) h in (j, front_to (i + 1) xs x j (omega arith) (omega (arith, f.0)) f.1)

pub among_last : (xs : List Booking) (i : ℕ) (x : Booking) → i < length xs → get_or xs i (slot 0 0) ≡ x → Among x (take (i + 1) xs)
among_last xs i x lt e = (i, front_to (i + 1) xs x i (omega arith) (omega arith) e)

-- what a place that was looked for tells
pub found : (xs : List Booking) (x : Booking) (r : Option ℕ) → Place xs x r → is_some r ≡ true → Among x xs
found xs x None h e = absurd (false≢true e)
found xs x (Some i) h e = (i, h.0)

pub missed : (xs : List Booking) (x : Booking) (r : Option ℕ) → Place xs x r → is_some r ≡ false → Among x xs → ⊥
missed xs x None h e = h
missed xs x (Some i) h e = absurd (true≢false e)
