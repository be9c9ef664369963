-- Each way that a call can end, from the tests on the way.
use Rattle.std.proofs.Common.{◌≡◌, ℕ, ◌<◌, ◌≤◌, true, false, leb, List, [], ◌∷◌, ◌++◌, length, refl, arith}
use Rattle.std.proofs.lemmas.Bool.{lt-ltb, le-ltb, le-leb, lt-leb, leb-true}
use Rattle.model.specs.declared.Booking.{Booking}
use Rattle.model.specs.Tasks.{Task, Has}
use Rattle.model.specs.Ledgers.{Ledger, book, release, stretch, find, slot, Among, Applies, absent, done, refused, Turns, same, any}
use Rattle.model.proofs.Ledgers.{any_from, any_to, stands_from, stands_to, no_to, turns_by}

module _ (l : Ledger) (a t : ℕ) where
  stands : Among (slot a t) l.bookings → any (same (slot a t)) l.bookings ≡ true
  stands h = stands_to (slot a t) l.bookings h

  free : (Among (slot a t) l.bookings → ⊥) → any (same (slot a t)) l.bookings ≡ false
  free h = no_to _ (stands_from (slot a t) l.bookings) h

  pub book_high : 63 < a → Turns l (book a t) (refused 12) l
  book_high h = let p = lt-ltb 63 a h in turns_by l (book a t) (refused 12) l (rw p) refl

  pub book_late : a ≤ 63 → l.rounds ≤ t → Turns l (book a t) (refused 13) l
  book_late h i =
      let p = le-ltb 63 a h in let q = le-leb l.rounds t i in
      turns_by l (book a t) (refused 13) l (rw (p, q)) refl

  pub book_again : a ≤ 63 → t < l.rounds → Among (slot a t) l.bookings → Turns l (book a t) (refused 14) l
  book_again h i j =
      let p = le-ltb 63 a h in let q = lt-leb l.rounds t i in let r = stands j in
      turns_by l (book a t) (refused 14) l (rw (p, q, r)) refl

  pub book_full : a ≤ 63 → t < l.rounds → (Among (slot a t) l.bookings → ⊥) → 16 ≤ length l.bookings → Turns l (book a t) (refused 15) l
  book_full h i j n =
      let p = le-ltb 63 a h in let q = lt-leb l.rounds t i in let r = free j in let s = le-leb 16 (length l.bookings) n in
      turns_by l (book a t) (refused 15) l (rw (p, q, r, s)) refl

  pub book_done : (k : Ledger) → a ≤ 63 → t < l.rounds → (Among (slot a t) l.bookings → ⊥) → length l.bookings < 16 → k.rounds ≡ l.rounds → k.bookings ≡ l.bookings ++ (slot a t ∷ []) → Turns l (book a t) done k
  book_done k h i j n e f =
      let p = le-ltb 63 a h in let q = lt-leb l.rounds t i in let r = free j in let s = lt-leb 16 (length l.bookings) n in
      turns_by l (book a t) done k (rw (p, q, r, s)) (λ i. record { rounds = e i; bookings = f i })

  pub release_absent : (Among (slot a t) l.bookings → ⊥) → Turns l (release a t) (refused 16) l
  release_absent j = let r = free j in turns_by l (release a t) (refused 16) l (rw r) refl

  pub release_done : (k : Ledger) → k.rounds ≡ l.rounds → (before behind : List Booking) → l.bookings ≡ before ++ (slot a t ∷ behind) → k.bookings ≡ before ++ behind → (Among (slot a t) before → ⊥) → Among (slot a t) l.bookings → Turns l (release a t) done k
  release_done k e before behind is left none j = (may, (e, (before, behind, is, left, none)))
    where
      may : (n : ℕ) → Applies l (release a t) n → ⊥
      may n (absent _ h) = h j

module _ (l : Ledger) (k : ℕ) where
  pub stretch_long : 32 < k → Turns l (stretch k) (refused 17) l
  stretch_long h = let p = lt-ltb 32 k h in turns_by l (stretch k) (refused 17) l (rw p) refl

  pub stretch_cut : (x : Booking) → k ≤ 32 → Among x l.bookings → k ≤ x.round → Turns l (stretch k) (refused 18) l
  stretch_cut x h a i =
      let p = le-ltb 32 k h in let q = any_to (λ y. leb k y.round) l.bookings x a (le-leb k x.round i) in
      turns_by l (stretch k) (refused 18) l (rw (p, q)) refl

  pub stretch_done : (n : Ledger) → k ≤ 32 → ((x : Booking) → Among x l.bookings → k ≤ x.round → ⊥) → n.rounds ≡ k → n.bookings ≡ l.bookings → Turns l (stretch k) done n
  stretch_done n h fine e f =
      let p = le-ltb 32 k h in
      let q = no_to (any (λ y. leb k y.round) l.bookings) (any_from (λ y. leb k y.round) l.bookings) (λ r. fine r.0 r.1 (leb-true k r.0.round r.2)) in
      turns_by l (stretch k) done n (rw (p, q)) (λ i. record { rounds = e i; bookings = f i })

module _ (l : Ledger) (b : Task) (places : ℕ) where
  pub find_foreign : (x : Booking) → Among x l.bookings → length b.actions ≤ x.action → Turns l (find b places) (refused 19) l
  find_foreign x a h =
      let p = any_to (λ y. leb (length b.actions) y.action) l.bookings x a (le-leb _ _ h) in
      turns_by l (find b places) (refused 19) l (rw p) refl

  known : ((x : Booking) → Among x l.bookings → Has b x.action) → any (λ y. leb (length b.actions) y.action) l.bookings ≡ false
  known has =
      no_to _ (any_from (λ y. leb (length b.actions) y.action) l.bookings)
      (λ r. let le = leb-true (length b.actions) r.0.action r.2 in let lt = has r.0 r.1 in omega arith)

  pub find_short : ((x : Booking) → Among x l.bookings → Has b x.action) → places < l.rounds → Turns l (find b places) (refused 20) l
  find_short has h =
      let p = known has in let q = lt-ltb places l.rounds h in
      turns_by l (find b places) (refused 20) l (rw (p, q)) refl

  pub find_done : ((x : Booking) → Among x l.bookings → Has b x.action) → l.rounds ≤ places → Turns l (find b places) done l
  find_done has h =
      let p = known has in let q = le-ltb places l.rounds h in
      turns_by l (find b places) done l (rw (p, q)) refl
