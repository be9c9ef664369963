-- What every card keeps: its ledger is sound at the beginning and after each call.
use Rattle.std.proofs.Common.{◌≡◌, ℕ, zero, suc, ◌<◌, ◌≤◌, ◌⊎◌, List, [], ◌∷◌, ◌++◌, length, get_or, sym, refl, ◌∙◌, subst, inl, inr, ⊎_elim, arith}
use Rattle.std.proofs.lemmas.Bool.{cases_lt}
use Rattle.std.proofs.lemmas.List.{length_push, get_or_push, get_or_append_left}
use Rattle.model.specs.declared.Booking.{Booking}
use Rattle.model.specs.Ledgers.{Ledger, opening, Call, book, release, stretch, find, slot, Among, no_such_action, too_late, stands_already, full, too_long, cut_off, Verdict, done, refused, Turns}
use Rattle.model.specs.Bookings.{Proper, Once, Sound}

-- ---- one more booking

module _ (xs : List Booking) (y : Booking) where
  among_push : (x : Booking) → Among x (xs ++ (y ∷ [])) → Among x xs ⊎ (y ≡ x)
  among_push x (i, (lt, e)) =
      ⊎_elim (λ b. inl (i, (b, sym (get_or_append_left xs (y ∷ []) (slot 0 0) i b) ∙ e)))
      (λ b. inr (sym (get_or_push xs y (slot 0 0) i (omega (arith, length_push xs y))) ∙ e)) (cases_lt i (length xs))

  pub proper_push : (k : ℕ) → Proper k xs → y.action ≤ 63 → y.round < k → Proper k (xs ++ (y ∷ []))
  proper_push k h p q x a =
      ⊎_elim (λ b. h x b) (λ e. subst (λ (z : Booking). (z.action ≤ 63) × (z.round < k)) e (p, q)) (among_push x a)

  pub once_push : Once xs → (Among y xs → ⊥) → Once (xs ++ (y ∷ []))
  once_push h free i j lt within e =
      let old = get_or_append_left xs (y ∷ []) (slot 0 0) i (omega (arith, length_push xs y)) in
      ⊎_elim (λ b. h i j lt b (sym old ∙ e ∙ get_or_append_left xs (y ∷ []) (slot 0 0) j b))
      (λ b. free (i, (omega (arith, length_push xs y), sym old ∙ e ∙ get_or_push xs y (slot 0 0) j (omega (arith, length_push xs y)))))
      (cases_lt j (length xs))

-- ---- one booking less

-- where a booking that is left stood before
abbrev stood : List Booking → ℕ → ℕ
stood [] k = suc k
stood (z ∷ zs) zero = zero
stood (z ∷ zs) (suc k) = suc (stood zs k)

module _ (y : Booking) (behind : List Booking) where
  stood_is : (before : List Booking) (k : ℕ) → get_or (before ++ behind) k (slot 0 0) ≡ get_or (before ++ (y ∷ behind)) (stood before k) (slot 0 0)
  stood_is [] k = refl
  stood_is (z ∷ zs) zero = refl
  stood_is (z ∷ zs) (suc k) = stood_is zs k

  stood_within : (before : List Booking) (k : ℕ) → k < length (before ++ behind) → stood before k < length (before ++ (y ∷ behind))
  stood_within [] k lt = omega arith
  stood_within (z ∷ zs) zero lt = omega arith
  stood_within (z ∷ zs) (suc k) lt = omega (arith, stood_within zs k (omega arith))

  stood_rises : (before : List Booking) (k j : ℕ) → k < j → stood before k < stood before j
  stood_rises [] k j lt = omega arith
  stood_rises (z ∷ zs) k zero lt = absurd (omega arith)
  stood_rises (z ∷ zs) zero (suc j) lt = omega arith
  stood_rises (z ∷ zs) (suc k) (suc j) lt = omega (arith, stood_rises zs k j (omega arith))

  fewer : (before : List Booking) → length (before ++ behind) ≤ length (before ++ (y ∷ behind))
  fewer [] = omega arith
  fewer (z ∷ zs) = omega (arith, fewer zs)

  pub proper_less : (before : List Booking) (n : ℕ) → Proper n (before ++ (y ∷ behind)) → Proper n (before ++ behind)
  proper_less before n h x (k, (lt, e)) = h x (stood before k, (stood_within before k lt, sym (stood_is before k) ∙ e))

  pub once_less : (before : List Booking) → Once (before ++ (y ∷ behind)) → Once (before ++ behind)
  once_less before h i j lt within e =
      h (stood before i) (stood before j) (stood_rises before i j lt) (stood_within before j within) (sym (stood_is before i) ∙ e ∙ stood_is before j)

-- ---- a card

pub opening_sound : Sound opening
opening_sound = record {
  short = omega arith;
  few = omega arith;
  proper = λ x (i, (lt, e)). absurd (omega arith);
  once = λ i j lt within e. omega arith;
}

-- the same rounds and bookings
alike : (l k : Ledger) → k.rounds ≡ l.rounds → k.bookings ≡ l.bookings → Sound l → Sound k
alike l k e f s = subst Sound (λ i. record { rounds = sym e i; bookings = sym f i }) s

pub turn_sound : (l k : Ledger) (c : Call) (v : Verdict) → Sound l → Turns l c v k → Sound k
turn_sound l k c (refused n) s (why, same) = subst Sound (sym same) s
turn_sound l k (book a t) done s (may, (e, f)) =
    let low : a ≤ 63 = ⊎_elim (λ h. absurd (may 12 (no_such_action refl h))) (λ h. h) (cases_lt 63 a) in
    let early : t < l.rounds = ⊎_elim (λ h. h) (λ h. absurd (may 13 (too_late refl h))) (cases_lt t l.rounds) in
    let room : length l.bookings < 16 = ⊎_elim (λ h. h) (λ h. absurd (may 15 (full refl h))) (cases_lt (length l.bookings) 16) in
    alike (record { rounds = l.rounds; bookings = l.bookings ++ (slot a t ∷ []) }) k e f
    (record {
      short = s.short;
      few = omega (arith, length_push l.bookings (slot a t));
      proper = proper_push l.bookings (slot a t) l.rounds s.proper low early;
      once = once_push l.bookings (slot a t) s.once (λ h. may 14 (stands_already refl h));
    })
turn_sound l k (release a t) done s (may, (e, (before, behind, is, left, none))) =
    let few : length (before ++ (slot a t ∷ behind)) ≤ 16 = subst (λ (xs : List Booking). length xs ≤ 16) is s.few in
    alike (record { rounds = l.rounds; bookings = before ++ behind }) k e left
    (record {
      short = s.short;
      few = omega (arith, fewer (slot a t) behind before);
      proper = proper_less (slot a t) behind before l.rounds (subst (Proper l.rounds) is s.proper);
      once = once_less (slot a t) behind before (subst Once is s.once);
    })
turn_sound l k (stretch n) done s (may, (e, f)) =
    alike (record { rounds = n; bookings = l.bookings }) k e f
    (record {
      short = ⊎_elim (λ h. absurd (may 17 (too_long refl h))) (λ h. h) (cases_lt 32 n);
      few = s.few;
      proper = λ x a. ((s.proper x a).0, ⊎_elim (λ h. h) (λ h. absurd (may 18 (cut_off x refl a h))) (cases_lt x.round n));
      once = s.once;
    })
turn_sound l k (find b places) done s (may, same) = subst Sound (sym same) s
