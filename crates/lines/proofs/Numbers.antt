-- Decimal numbers as the reader meets them.
use Rattle.std.proofs.Common.{◌≡◌, ℕ, zero, suc, ◌+◌, ◌-◌, ◌*◌, ◌^◌, ◌<◌, ◌≤◌, false, eqb, List, [], ◌∷◌, ◌++◌, length, get_or, take, drop, decimal, sym, refl, ap, ◌∙◌, ⊎_elim, append-nil, pow-suc, add-one, arith, rules}
use Rattle.std.proofs.lemmas.Bool.{cases_lt, false≢true}
use Rattle.std.proofs.lemmas.List.{at_drop_more, at_drop_all, get_or_append_left, get_or_at, take_at, drop_at, take-append-drop, length-append, take_rest}
use Rattle.std.specs.Int.{IsInRange}
use Rattle.std.proofs.lemmas.Str.Parse.{IsNumeralModel, numerals_by_fold, tells_by_index, digits_value_short}
use Rattle.std.proofs.lemmas.Fmt.{decimal_digit, digits_decimal, decimal-digits_value, decimal_nonempty, length-decimal-le, first_decimal}
use Rattle.lines.specs.Commands.{Decimal, Spaced, spaced}

pub some : (s : List ℕ) → false ≡ eqb (length s) 0 → 0 < length s
some [] e = absurd (false≢true e)
some (b ∷ s) e = omega arith

-- what follows the first byte
abbrev pub rest : List ℕ → List ℕ
rest s = take (length s - 1) (drop 1 s)

abbrev pub read_on : ℕ → List ℕ → ℕ
read_on n [] = n
read_on n (c ∷ cs) = read_on (n * 10 + (c - 48)) cs

abbrev pub AllDigits : List ℕ → Type 0
AllDigits ds = (i : ℕ) → i < length ds → IsInRange 48 57 (get_or ds i 0)

own : IsNumeralModel AllDigits (read_on 0)
own = numerals_by_fold AllDigits tells_by_index read_on (search rules)

fits : (n : ℕ) → n < 100000 → n < 2 ^ 64
fits n h = omega arith

pub decimal_long : (s : List ℕ) (n : ℕ) → Decimal s n → (0 < length s) × (length s ≤ 5)
decimal_long s n (h, e) =
    (rw e (decimal_nonempty n (fits n h)), rw e (length-decimal-le 5 n (omega arith) h (fits n h)))

pub decimal_front : (s : List ℕ) (n : ℕ) → Decimal s n → get_or s 0 0 ≡ 48 → length s ≡ 1
decimal_front s n (h, e) z =
    ⊎_elim
    (λ k. absurd (omega (arith, first_decimal n k (fits n h), sym (ap (λ l. get_or l 0 0) e) ∙ z)))
    (λ k. let zero_n : n ≡ 0 = omega arith in ap length (e ∙ ap decimal zero_n ∙ decimal_digit 0 (omega arith)))
    (cases_lt 0 n)

pub decimal_digits : (s : List ℕ) (n : ℕ) → Decimal s n → AllDigits s
decimal_digits s n (h, e) = rw e (digits_decimal own n (fits n h))

pub read_all : (n i : ℕ) (s : List ℕ) → length s ≤ i → i ≤ length s → 0 < length s → length s ≤ 5 → (get_or s 0 0 ≡ 48 → length s ≡ 1)
    → read_on n (drop i s) ≡ read_on 0 s → ((k : ℕ) → k < i → IsInRange 48 57 (get_or s k 0)) → Decimal s n
read_all n i s le ge some few lead h ds =
    let e : n ≡ read_on 0 s = sym (at_drop_all (read_on n) s i le) ∙ h in
    let all : AllDigits s = λ k l. ds k (omega arith) in
    let low : read_on 0 s < 10 ^ 5 = digits_value_short own s 5 all few in
    (omega arith, sym (ap decimal e ∙ decimal-digits_value own s all some lead (omega arith)))

one : (a : ℕ) → spaced (a ∷ []) ≡ 32 ∷ decimal a
one a = ap (λ (l : List ℕ). 32 ∷ l) (append-nil (decimal a))

joint : (a b : ℕ) → spaced (a ∷ b ∷ []) ≡ spaced (a ∷ []) ++ spaced (b ∷ [])
joint a b = ap (λ (l : List ℕ). 32 ∷ (l ++ spaced (b ∷ []))) (sym (append-nil (decimal a)))

digit_past : (ds : List ℕ) (c k : ℕ) → AllDigits ds → 0 < k → k < length (c ∷ ds) → IsInRange 48 57 (get_or (c ∷ ds) k 0)
digit_past ds c zero all p l = absurd (omega arith)
digit_past ds c (suc k) all p l = all k (omega arith)

-- where the second of two numbers begins
module _ (s : List ℕ) (i : ℕ) (within : i ≤ length s) (past : 0 < length s → 0 < i) (before : (k : ℕ) → 0 < k → k < i → get_or s k 0 ≡ 32 → ⊥) (found : i < length s → get_or s i 0 ≡ 32) where
  cut_place : (a b : ℕ) → a < 100000 → s ≡ spaced (a ∷ []) ++ spaced (b ∷ []) → i ≡ length (spaced (a ∷ []))
  cut_place a b h e =
      let p = spaced (a ∷ []) in
      let q = spaced (b ∷ []) in
      let m : length p ≡ length (decimal a) + 1 = ap length (one a) ∙ omega arith in
      let long : length s ≡ length p + length q = ap length e ∙ length-append p q in
      let at : get_or s (length p) 0 ≡ 32 = ap (λ l. get_or l (length p) 0) e ∙ get_or_at p 32 (decimal b ++ []) 0 (length p) refl in
      ⊎_elim
      (λ lt. let in' : get_or s i 0 ≡ get_or (32 ∷ decimal a) i 0 = ap (λ l. get_or l i 0) e ∙ get_or_append_left p q 0 i lt ∙ ap (λ l. get_or l i 0) (one a) in
      absurd (omega (arith, found (omega arith), digit_past (decimal a) 32 i (digits_decimal own a (fits a h)) (past (omega arith)) (omega arith))))
      (λ ge. ⊎_elim (λ gt. absurd (before (length p) (omega arith) gt at)) (λ le. omega arith) (cases_lt (length p) i))
      (cases_lt i (length p))

  pub cut : (a b : ℕ) → Spaced s (a ∷ b ∷ []) → Spaced (take i s) (a ∷ []) × Spaced (take (length s - i) (drop i s)) (b ∷ [])
  cut a b ((h, (k, u)), e) =
      let f = e ∙ joint a b in
      let p = cut_place a b h f in (
        ((h, tt), ap (take i) f ∙ take_at (spaced (a ∷ [])) (spaced (b ∷ [])) i (sym p)),
        ((k, tt), take_rest s i ∙ ap (drop i) f ∙ drop_at (spaced (a ∷ [])) (spaced (b ∷ [])) i (sym p)),
      )
