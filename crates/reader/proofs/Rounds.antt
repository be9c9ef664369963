-- The bytes of a field are read as its value; and where a value is read, its bytes stand.
use Rattle.std.proofs.Common.{◌≡◌, ℕ, ◌+◌, ◌^◌, ◌<◌, ◌≤◌, Bool, true, false, not, ◌&&◌, eqb, ltb, leb, List, [], ◌∷◌, length, get_or, Ok, sym, refl, ap, ◌∙◌, subst, ⊎_elim, add-zero, arith, pow_mono}
use Rattle.std.proofs.lemmas.List.{drop_more}
use Rattle.std.proofs.lemmas.Bool.{ltb-true, ltb-false, lt-ltb, le-leb, eq-eqb, ne_eqb, cases_eq}
use Rattle.faults.specs.declared.FieldFault.TheVariants.{CutShort, OutOfLimits, UnknownBit, EmptySet, UnknownFact}
use Rattle.reader.specs.Formats.{word, read_byte, read_count, read_map, read_set, read_optional}
use Rattle.reader.specs.Written.{set_bytes, field_bytes}
use Rattle.reader.proofs.Widths.{set_known}
use Rattle.reader.proofs.Ranges.{follow_ok, same_ok, cond_ok, cond_err, Known, set_range}
use Rattle.reader.proofs.Spans.{Spans, spans_none, spans_at, spans_within, word_spans, spans_word}

module _ (bs : List ℕ) where
  byte_read : (p q n : ℕ) → Spans bs p (n ∷ []) q → read_byte bs p ≡ Ok (n, q)
  byte_read p q n s =
      let at : get_or bs p 0 ≡ n = ap (λ (i : ℕ). get_or bs i 0) (sym (add-zero p)) ∙ spans_at bs p q (n ∷ []) s 0 (omega arith) in
      let within = spans_within bs p q (n ∷ []) s (omega arith) in
      let stop : p + 1 ≡ q = s.stop in
      rw (lt-ltb p (length bs) (omega arith), at, stop)

  byte_spans : (p q n : ℕ) → read_byte bs p ≡ Ok (n, q) → Spans bs p (n ∷ []) q
  byte_spans p q n e =
      let c = cond_ok (ltb p (length bs)) (get_or bs p 0, p + 1) (n, q) (CutShort p) e in
      let at : get_or bs p 0 ≡ n = ap (λ (x : ℕ × ℕ). x.0) c.1 in
      let stop : p + 1 ≡ q = ap (λ (x : ℕ × ℕ). x.1) c.1 in
      record { bytes = drop_more bs p 0 (ltb-true p (length bs) c.0) ∙ rw (at, stop); stop = stop }

  pub count_read : (low high p q n : ℕ) → low ≤ n → n ≤ high → Spans bs p (n ∷ []) q → read_count low high bs p ≡ Ok (n, q)
  count_read low high p q n l h s = rw (byte_read p q n s, le-leb low n l, le-leb n high h)

  pub count_spans : (low high p q n : ℕ) → read_count low high bs p ≡ Ok (n, q) → Spans bs p (n ∷ []) q
  count_spans low high p q n e =
      let f = follow_ok (λ e. e) (read_byte bs p) _ (n, q) e in
      let c = cond_ok (leb low f.0 && leb f.0 high) (f.0, f.1) (n, q) (OutOfLimits p) f.3 in
      byte_spans p q n (f.2 ∙ ap (λ (x : ℕ × ℕ). Ok x) c.1)

  pub map_read : (limit p q m : ℕ) → m < limit → Spans bs p (m ∷ []) q → read_map limit bs p ≡ Ok (m, q)
  map_read limit p q m h s = rw (byte_read p q m s, lt-ltb m limit h)

  pub map_spans : (limit p q m : ℕ) → read_map limit bs p ≡ Ok (m, q) → Spans bs p (m ∷ []) q × (m < limit)
  map_spans limit p q m e =
      let f = follow_ok (λ e. e) (read_byte bs p) _ (m, q) e in
      let c = cond_ok (ltb f.0 limit) (f.0, f.1) (m, q) (UnknownBit p) f.3 in
      let same : f.0 ≡ m = ap (λ (x : ℕ × ℕ). x.0) c.1 in
      (byte_spans p q m (f.2 ∙ ap (λ (x : ℕ × ℕ). Ok x) c.1), omega (arith, ltb-true f.0 limit c.0))

  module _ (facts : ℕ) (few : facts ≤ 64) where
    pub set_read : (p q s : ℕ) → Known facts s → Spans bs p (set_bytes s) q → read_set facts bs p ≡ Ok (s, q)
    unfolding set_bytes
    set_read p q s known w =
        let low : s < 2 ^ 64 = omega (arith, pow_mono few, known.1) in
        let within = spans_within bs p q (set_bytes s) w (omega arith) in
        let stop : p + 8 ≡ q = w.stop in
        sym (set_known facts bs p s (omega arith) (spans_word bs p q s low w) (λ z. omega (arith, known.0)) known.1)
        ∙ ap (λ (n : ℕ). Ok (s, n)) stop

    -- a set's bit stands where it is not empty
    pub optional_read : (p q s : ℕ) → s < 2 ^ facts → Spans bs p (field_bytes s) q → read_optional (not (eqb s 0)) facts bs p ≡ Ok (s, q)
    optional_read p q s low w = ⊎_elim none some (cases_eq s 0)
      where
        none : s ≡ 0 → read_optional (not (eqb s 0)) facts bs p ≡ Ok (s, q)
        none z = let stop : p ≡ q = omega (arith, (rw (eq-eqb s 0 z) at w).stop) in rw (eq-eqb s 0 z, z, stop)

        some : (s ≡ 0 → ⊥) → read_optional (not (eqb s 0)) facts bs p ≡ Ok (s, q)
        some n = rw (ne_eqb s 0 n) (set_read p q s (omega arith, low) (rw (ne_eqb s 0 n) at w))

  module _ (low : (i : ℕ) → get_or bs i 0 < 256) where
    pub set_spans : (facts p q s : ℕ) → read_set facts bs p ≡ Ok (s, q) → Spans bs p (set_bytes s) q
    set_spans facts p q s e =
        let long = cond_err (ltb (length bs) (p + 8)) _ (s, q) (CutShort p) e in
        let some = cond_err (eqb (word bs p) 0) _ (s, q) (EmptySet p) long.1 in
        let known = cond_ok (ltb (word bs p) (2 ^ facts)) (word bs p, p + 8) (s, q) (UnknownFact p) some.1 in
        let Taken : ℕ × ℕ → Type 0 = λ x. Spans bs p (set_bytes x.0) x.1 in
        subst Taken known.1 (word_spans bs p (ltb-false (length bs) (p + 8) long.0) low)

    pub optional_spans : (stands : Bool) (facts p q s : ℕ) → read_optional stands facts bs p ≡ Ok (s, q) → Spans bs p (field_bytes s) q × (eqb s 0 ≡ not stands)
    optional_spans true facts p q s e =
        let known = set_range facts bs p s q e in
        let some = ne_eqb s 0 (λ z. omega (arith, known.0)) in
        (rw some (set_spans facts p q s e), some)
    optional_spans false facts p q s e =
        let same : ◌≡◌ {A = ℕ × ℕ} (0, p) (s, q) = same_ok _ _ e in
        let Taken : ℕ × ℕ → Type 0 = λ x. Spans bs p (field_bytes x.0) x.1 × (eqb x.0 0 ≡ true) in
        subst Taken same (spans_none bs p, refl)
