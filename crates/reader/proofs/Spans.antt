-- Bytes that stand at a place of a file.
use Rattle.std.proofs.Common.{◌≡◌, ℕ, ◌+◌, ◌^◌, ◌<◌, ◌≤◌, List, [], ◌++◌, length, get_or, take, drop, sym, refl, ap, ◌∙◌, ⊎_elim, arith}
use Rattle.std.specs.Int.{w64, to_le_bytes, from_le_bytes}
use Rattle.std.proofs.lemmas.Bool.{cases_lt}
use Rattle.reader.specs.Formats.{word}
use Rattle.reader.specs.Written.{set_bytes}
use Rattle.std.proofs.lemmas.List.{append_assoc, append-nil, length-append, length-drop, length-take-le, get_or-drop, get_or-take, get_or_past, get_or_append_left, take-append-drop, take_at, drop-drop, drop_at, drop_all}
use Rattle.std.proofs.lemmas.Nat.{le_bytes_8, from_le_bytes-to_le_bytes_8}

-- the bytes w stand from p on, and q is the place after them
pub record Spans (bs : List ℕ) (p : ℕ) (w : List ℕ) (q : ℕ) : Type 0 where
  pub bytes : drop p bs ≡ w ++ drop q bs
  pub stop : p + length w ≡ q

module _ (bs : List ℕ) where
  pub spans_none : (p : ℕ) → Spans bs p [] p
  spans_none p = record { bytes = refl; stop = omega arith }

  pub spans_append : (p m q : ℕ) (u v : List ℕ) → Spans bs p u m → Spans bs m v q → Spans bs p (u ++ v) q
  spans_append p m q u v s t = record {
    bytes = s.bytes ∙ ap (λ (l : List ℕ). u ++ l) t.bytes ∙ sym (append_assoc u v (drop q bs));
    stop = ap (λ (n : ℕ). p + n) (length-append u v) ∙ omega (arith, s.stop, t.stop);
  }

  pub spans_split : (p q : ℕ) (u v : List ℕ) → Spans bs p (u ++ v) q → Spans bs p u (p + length u) × Spans bs (p + length u) v q
  spans_split p q u v s = (record { bytes = s.bytes ∙ append_assoc u v (drop q bs) ∙ ap (λ (l : List ℕ). u ++ l) (sym rest); stop = refl }, record { bytes = rest; stop = omega (arith, s.stop, length-append u v) })
    where
      rest : drop (p + length u) bs ≡ v ++ drop q bs
      rest =
          sym (drop-drop (length u) p bs)
          ∙ ap (drop (length u)) (s.bytes ∙ append_assoc u v (drop q bs)) ∙ drop_at u (v ++ drop q bs) (length u) refl

  -- the whole file
  pub spans_all : Spans bs 0 bs (length bs)
  spans_all = record { bytes = sym (ap (λ (l : List ℕ). bs ++ l) (drop_all (length bs) bs (omega arith)) ∙ append-nil bs); stop = omega arith }

  pub spans_at : (p q : ℕ) (w : List ℕ) → Spans bs p w q → (k : ℕ) → k < length w → get_or bs (p + k) 0 ≡ get_or w k 0
  spans_at p q w s k h = sym (get_or-drop p bs k 0) ∙ ap (λ (l : List ℕ). get_or l k 0) s.bytes ∙ get_or_append_left w (drop q bs) 0 k h

  pub spans_within : (p q : ℕ) (w : List ℕ) → Spans bs p w q → 0 < length w → q ≤ length bs
  spans_within p q w s h = omega (arith, s.stop, length-drop p bs, ap length s.bytes, length-append w (drop q bs), length-drop q bs)

-- ---- the eight bytes of a number

module _ (bs : List ℕ) (p : ℕ) where
  pub word_spans : p + 8 ≤ length bs → ((i : ℕ) → get_or bs i 0 < 256) → Spans bs p (set_bytes (word bs p)) (p + 8)
  unfolding set_bytes
  word_spans whole low = record {
    bytes = sym (ap (λ (l : List ℕ). l ++ drop (p + 8) bs) back ∙ ap (λ (l : List ℕ). front ++ l) (sym (drop-drop 8 p bs)) ∙ take-append-drop 8 (drop p bs));
    stop = refl;
  }
    where
      front : List ℕ
      front = take 8 (drop p bs)

      long : length front ≡ 8
      long = length-take-le 8 (drop p bs) (omega (arith, whole, length-drop p bs))

      few : (i : ℕ) → get_or front i 0 < 256
      few i = ⊎_elim
          (λ h. rw (get_or-take 8 (drop p bs) i 0 h, get_or-drop p bs i 0) (low (p + i)))
          (λ h. rw (get_or_past front i 0 (omega (arith, h, long))) (omega arith))
          (cases_lt i 8)

      back : to_le_bytes w64 (word bs p) ≡ front
      back = le_bytes_8 front (word bs p) long few refl

  pub spans_word : (q s : ℕ) → s < 2 ^ 64 → Spans bs p (set_bytes s) q → s ≡ word bs p
  unfolding set_bytes
  spans_word q s h w =
      let front : take 8 (drop p bs) ≡ to_le_bytes w64 s = ap (take 8) w.bytes ∙ take_at (to_le_bytes w64 s) (drop q bs) 8 refl in
      sym (ap (from_le_bytes w64) front ∙ from_le_bytes-to_le_bytes_8 s h)
