-- The loop that reads rows one after the other reads what the format says of them all.
use Rattle.std.proofs.Common.{◌≡◌, ℕ, suc, ◌+◌, ◌-◌, ◌<◌, List, [], ◌∷◌, ◌++◌, Ok, Err, Result, sym, refl, ap, ◌∙◌, arith}
use Rattle.std.proofs.lemmas.List.{append_assoc}
use Rattle.faults.specs.declared.FieldFault.{FieldFault}
use Rattle.reader.specs.Formats.{Read, then, with_place, read_many}

-- rows that were read before the others
abbrev pub onto : {A E : Type 0} → List A → Read (List A) E → Read (List A) E
onto front r = then r λ xs q. Ok (front ++ xs, q)

module _ {A : Type 0} (one : List ℕ → ℕ → Read A FieldFault) (front : List A) (m i : ℕ) (bs : List ℕ) (p : ℕ) (below : i < m) where
  one_less : m - i ≡ suc (m - (i + 1))
  one_less = omega (arith, below)

  -- a turn that read a row
  pub turn_ok : (x : A) (q : ℕ) → one bs p ≡ Ok (x, q) → onto (front ++ (x ∷ [])) (read_many one (m - (i + 1)) (i + 1) bs q) ≡ onto front (read_many one (m - i) i bs p)
  turn_ok x q is = rw (one_less, is) (behind (read_many one (m - (i + 1)) (i + 1) bs q))
    where
      behind : (r : Read (List A) (ℕ × FieldFault)) → onto (front ++ (x ∷ [])) r ≡ onto front (then r λ rest e. Ok (x ∷ rest, e))
      behind (Ok (xs, e)) = ap (λ (l : List A). Ok (l, e)) (append_assoc front (x ∷ []) xs)
      behind (Err e) = refl

  -- a turn that was refused
  pub turn_stop : (r : Result A FieldFault) (q : ℕ) (d : ℕ × FieldFault) → with_place r q ≡ one bs p → (e : FieldFault) × (r ≡ Err e) × (d ≡ (i, e))
      → ◌≡◌ {A = Read (List A) (ℕ × FieldFault)} (Err d) (onto front (read_many one (m - i) i bs p))
  turn_stop r q d is (e, refused, place) =
      let stops : one bs p ≡ Err e = sym is ∙ ap (λ r. with_place r q) refused in
      rw (one_less, stops, place) refl
