-- The bytes of a record or of a table are read as that; and where one is read, its bytes stand.
use Rattle.std.proofs.Common.{◌≡◌, ℕ, zero, suc, ◌+◌, ◌*◌, ◌/◌, ◌%◌, ◌<◌, ◌≤◌, Bool, true, false, cond, not, eqb, List, [], ◌∷◌, length, get_or, Ok, sym, refl, ap, ◌∙◌, subst, one-mul, zero-mul, arith, lit<}
use Rattle.std.specs.List.{flat_map, All}
use Rattle.model.specs.declared.Action.{Action}
use Rattle.faults.specs.declared.FieldFault.{FieldFault}
use Rattle.reader.specs.declared.records.Counts.{Counts}
use Rattle.reader.specs.declared.records.Ends.{Ends}
use Rattle.reader.specs.Formats.{Read, read_count, read_map, read_optional, read_counts, read_ends, read_action, read_many}
use Rattle.reader.specs.Written.{field_bytes, bit, ends_bytes, action_bytes}
use Rattle.reader.proofs.Ranges.{follow_ok, follow_by, same_ok, Limited, KnownEnds, KnownAction}
use Rattle.reader.proofs.Spans.{Spans, spans_none, spans_append, spans_split}
use Rattle.reader.proofs.Rounds.{count_read, count_spans, map_read, map_spans, optional_read, optional_spans}

-- ---- maps

ends_flags : (x y : Bool) → let m : ℕ = cond x 0 1 + cond y 0 2 in (m < 4) × (eqb (m % 2) 1 ≡ not x) × (eqb (m / 2) 1 ≡ not y)
ends_flags true true = (lit< tt, refl, refl)
ends_flags true false = (lit< tt, refl, refl)
ends_flags false true = (lit< tt, refl, refl)
ends_flags false false = (lit< tt, refl, refl)

action_flags : (x y z : Bool)
    → let m : ℕ = cond x 0 1 + cond y 0 2 + cond z 0 4 in (m < 8) × (eqb (m % 2) 1 ≡ not x) × (eqb (m / 2 % 2) 1 ≡ not y) × (eqb (m / 4) 1 ≡ not z)
action_flags true true true = (lit< tt, refl, refl, refl)
action_flags true true false = (lit< tt, refl, refl, refl)
action_flags true false true = (lit< tt, refl, refl, refl)
action_flags true false false = (lit< tt, refl, refl, refl)
action_flags false true true = (lit< tt, refl, refl, refl)
action_flags false true false = (lit< tt, refl, refl, refl)
action_flags false false true = (lit< tt, refl, refl, refl)
action_flags false false false = (lit< tt, refl, refl, refl)

-- what a set adds to the map, from the bit that was read for it
bit_is : (value s b : ℕ) → b < 2 → eqb s 0 ≡ not (eqb b 1) → bit value s ≡ b * value
bit_is value s zero h e = ap (λ (t : Bool). cond t 0 value) e ∙ sym (zero-mul value)
bit_is value s (suc zero) h e = ap (λ (t : Bool). cond t 0 value) e ∙ sym (one-mul value)
bit_is value s (suc (suc b)) h e = absurd (omega arith)

module _ (bs : List ℕ) where
  pub counts_read : (p q : ℕ) (n : Counts) → Limited n → Spans bs p (n.facts ∷ n.actions ∷ n.groups ∷ n.bars ∷ []) q → read_counts bs p ≡ Ok (n, q)
  counts_read p q n few s =
      let f = spans_split bs p q (n.facts ∷ []) _ s in
      let a = spans_split bs (p + 1) q (n.actions ∷ []) _ f.1 in
      let g = spans_split bs (p + 1 + 1) q (n.groups ∷ []) (n.bars ∷ []) a.1 in
      rw (
        count_read bs 1 64 p (p + 1) n.facts few.facts.0 few.facts.1 f.0,
        count_read bs 0 64 (p + 1) (p + 1 + 1) n.actions (omega arith) few.actions a.0,
        count_read bs 0 16 (p + 1 + 1) (p + 1 + 1 + 1) n.groups (omega arith) few.groups g.0,
        count_read bs 0 8 (p + 1 + 1 + 1) q n.bars (omega arith) few.bars g.1,
      )

  pub counts_spans : (p q : ℕ) (n : Counts) → read_counts bs p ≡ Ok (n, q) → Spans bs p (n.facts ∷ n.actions ∷ n.groups ∷ n.bars ∷ []) q
  counts_spans p q n e =
      follow_by (λ e. e) (read_count 1 64 bs p) _ (n, q) e λ f p₁ f_read then_a.
      follow_by (λ e. e) (read_count 0 64 bs p₁) _ (n, q) then_a λ a p₂ a_read then_g.
      follow_by (λ e. e) (read_count 0 16 bs p₂) _ (n, q) then_g λ g p₃ g_read then_h.
      follow_by (λ e. e) (read_count 0 8 bs p₃) _ (n, q) then_h λ h p₄ h_read done.
      let Taken : Counts × ℕ → Type 0 = λ x. Spans bs p (x.0.facts ∷ x.0.actions ∷ x.0.groups ∷ x.0.bars ∷ []) x.1 in
      subst Taken (same_ok (record { facts = f; actions = a; groups = g; bars = h }, p₄) (n, q) done)
      (spans_append bs p p₁ p₄ (f ∷ []) (a ∷ g ∷ h ∷ []) (count_spans bs 1 64 p p₁ f f_read)
      (spans_append bs p₁ p₂ p₄ (a ∷ []) (g ∷ h ∷ []) (count_spans bs 0 64 p₁ p₂ a a_read)
      (spans_append bs p₂ p₃ p₄ (g ∷ []) (h ∷ []) (count_spans bs 0 16 p₂ p₃ g g_read) (count_spans bs 0 8 p₃ p₄ h h_read))))

  module _ (facts : ℕ) (few : facts ≤ 64) where
    pub ends_read : (p q : ℕ) (x : Ends) → KnownEnds facts x → Spans bs p (ends_bytes x.initial x.goal) q → read_ends facts bs p ≡ Ok (x, q)
    unfolding ends_bytes
    ends_read p q x known s =
        let flags = ends_flags (eqb x.initial 0) (eqb x.goal 0) in
        let m = spans_split bs p q ((bit 1 x.initial + bit 2 x.goal) ∷ []) _ s in
        let i = spans_split bs (p + 1) q (field_bytes x.initial) (field_bytes x.goal) m.1 in
        rw (
          map_read bs 4 p (p + 1) (bit 1 x.initial + bit 2 x.goal) flags.0 m.0,
          flags.1,
          optional_read bs facts few (p + 1) (p + 1 + length (field_bytes x.initial)) x.initial known.0 i.0,
          flags.2,
          optional_read bs facts few (p + 1 + length (field_bytes x.initial)) q x.goal known.1 i.1,
        )

    pub action_read : (p q : ℕ) (a : Action) → KnownAction facts a → Spans bs p (action_bytes a) q → read_action facts bs p ≡ Ok (a, q)
    unfolding action_bytes
    action_read p q a known s =
        let map = bit 1 a.needs + bit 2 a.adds + bit 4 a.deletes in
        let flags = action_flags (eqb a.needs 0) (eqb a.adds 0) (eqb a.deletes 0) in
        let m = spans_split bs p q (map ∷ []) _ s in
        let p₂ = p + 1 + length (field_bytes a.needs) in
        let n = spans_split bs (p + 1) q (field_bytes a.needs) _ m.1 in
        let p₃ = p₂ + length (field_bytes a.adds) in
        let d = spans_split bs p₂ q (field_bytes a.adds) (field_bytes a.deletes) n.1 in
        rw (
          map_read bs 8 p (p + 1) map flags.0 m.0,
          flags.1,
          optional_read bs facts few (p + 1) p₂ a.needs known.0 n.0,
          flags.2,
          optional_read bs facts few p₂ p₃ a.adds known.1 d.0,
          flags.3,
          optional_read bs facts few p₃ q a.deletes known.2 d.1,
        )

  module _ (low : (i : ℕ) → get_or bs i 0 < 256) where
    pub ends_spans : (facts p q : ℕ) (x : Ends) → read_ends facts bs p ≡ Ok (x, q) → Spans bs p (ends_bytes x.initial x.goal) q
    unfolding ends_bytes
    ends_spans facts p q x e =
        follow_by (λ e. e) (read_map 4 bs p) _ (x, q) e λ m p₁ m_read then_i.
        follow_by (λ e. e) (read_optional (eqb (m % 2) 1) facts bs p₁) _ (x, q) then_i λ initial p₂ i_read then_g.
        follow_by (λ e. e) (read_optional (eqb (m / 2) 1) facts bs p₂) _ (x, q) then_g λ goal p₃ g_read done.
        let map = map_spans bs 4 p p₁ m m_read in
        let limit = map.1 in
        let i = optional_spans bs low (eqb (m % 2) 1) facts p₁ p₂ initial i_read in
        let g = optional_spans bs low (eqb (m / 2) 1) facts p₂ p₃ goal g_read in
        let is : m ≡ bit 1 initial + bit 2 goal =
        omega (arith, bit_is 1 initial (m % 2) (omega arith) i.1, bit_is 2 goal (m / 2) (omega arith) g.1) in
        let Taken : Ends × ℕ → Type 0 = λ y. Spans bs p (ends_bytes y.0.initial y.0.goal) y.1 in
        subst Taken (same_ok (record { initial = initial; goal = goal }, p₃) (x, q) done)
        (spans_append bs p p₁ p₃ (_ ∷ []) _ (subst (λ (b : ℕ). Spans bs p (b ∷ []) p₁) is map.0)
        (spans_append bs p₁ p₂ p₃ (field_bytes initial) (field_bytes goal) i.0 g.0))

    pub action_spans : (facts p q : ℕ) (a : Action) → read_action facts bs p ≡ Ok (a, q) → Spans bs p (action_bytes a) q
    unfolding action_bytes
    action_spans facts p q a e =
        follow_by (λ e. e) (read_map 8 bs p) _ (a, q) e λ m p₁ m_read then_n.
        follow_by (λ e. e) (read_optional (eqb (m % 2) 1) facts bs p₁) _ (a, q) then_n λ needs p₂ n_read then_d.
        follow_by (λ e. e) (read_optional (eqb (m / 2 % 2) 1) facts bs p₂) _ (a, q) then_d λ adds p₃ d_read then_x.
        follow_by (λ e. e) (read_optional (eqb (m / 4) 1) facts bs p₃) _ (a, q) then_x λ deletes p₄ x_read done.
        let map = map_spans bs 8 p p₁ m m_read in
        let limit = map.1 in
        let n = optional_spans bs low (eqb (m % 2) 1) facts p₁ p₂ needs n_read in
        let d = optional_spans bs low (eqb (m / 2 % 2) 1) facts p₂ p₃ adds d_read in
        let x = optional_spans bs low (eqb (m / 4) 1) facts p₃ p₄ deletes x_read in
        let is : m ≡ bit 1 needs + bit 2 adds + bit 4 deletes =
        omega (arith, bit_is 1 needs (m % 2) (omega arith) n.1, bit_is 2 adds (m / 2 % 2) (omega arith) d.1, bit_is 4 deletes (m / 4) (omega arith) x.1) in
        let Taken : Action × ℕ → Type 0 = λ y. Spans bs p (action_bytes y.0) y.1 in
        subst Taken (same_ok (record { needs = needs; adds = adds; deletes = deletes }, p₄) (a, q) done)
        (spans_append bs p p₁ p₄ (_ ∷ []) _ (subst (λ (b : ℕ). Spans bs p (b ∷ []) p₁) is map.0)
        (spans_append bs p₁ p₂ p₄ (field_bytes needs) _ n.0
        (spans_append bs p₂ p₃ p₄ (field_bytes adds) (field_bytes deletes) d.0 x.0)))

-- ---- tables

module _ {A : Type 0} (one : List ℕ → ℕ → Read A FieldFault) (bytes : A → List ℕ) (bs : List ℕ) where
  pub many_read : (Good : A → Type 0) → ((p q : ℕ) (x : A) → Good x → Spans bs p (bytes x) q → one bs p ≡ Ok (x, q))
      → (xs : List A) (i p q : ℕ) → All Good xs → Spans bs p (flat_map bytes xs) q → read_many one (length xs) i bs p ≡ Ok (xs, q)
  many_read Good each [] i p q good s = let stop : p ≡ q = omega (arith, s.stop) in ap (λ (n : ℕ). Ok ([], n)) stop
  many_read Good each (x ∷ xs) i p q good s =
      let here = spans_split bs p q (bytes x) (flat_map bytes xs) s in
      rw (
        each p (p + length (bytes x)) x (good 0 x (omega arith)) here.0,
        many_read Good each xs (i + 1) (p + length (bytes x)) q (λ k d l. good (suc k) d (omega (arith, l))) here.1,
      )

  pub many_spans : ((p q : ℕ) (x : A) → one bs p ≡ Ok (x, q) → Spans bs p (bytes x) q)
      → (n i p q : ℕ) (xs : List A) → read_many one n i bs p ≡ Ok (xs, q) → Spans bs p (flat_map bytes xs) q
  many_spans each zero i p q xs e =
      let same : ◌≡◌ {A = List A × ℕ} ([], p) (xs, q) = same_ok _ _ e in
      subst (λ (x : List A × ℕ). Spans bs p (flat_map bytes x.0) x.1) same (spans_none bs p)
  many_spans each (suc n) i p q xs e =
      let f = follow_ok (λ e. (i, e)) (one bs p) _ (xs, q) e in
      let r = follow_ok (λ e. e) (read_many one n (i + 1) bs f.1) _ (xs, q) f.3 in
      let same : ◌≡◌ {A = List A × ℕ} (f.0 ∷ r.0, r.1) (xs, q) = same_ok _ _ r.3 in
      subst (λ (x : List A × ℕ). Spans bs p (flat_map bytes x.0) x.1) same
      (spans_append bs p f.1 r.1 (bytes f.0) (flat_map bytes r.0) (each p f.1 f.0 f.2) (many_spans each n (i + 1) f.1 r.1 r.0 r.2))
