-- What a read that succeeds says of its value.
use Rattle.std.proofs.Common.{◌≡◌, ℕ, zero, suc, ◌+◌, ◌/◌, ◌%◌, ◌^◌, ◌<◌, ◌≤◌, Bool, true, false, cond, ◌&&◌, eqb, ltb, leb, List, [], ◌∷◌, length, Ok, Err, Result, refl, ap, subst, ⊎_elim, arith, pow_pos}
use Rattle.std.specs.List.{All}
use Rattle.std.proofs.lemmas.Bool.{cases_lt, leb-true, ltb-true, eqb-false, and_parts}
use Rattle.model.specs.declared.Action.{Action}
use Rattle.faults.specs.declared.FieldFault.{FieldFault}
use Rattle.faults.specs.declared.FieldFault.TheVariants.{CutShort, OutOfLimits, EmptySet, UnknownFact}
use Rattle.reader.specs.declared.records.Counts.{Counts}
use Rattle.reader.specs.declared.records.Ends.{Ends}
use Rattle.reader.specs.Formats.{Read, follow, word, read_byte, read_count, read_map, read_set, read_optional, read_counts, read_ends, read_action, read_many}

-- ---- reads taken apart

abbrev value_or : {A E : Type 0} → A → Read A E → A
value_or d (Ok (x, p)) = x
value_or d (Err e) = d

pub same_value : {A E : Type 0} (x y : A) (p q : ℕ) → ◌≡◌ {A = Read A E} (Ok (x, p)) (Ok (y, q)) → x ≡ y
same_value x y p q e = ap (value_or x) e

pub follow_ok : {A B E F : Type 0} (wrap : E → F) (r : Read A E) (rest : A → ℕ → Read B F) (z : B × ℕ) → follow wrap r rest ≡ Ok z
    → (x : A) × (p : ℕ) × (r ≡ Ok (x, p)) × (rest x p ≡ Ok z)
follow_ok wrap (Ok (x, p)) rest z e = (x, p, refl, e)
follow_ok wrap (Err d) rest z e = let no_way : ◌≡◌ {A = ℕ} 0 1 = cc in absurd (omega arith)

-- the same for a goal, with the value and its place as names
pub follow_by : {A B E F P : Type 0} (wrap : E → F) (r : Read A E) (rest : A → ℕ → Read B F) (z : B × ℕ) → follow wrap r rest ≡ Ok z
    → ((x : A) (p : ℕ) → r ≡ Ok (x, p) → rest x p ≡ Ok z → P) → P
follow_by wrap r rest z e go = let f = follow_ok wrap r rest z e in go f.0 f.1 f.2 f.3

pub same_ok : {A E : Type 0} (x y : A) → ◌≡◌ {A = Result A E} (Ok x) (Ok y) → x ≡ y
same_ok x y e = cc

pub cond_ok : {A E : Type 0} (b : Bool) (y z : A) (d : E) → cond b (Ok y) (Err d) ≡ Ok z → (b ≡ true) × (y ≡ z)
cond_ok true y z d e = (refl, cc)
cond_ok false y z d e = let no_way : ◌≡◌ {A = ℕ} 0 1 = cc in absurd (omega arith)

pub cond_err : {A E : Type 0} (b : Bool) (x : Result A E) (z : A) (d : E) → cond b (Err d) x ≡ Ok z → (b ≡ false) × (x ≡ Ok z)
cond_err true x z d e = let no_way : ◌≡◌ {A = ℕ} 0 1 = cc in absurd (omega arith)
cond_err false x z d e = (refl, e)

-- ---- fields

pub count_range : (low high : ℕ) (bs : List ℕ) (p n q : ℕ) → read_count low high bs p ≡ Ok (n, q) → (low ≤ n) × (n ≤ high)
count_range low high bs p n q e =
    let f = follow_ok (λ e. e) (read_byte bs p) _ (n, q) e in
    let c = cond_ok (leb low f.0 && leb f.0 high) (f.0, f.1) (n, q) (OutOfLimits p) f.3 in
    let t = and_parts (leb low f.0) (leb f.0 high) c.0 in
    let same : f.0 ≡ n = ap (λ (x : ℕ × ℕ). x.0) c.1 in
    (omega (arith, leb-true low f.0 t.0, same), omega (arith, leb-true f.0 high t.1, same))

-- not empty, and below the number of facts
abbrev pub Known : ℕ → ℕ → Type 0
Known facts s = (0 < s) × (s < 2 ^ facts)

positive : (n : ℕ) → (n ≡ 0 → ⊥) → 0 < n
positive n ne = ⊎_elim (λ h. h) (λ h. absurd (ne (omega arith))) (cases_lt 0 n)

pub set_range : (facts : ℕ) (bs : List ℕ) (p s q : ℕ) → read_set facts bs p ≡ Ok (s, q) → Known facts s
set_range facts bs p s q e =
    let long = cond_err (ltb (length bs) (p + 8)) _ (s, q) (CutShort p) e in
    let some = cond_err (eqb (word bs p) 0) _ (s, q) (EmptySet p) long.1 in
    let low = cond_ok (ltb (word bs p) (2 ^ facts)) (word bs p, p + 8) (s, q) (UnknownFact p) some.1 in
    let same : word bs p ≡ s = ap (λ (x : ℕ × ℕ). x.0) low.1 in
    let known : Known facts (word bs p) = (positive (word bs p) (eqb-false (word bs p) 0 some.0), ltb-true (word bs p) (2 ^ facts) low.0) in
    subst (Known facts) same known

pub optional_range : (stands : Bool) (facts : ℕ) (bs : List ℕ) (p s q : ℕ) → read_optional stands facts bs p ≡ Ok (s, q) → s < 2 ^ facts
optional_range true facts bs p s q e = (set_range facts bs p s q e).1
optional_range false facts bs p s q e = let same = same_value 0 s p q e in omega (arith, pow_pos facts)

-- ---- records

pub record Limited (n : Counts) : Type 0 where
  pub facts : (1 ≤ n.facts) × (n.facts ≤ 64)
  pub actions : n.actions ≤ 64
  pub groups : n.groups ≤ 16
  pub bars : n.bars ≤ 8

pub counts_range : (bs : List ℕ) (p : ℕ) (n : Counts) (q : ℕ) → read_counts bs p ≡ Ok (n, q) → Limited n
counts_range bs p n q e =
    let f = follow_ok (λ e. e) (read_count 1 64 bs p) _ (n, q) e in
    let a = follow_ok (λ e. e) (read_count 0 64 bs f.1) _ (n, q) f.3 in
    let g = follow_ok (λ e. e) (read_count 0 16 bs a.1) _ (n, q) a.3 in
    let h = follow_ok (λ e. e) (read_count 0 8 bs g.1) _ (n, q) g.3 in
    subst Limited (same_value _ n h.1 q h.3) (record {
      facts = count_range 1 64 bs p f.0 f.1 f.2;
      actions = (count_range 0 64 bs f.1 a.0 a.1 a.2).1;
      groups = (count_range 0 16 bs a.1 g.0 g.1 g.2).1;
      bars = (count_range 0 8 bs g.1 h.0 h.1 h.2).1;
    })

abbrev pub KnownEnds : ℕ → Ends → Type 0
KnownEnds facts x = (x.initial < 2 ^ facts) × (x.goal < 2 ^ facts)

pub ends_range : (facts : ℕ) (bs : List ℕ) (p : ℕ) (x : Ends) (q : ℕ) → read_ends facts bs p ≡ Ok (x, q) → KnownEnds facts x
ends_range facts bs p x q e =
    let m = follow_ok (λ e. e) (read_map 4 bs p) _ (x, q) e in
    let i = follow_ok (λ e. e) (read_optional (eqb (m.0 % 2) 1) facts bs m.1) _ (x, q) m.3 in
    let g = follow_ok (λ e. e) (read_optional (eqb (m.0 / 2) 1) facts bs i.1) _ (x, q) i.3 in
    subst (KnownEnds facts) (same_value _ x g.1 q g.3)
    (optional_range (eqb (m.0 % 2) 1) facts bs m.1 i.0 i.1 i.2, optional_range (eqb (m.0 / 2) 1) facts bs i.1 g.0 g.1 g.2)

abbrev pub KnownAction : ℕ → Action → Type 0
KnownAction facts a = (a.needs < 2 ^ facts) × (a.adds < 2 ^ facts) × (a.deletes < 2 ^ facts)

pub action_range : (facts : ℕ) (bs : List ℕ) (p : ℕ) (a : Action) (q : ℕ) → read_action facts bs p ≡ Ok (a, q) → KnownAction facts a
action_range facts bs p a q e =
    let m = follow_ok (λ e. e) (read_map 8 bs p) _ (a, q) e in
    let n = follow_ok (λ e. e) (read_optional (eqb (m.0 % 2) 1) facts bs m.1) _ (a, q) m.3 in
    let d = follow_ok (λ e. e) (read_optional (eqb (m.0 / 2 % 2) 1) facts bs n.1) _ (a, q) n.3 in
    let x = follow_ok (λ e. e) (read_optional (eqb (m.0 / 4) 1) facts bs d.1) _ (a, q) d.3 in
    subst (KnownAction facts) (same_value _ a x.1 q x.3)
    (optional_range (eqb (m.0 % 2) 1) facts bs m.1 n.0 n.1 n.2, optional_range (eqb (m.0 / 2 % 2) 1) facts bs n.1 d.0 d.1 d.2, optional_range (eqb (m.0 / 4) 1) facts bs d.1 x.0 x.1 x.2)

-- ---- tables

module _ {A : Type 0} (one : List ℕ → ℕ → Read A FieldFault) (P : A → Type 0)
    (each : (bs : List ℕ) (p : ℕ) (x : A) (q : ℕ) → one bs p ≡ Ok (x, q) → P x) where
  -- as many are read as are asked for, and P holds of each
  pub many_range : (n i : ℕ) (bs : List ℕ) (p : ℕ) (xs : List A) (q : ℕ) → read_many one n i bs p ≡ Ok (xs, q) → (length xs ≡ n) × All P xs
  many_range zero i bs p xs q e =
      let Read : List A → Type 0 = λ ys. (length ys ≡ 0) × All P ys in
      subst Read (same_value [] xs p q e) (refl, λ k d l. absurd (omega (arith, l)))
  many_range (suc n) i bs p xs q e =
      let f = follow_ok (λ e. (i, e)) (one bs p) _ (xs, q) e in
      let r = follow_ok (λ e. e) (read_many one n (i + 1) bs f.1) _ (xs, q) f.3 in
      let rest = many_range n (i + 1) bs f.1 r.0 r.1 r.2 in
      let Read : List A → Type 0 = λ ys. (length ys ≡ suc n) × All P ys in
      subst Read (same_value _ xs r.1 q r.3) (ap suc rest.0, cons f.0 r.0 (each bs p f.0 f.1 f.2) rest.1)
    where
      cons : (y : A) (ys : List A) → P y → All P ys → All P (y ∷ ys)
      cons y ys here rest zero d l = here
      cons y ys here rest (suc k) d l = rest k d (omega (arith, l))
