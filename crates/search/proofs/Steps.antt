-- One step of the loop over the rounds of a standing, and what its walk says.
use Rattle.std.proofs.Common.{◌≡◌, ℕ, suc, ◌+◌, ◌^◌, ◌<◌, ◌≤◌, true, false, ◌⊎◌, List, [], ◌∷◌, ◌++◌, length, get_or, take, drop, set, Some, None, Option, sym, refl, ap, ◌∙◌, subst₂, append_assoc, arith, take-append-drop, length-take-le, take-suc}
use lib.Seq.{set_at}
use Rattle.model.specs.Plans.{next}
use Rattle.model.specs.Sieves.{Subject, Genuine, Standing, Rules, Law}
use Rattle.model.specs.Walks.{FirstFrom, NoneFrom, Walk, at, rounds, opened, exhausted, dropped, failed, found}
use Rattle.model.specs.Claims.{capped}
use Rattle.model.proofs.Judged.{Outcome, by_law, judged}
use Rattle.model.specs.declared.counts.Counts.{Counts}
use Rattle.search.specs.Visits.{written, Counted, Found, Lost}

one_before : (ys p : List ℕ) (t r : ℕ) → t < length ys → set (written ys (suc t) p) t r ≡ written ys t (r ∷ p)
one_before ys p t r lt =
    let rest = p ++ drop (suc t + length p) ys in
    let here : take (suc t) ys ++ rest ≡ take t ys ++ get_or ys t 0 ∷ rest = ap (λ (zs : List ℕ). zs ++ rest) (take-suc ys t 0 lt) ∙ append_assoc (take t ys) (get_or ys t 0 ∷ []) rest in
    ap (λ (zs : List ℕ). set zs t r) here
    ∙ set_at (take t ys) (get_or ys t 0) rest r t (length-take-le t ys (omega arith))
    ∙ ap (λ (n : ℕ). take t ys ++ r ∷ (p ++ drop n ys)) (omega arith)

pub wrote_nothing : (ys : List ℕ) (t : ℕ) → ys ≡ written ys t []
wrote_nothing ys t = sym (take-append-drop t ys) ∙ ap (λ (n : ℕ). take t ys ++ drop n ys) (omega arith)

pub opens_one : (c : Counts) {o : ℕ} → o ≡ capped (c.opened + 1) → c.dropped < 2 ^ 64 → Counted c 1 0 (record { opened = o; dropped = c.dropped })
opens_one c e h = record { opened = e; dropped = omega arith }

module _ {M : Type 0} {rules : Rules M} {whole kept : M → Type 0} (law : Law rules whole kept) (x : Subject) (ok : Genuine x) where
  abbrev pub Good : M → Type 0
  Good m = kept m × (rules.subject m ≡ Some x)

  pub shown : {state t o d : ℕ} {m n : M} {out : Option (List ℕ)} → Walk rules x (at state t) m out o d n → kept m → rules.subject m ≡ Some x → Standing x state t → Outcome x state t out × Good n
  shown w k e st = judged (by_law rules kept law x) ok w (k, e) st

-- the loop came from the meaning m and the counts c to n and k: whatever walk goes on from here is one from the first round on
pub record SoFar {M : Type 0} (rules : Rules M) (x : Subject) (state t from : ℕ) (m : M) (c : Counts) (n : M) (k : Counts) : Type 0 where
  pub o : ℕ
  pub d : ℕ
  pub goes_on : (out : Option (List ℕ)) (p e : ℕ) (q : M) → Walk rules x (rounds state t from) n out p e q → Walk rules x (rounds state t 0) m out (o + p) (d + e) q
  pub counted : Counted c o d k

module _ {M : Type 0} {rules : Rules M} {x : Subject} where
  counts_as : {p : _} {out : Option (List ℕ)} {m n : M} {a b c d : ℕ} → a ≡ b → c ≡ d → Walk rules x p m out a c n → Walk rules x p m out b d n
  counts_as {p} {out} {m} {n} e f w = subst₂ (λ (u v : ℕ). Walk rules x p m out u v n) e f w

  pub begins : (state t : ℕ) (m : M) (c : Counts) → c.opened < 2 ^ 64 → c.dropped < 2 ^ 64 → SoFar rules x state t 0 m c m c
  begins state t m c h g =
      record {
        o = 0;
        d = 0;
        goes_on = λ out p e q w. counts_as (omega arith) (omega arith) w;
        counted = record { opened = omega arith; dropped = omega arith };
      }

  module _ {state t from : ℕ} {m n : M} {c k : Counts} (far : SoFar rules x state t from m c n k) where
    pub drops_one : (r : ℕ) (l : Counts) → FirstFrom x state t from r → (rules.drops_start n state t r ≡ true) ⊎ (rules.drops_standing n (next x.task state r) (suc t) ≡ true) → Counted k 0 1 l → SoFar rules x state t (suc r) m c n l
    drops_one r l first why more =
        record {
          o = far.o;
          d = far.d + 1;
          goes_on = λ out p e q w. counts_as refl (omega arith) (far.goes_on out p (suc e) q (dropped r first why w));
          counted = record { opened = omega arith; dropped = omega arith };
        }

    pub fails_one : {before after : List ℕ} {q : M} {l : Counts} (r : ℕ) → FirstFrom x state t from r → rules.drops_start n state t r ≡ false → rules.drops_standing n (next x.task state r) (suc t) ≡ false → Lost rules x (next x.task state r) (suc t) n k before q l after → SoFar rules x state t (suc r) m c q l
    fails_one r first keep clear lost =
        record {
          o = far.o + lost.o;
          d = far.d + lost.d;
          goes_on = λ out p e u w. counts_as (omega arith) (omega arith) (far.goes_on out (lost.o + p) (lost.d + e) u (failed r first keep clear lost.walk w));
          counted = record { opened = omega arith; dropped = omega arith };
        }

    -- nothing is left: the walk of the standing, from the counts before it was opened
    pub ends : {b : Counts} {before after : List ℕ} → t < x.card.rounds → Counted b 1 0 c → NoneFrom x state t from → after ≡ before → Lost rules x state t m b before (rules.told n state t) k after
    ends lt one none same =
        record {
          o = suc (far.o + 0);
          d = far.d + 0;
          walk = opened lt (far.goes_on None 0 0 (rules.told n state t) (exhausted none));
          counted = record { opened = omega arith; dropped = omega arith };
          wrote = same;
        }

    pub wins : {b l : Counts} {before now after : List ℕ} {q : M} (r : ℕ) → t < x.card.rounds → x.card.rounds ≤ length before → Counted b 1 0 c → FirstFrom x state t from r → rules.drops_start n state t r ≡ false → rules.drops_standing n (next x.task state r) (suc t) ≡ false → now ≡ before → (deeper : Found rules x (next x.task state r) (suc t) n k now q l after) → Found rules x state t m b before q l (set after t r)
    wins {b} {l} {before} {now} {after} {q} r lt room one first keep clear same deeper =
        record {
          plan = r ∷ deeper.plan;
          o = suc (far.o + deeper.o);
          d = far.d + deeper.d;
          walk = opened lt (far.goes_on (Some (r ∷ deeper.plan)) deeper.o deeper.d q (found r first keep clear deeper.walk));
          counted = record { opened = omega arith; dropped = omega arith };
          wrote = ap (λ (ys : List ℕ). set ys t r) (deeper.wrote ∙ ap (λ (ys : List ℕ). written ys (suc t) deeper.plan) same) ∙ one_before before deeper.plan t r (omega arith);
        }
