-- The walk is determined: one outcome, one pair of numbers, one last meaning.
use Rattle.std.proofs.Common.{◌≡◌, ℕ, suc, ◌+◌, Bool, true, false, ◌⊎◌, List, ◌∷◌, Some, None, Option, sym, refl, ap, subst, ap₂, ⊎_elim, arith}
use Rattle.std.proofs.lemmas.Bool.{cases_order, both_ways}
use Rattle.model.specs.Plans.{next}
use Rattle.model.specs.Sieves.{Subject, Rules}
use Rattle.model.specs.Walks.{FirstFrom, Place, at, rounds, Walk, reached, missed, opened, exhausted, dropped, failed, found}

-- the ends of two walks are the same
pub record Same {M : Type 0} (out : Option (List ℕ)) (o d : ℕ) (n : M) (out2 : Option (List ℕ)) (o2 d2 : ℕ) (n2 : M) : Type 0 where
  pub shown : out ≡ out2
  pub opens : o ≡ o2
  pub drops : d ≡ d2
  pub left : n ≡ n2

one_first : (x : Subject) (state t from r q : ℕ) → FirstFrom x state t from r → FirstFrom x state t from q → r ≡ q
one_first x state t from r q a b = ⊎_elim (λ e. e) (⊎_elim (λ lt. absurd (b.2 r a.0 lt a.1)) (λ lt. absurd (a.2 q b.0 lt b.1))) (cases_order r q)

not_both : (a b : Bool) → a ≡ false → b ≡ false → (a ≡ true) ⊎ (b ≡ true) → ⊥
not_both a b p q h = ⊎_elim (λ e. both_ways a p e) (λ e. both_ways b q e) h

none_some : (p : List ℕ) → None ≡ Some p → ⊥
none_some p e = let z : ◌≡◌ {A = ℕ} 0 1 = cc in omega arith

some_cons : (r q : ℕ) (p s : List ℕ) → r ≡ q → Some p ≡ Some s → Some (r ∷ p) ≡ Some (q ∷ s)
some_cons r q p s e h = cc

module _ {M : Type 0} (rules : Rules M) (x : Subject) where
  -- what is dropped on the one walk is not passed on the other
  clash : (state t from r q : ℕ) (m : M) → FirstFrom x state t from r → FirstFrom x state t from q → (rules.drops_start m state t r ≡ true) ⊎ (rules.drops_standing m (next x.task state r) (suc t) ≡ true) → rules.drops_start m state t q ≡ false → rules.drops_standing m (next x.task state q) (suc t) ≡ false → ⊥
  clash state t from r q m first second drop keep clear =
      let same = one_first x state t from q r second first in
      not_both _ _ (subst (λ k. rules.drops_start m state t k ≡ false) same keep) (subst (λ k. rules.drops_standing m (next x.task state k) (suc t) ≡ false) same clear) drop

  pub determined : {place : Place} {m n n2 : M} {out out2 : Option (List ℕ)} {o d o2 d2 : ℕ} → Walk rules x place m out o d n → Walk rules x place m out2 o2 d2 n2 → Same out o d n out2 o2 d2 n2
  determined (reached e goal) (reached e2 goal2) = record { shown = refl; opens = refl; drops = refl; left = refl }
  determined (reached e goal) (missed e2 miss) = absurd (miss goal)
  determined (reached e goal) (opened lt w) = absurd (omega arith)
  determined (missed e miss) (reached e2 goal) = absurd (miss goal)
  determined (missed e miss) (missed e2 miss2) = record { shown = refl; opens = refl; drops = refl; left = refl }
  determined (missed e miss) (opened lt w) = absurd (omega arith)
  determined (opened lt v) (reached e goal) = absurd (omega arith)
  determined (opened lt v) (missed e miss) = absurd (omega arith)
  determined (opened lt v) (opened lt2 w) = let s = determined v w in record { shown = s.shown; opens = ap suc s.opens; drops = s.drops; left = s.left }
  determined (exhausted none) (exhausted none2) = record { shown = refl; opens = refl; drops = refl; left = refl }
  determined (exhausted none) (dropped q second drop w) = absurd (none q second.0 second.1)
  determined (exhausted none) (failed q second keep clear w u) = absurd (none q second.0 second.1)
  determined (exhausted none) (found q second keep clear w) = absurd (none q second.0 second.1)
  determined (dropped r first drop v) (exhausted none) = absurd (none r first.0 first.1)
  determined (dropped {state} {t} {from} {m = m} r first drop v) (dropped {o = o2} {d = d2} {n = n2} {out = out2} q second drop2 w) =
      let same = one_first x state t from q r second first in
      let s = determined v (subst (λ k. Walk rules x (rounds state t (suc k)) m out2 o2 d2 n2) same w) in
      record { shown = s.shown; opens = s.opens; drops = ap suc s.drops; left = s.left }
  determined (dropped {state} {t} {from} {m = m} r first drop v) (failed q second keep clear w u) = absurd (clash state t from r q m first second drop keep clear)
  determined (dropped {state} {t} {from} {m = m} r first drop v) (found q second keep clear w) = absurd (clash state t from r q m first second drop keep clear)
  determined (failed r first keep clear v u) (exhausted none) = absurd (none r first.0 first.1)
  determined (failed {state} {t} {from} {m = m} r first keep clear v u) (dropped q second drop w) = absurd (clash state t from q r m second first drop keep clear)
  determined (failed {state} {t} {from} {m = m} {n = n} r first keep clear v u) (failed {o = o2} {p = p2} {d = d2} {e = e2} {n = n2} {q = q2} {out = out2} q second keep2 clear2 w z) =
      let same = one_first x state t from q r second first in
      let s = determined v (subst (λ k. Walk rules x (at (next x.task state k) (suc t)) m None o2 d2 n2) same w) in
      let z1 = subst (λ k. Walk rules x (rounds state t (suc k)) n2 out2 p2 e2 q2) same z in
      let z2 = subst (λ k. Walk rules x (rounds state t (suc r)) k out2 p2 e2 q2) (sym s.left) z1 in
      let l = determined u z2 in
      record { shown = l.shown; opens = ap₂ ◌+◌ s.opens l.opens; drops = ap₂ ◌+◌ s.drops l.drops; left = l.left }
  determined (failed {state} {t} {from} {m = m} r first keep clear v u) (found {o = o2} {d = d2} {n = n2} {rest = rest} q second keep2 clear2 w) =
      let same = one_first x state t from q r second first in
      let s = determined v (subst (λ k. Walk rules x (at (next x.task state k) (suc t)) m (Some rest) o2 d2 n2) same w) in
      absurd (none_some rest s.shown)
  determined (found r first keep clear v) (exhausted none) = absurd (none r first.0 first.1)
  determined (found {state} {t} {from} {m = m} r first keep clear v) (dropped q second drop w) = absurd (clash state t from q r m second first drop keep clear)
  determined (found {state} {t} {from} {m = m} {rest = rest} r first keep clear v) (failed {o = o2} {d = d2} {n = n2} q second keep2 clear2 w z) =
      let same = one_first x state t from q r second first in
      let s = determined v (subst (λ k. Walk rules x (at (next x.task state k) (suc t)) m None o2 d2 n2) same w) in
      absurd (none_some rest (sym s.shown))
  determined (found {state} {t} {from} {m = m} {rest = rest} r first keep clear v) (found {o = o2} {d = d2} {n = n2} {rest = rest2} q second keep2 clear2 w) =
      let same = one_first x state t from q r second first in
      let s = determined v (subst (λ k. Walk rules x (at (next x.task state k) (suc t)) m (Some rest2) o2 d2 n2) same w) in
      record { shown = some_cons r q rest rest2 (sym same) s.shown; opens = s.opens; drops = s.drops; left = s.left }
