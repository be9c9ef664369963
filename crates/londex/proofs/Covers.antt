-- What bounds cover.
use Rattle.std.proofs.Common.{ℕ, suc, ◌⊎◌, Some, None, Option, sym, subst, inl, inr, ⊎_elim, arith}
use Rattle.std.proofs.lemmas.Bool.{cases_lt}
use Rattle.sets.specs.Sets.{In, Part, Splits}
use Rattle.model.specs.Gaps.{Closer}
use Rattle.londex.specs.Bounds.{Covers, Widest, wider, lowered}
use Rattle.londex.proofs.Rests.{Done, done_here, done_still, done_before}

wider_left : (k m : Option ℕ) (d : ℕ) → Closer k d → Closer (wider k m) d
wider_left None m d h = tt
wider_left (Some k) None d h = tt
wider_left (Some k) (Some m) d h = omega arith

wider_right : (k m : Option ℕ) (d : ℕ) → Closer m d → Closer (wider k m) d
wider_right None m d h = tt
wider_right (Some k) None d h = tt
wider_right (Some k) (Some m) d h = omega arith

wider_either : (k m : Option ℕ) (d : ℕ) → Closer (wider k m) d → Closer k d ⊎ Closer m d
wider_either None m d h = inl tt
wider_either (Some k) None d h = inr tt
wider_either (Some k) (Some m) d h = ⊎_elim (λ l. inl l) (λ l. inr (omega arith)) (cases_lt d k)

pub covers_like : {P Q : ℕ → Type 0} (k : Option ℕ) → ((d : ℕ) → P d → Q d) → ((d : ℕ) → Q d → P d) → Covers P k → Covers Q k
covers_like k f g h = record { only = λ d n. f d (h.only d n); all = λ d q. h.all d (g d q) }

pub covers_both : {P Q : ℕ → Type 0} (k m : Option ℕ) → Covers P k → Covers Q m → Covers (λ d. P d ⊎ Q d) (wider k m)
covers_both k m x y = record {
  only = λ d h. ⊎_elim (λ l. inl (x.only d l)) (λ l. inr (y.only d l)) (wider_either k m d h);
  all = λ d h. ⊎_elim (λ p. wider_left k m d (x.all d p)) (λ q. wider_right k m d (y.all d q)) h;
}

pub covers_lowered : {P : ℕ → Type 0} (k : Option ℕ) → Covers P k → Covers (λ d. P (suc d)) (lowered k)
covers_lowered (Some k) x = record { only = λ d h. x.only (suc d) (omega arith); all = λ d p. omega (arith, x.all (suc d) p) }
covers_lowered None x = record { only = λ d h. x.only (suc d) tt; all = λ d p. tt }

pub covers_closer : (k : Option ℕ) → Covers (Closer k) k
covers_closer k = record { only = λ d h. h; all = λ d h. h }

-- ---- the widest of the bounds of a set's members, one after the other

module _ (R : ℕ → Option ℕ → Type 0) (set : ℕ) where
  pub widest_more : (left i rest : ℕ) (k m : Option ℕ) → Part left set → Splits left i rest → Widest R (Done set left) k → R i m → Widest R (Done set rest) (wider k m)
  widest_more left i rest k m part s x y = record {
    only = λ d h. ⊎_elim
        (λ l. let p = x.only d l in (p.0, done_still set left i rest part s p.0 p.1, p.2))
        (λ l. (i, done_here set left i rest part s, (m, y, l)))
        (wider_either k m d h);
    all = λ j p. ⊎_elim
        (λ e. (m, subst (λ (n : ℕ). R n m) (sym e) y, λ d l. wider_right k m d l))
        (λ done. let q = x.all j done in (q.0, q.1, λ d l. wider_left k m d (q.2 d l)))
        (done_before set left i rest part s j p);
  }

  -- where the bound of a member forbids what P says
  pub widest_covers : (P : ℕ → ℕ → Type 0) (k : Option ℕ) → ((i : ℕ) (r : Option ℕ) → In i set → R i r → Covers (P i) r) → Widest R (λ i. In i set) k → Covers (λ d. (i : ℕ) × In i set × P i d) k
  widest_covers P k each x = record {
    only = λ d h. let p = x.only d h in (p.0, p.1, (each p.0 p.2.0 p.1 p.2.1).only d p.2.2);
    all = λ d p. let q = x.all p.0 p.1 in q.2 d ((each p.0 q.0 p.1 q.1).all d p.2);
  }
