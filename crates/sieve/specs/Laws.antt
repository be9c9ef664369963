-- The law of a pair.
use Rattle.std.specs.Prelude.{◌≡◌, ℕ, Bool, true, false, cond, Some, None, Option, refl}
use Rattle.std.proofs.Common.{sym, ap, ◌∙◌, ⊎_elim, arith}
use Rattle.std.proofs.lemmas.Bool.{and_parts, or_cases}
use Rattle.model.specs.Sieves.{Subject, Rules, Law}
use Rattle.sieve.specs.Kinds.{Both, both_rules, BothWhole, BothKept}

-- what has a subject has that of its first sieve
first_of : (b : Bool) (o : Option Subject) (x : Subject) → cond b o None ≡ Some x → o ≡ Some x
first_of true o x e = e
first_of false o x e = let z : ◌≡◌ {A = ℕ} 0 1 = cc in absurd (omega arith)

module _ {M N : Type 0} {P : Rules M} {Q : Rules N} {v p : M → Type 0} {w q : N → Type 0} (f : Law P v p) (g : Law Q w q) where
  abbrev R : Rules (Both M N)
  R = both_rules P Q

  pub both_law : Law (both_rules P Q) (BothWhole v w) (BothKept P Q p q)
  both_law = record {
    begins = λ m x. f.begins m.first x;
    leaves = λ m x ok real. record {
      begun = refl;
      first = f.leaves m.first x ok.first real;
      second = g.leaves m.second x ok.second real;
      same = g.begins m.second x ∙ sym (f.begins m.first x);
    };
    stays = λ m s t. ap (λ o. cond m.begun o None) (f.stays m.first s t);
    keeps = λ m x s t k e st none.
        let o = first_of m.begun (P.subject m.first) x e in
        record {
          begun = k.begun;
          first = f.keeps m.first x s t k.first o st none;
          second = g.keeps m.second x s t k.second (k.same ∙ o) st none;
          same = g.stays m.second s t ∙ k.same ∙ sym (f.stays m.first s t);
        };
    sound = λ m k. record { first = f.sound m.first k.first; second = g.sound m.second k.second };
    standings = λ m x s t k e h.
        let o = first_of m.begun (P.subject m.first) x e in
        ⊎_elim (λ a. f.standings m.first x s t k.first o a) (λ b. g.standings m.second x s t k.second (k.same ∙ o) b)
        (or_cases _ _ (and_parts _ _ h).1);
    starts = λ m x s t r k e h.
        let o = first_of m.begun (P.subject m.first) x e in
        ⊎_elim (λ a. f.starts m.first x s t r k.first o a) (λ b. g.starts m.second x s t r k.second (k.same ∙ o) b)
        (or_cases _ _ (and_parts _ _ h).1);
  }
