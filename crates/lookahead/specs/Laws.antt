-- The laws of the two sieves.
use Rattle.std.specs.Prelude.{◌≡◌, ℕ, true, Some, Option, refl}
use Rattle.std.proofs.Common.{subst}
use Rattle.std.proofs.lemmas.Bool.{false≢true}
use Rattle.model.specs.Sieves.{Subject, Genuine, Standing, Hopeless, HopelessStart, Law}
use Rattle.model.proofs.Drops.{goal_hopeless, gap_hopeless}
use Rattle.sieve.specs.Kinds.{Always}
use Rattle.lookahead.specs.Tests.{goal_test, gap_test}
use Rattle.lookahead.specs.Kinds.{with_subject, goal_rules, gap_rules, Real}
use Rattle.lookahead.specs.Says.{goal_says, gap_says}

real_some : (x : Subject) → Genuine x → Real (Some x)
real_some x ok y e = let same : x ≡ y = cc in subst Genuine same ok

module _ (m : Option Subject) (x : Subject) (real : Real m) (of_x : m ≡ Some x) where
  standings : (state t : ℕ) → with_subject (λ y. goal_test y state t) m ≡ true → Standing x state t × Hopeless x state t
  standings state t h =
      let drops = (goal_says x (real x of_x) state t).0 (subst (λ (o : Option Subject). with_subject (λ y. goal_test y state t) o ≡ true) of_x h) in
      (drops.0, goal_hopeless x (real x of_x) state t drops)

  starts : (state t round : ℕ) → with_subject (λ y. gap_test y state t round) m ≡ true → Standing x state t × HopelessStart x state t round
  starts state t round h =
      let drops = (gap_says x (real x of_x) state t round).0 (subst (λ (o : Option Subject). with_subject (λ y. gap_test y state t round) o ≡ true) of_x h) in
      (drops.0, gap_hopeless x (real x of_x) state t round drops)

pub goal_law : Law goal_rules Always Real
goal_law = record {
  begins = λ m x. refl;
  leaves = λ m x _ ok. real_some x ok;
  stays = λ m state t. refl;
  keeps = λ m x state t real _ _ _. real;
  sound = λ m _. tt;
  standings = λ m x state t real of_x h. standings m x real of_x state t h;
  starts = λ m x state t round real of_x h. absurd (false≢true h);
}

pub gap_law : Law gap_rules Always Real
gap_law = record {
  begins = λ m x. refl;
  leaves = λ m x _ ok. real_some x ok;
  stays = λ m state t. refl;
  keeps = λ m x state t real _ _ _. real;
  sound = λ m _. tt;
  standings = λ m x state t real of_x h. absurd (false≢true h);
  starts = λ m x state t round real of_x h. starts m x real of_x state t round h;
}
