-- What the goal sieve and the gap sieve mean: the subject alone.
use Rattle.std.specs.Prelude.{◌≡◌, ℕ, Bool, false, Some, None, Decides, Option}
use Rattle.model.specs.Sieves.{Subject, Genuine, Rules, GoalDrops, GapDrops}
use Rattle.lookahead.specs.Tests.{goal_test, gap_test}

-- a test of the subject; false where there is none
abbrev pub with_subject : (Subject → Bool) → Option Subject → Bool
with_subject test None = false
with_subject test (Some x) = test x

abbrev pub goal_rules : Rules (Option Subject)
goal_rules = record {
  subject = λ m. m;
  drops_standing = λ m state t. with_subject (λ x. goal_test x state t) m;
  drops_start = λ m state t round. false;
  begun = λ m x. Some x;
  told = λ m state t. m;
}

abbrev pub gap_rules : Rules (Option Subject)
gap_rules = record {
  subject = λ m. m;
  drops_standing = λ m state t. false;
  drops_start = λ m state t round. with_subject (λ x. gap_test x state t round) m;
  begun = λ m x. Some x;
  told = λ m state t. m;
}

-- the subject, if there is one, is that of a book and a card
abbrev pub Real : Option Subject → Type 0
Real m = (x : Subject) → m ≡ Some x → Genuine x

-- the goal sieve drops exactly the standings with a fact that is late, and no start
pub record GoalJust : Type 0 where
  pub standings : (x : Subject) → Genuine x → (state t : ℕ) → Decides (goal_rules.drops_standing (Some x) state t) (GoalDrops x state t)
  pub no_starts : (x : Subject) (state t round : ℕ) → goal_rules.drops_start (Some x) state t round ≡ false

-- the gap sieve drops exactly the starts with an action that is near a coming booking, and no standing
pub record GapJust : Type 0 where
  pub starts : (x : Subject) → Genuine x → (state t round : ℕ) → Decides (gap_rules.drops_start (Some x) state t round) (GapDrops x state t round)
  pub no_standings : (x : Subject) (state t : ℕ) → gap_rules.drops_standing (Some x) state t ≡ false
