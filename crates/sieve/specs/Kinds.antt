-- What the open sieve and the pair mean.
use Rattle.std.specs.Prelude.{◌≡◌, ℕ, Bool, true, false, cond, ◌&&◌, ◌||◌, Some, None, Option}
use Rattle.model.specs.Sieves.{Subject, Rules}

-- a new sieve: it has no subject, and drops nothing
pub record Fresh {M : Type 0} (rules : Rules M) (m : M) : Type 0 where
  pub unbegun : rules.subject m ≡ None
  pub no_standing : (state t : ℕ) → rules.drops_standing m state t ≡ false
  pub no_start : (state t round : ℕ) → rules.drops_start m state t round ≡ false

-- the open sieve drops nothing; it means its subject alone
abbrev pub open_rules : Rules (Option Subject)
open_rules = record {
  subject = λ m. m;
  drops_standing = λ m state t. false;
  drops_start = λ m state t round. false;
  begun = λ m x. Some x;
  told = λ m state t. m;
}

-- nothing is asked
abbrev pub Always : {M : Type 0} → M → Type 0
Always m = Unit {0}

-- a pair means its two sieves, and whether they were begun together
pub record Both (M N : Type 0) : Type 0 where
  pub begun : Bool
  pub first : M
  pub second : N

abbrev pub both : {M N : Type 0} → Bool → M → N → Both M N
both begun first second = record { begun = begun; first = first; second = second }

-- once begun, it drops what either drops; begin and told reach both
abbrev pub both_rules : {M N : Type 0} → Rules M → Rules N → Rules (Both M N)
both_rules P Q = record {
  subject = λ m. cond m.begun (P.subject m.first) None;
  drops_standing = λ m state t. m.begun && (P.drops_standing m.first state t || Q.drops_standing m.second state t);
  drops_start = λ m state t round. m.begun && (P.drops_start m.first state t round || Q.drops_start m.second state t round);
  begun = λ m x. both true (P.begun m.first x) (Q.begun m.second x);
  told = λ m state t. both m.begun (P.told m.first state t) (Q.told m.second state t);
}

pub record BothWhole {M N : Type 0} (p : M → Type 0) (q : N → Type 0) (m : Both M N) : Type 0 where
  pub first : p m.first
  pub second : q m.second

-- a pair that was begun keeps that both of its sieves are kept, with one subject
pub record BothKept {M N : Type 0} (P : Rules M) (Q : Rules N) (p : M → Type 0) (q : N → Type 0) (m : Both M N) : Type 0 where
  pub begun : m.begun ≡ true
  pub first : p m.first
  pub second : q m.second
  pub same : Q.subject m.second ≡ P.subject m.first
