-- The tests of sameness test just that.
use Rattle.std.specs.Prelude.{◌≡◌, Bool, Decides, nat_eq}
use Rattle.std.proofs.Common.{sym, ap, ◌∙◌}
use Rattle.std.specs.Cmp.{IsPartialEquivalence, both_ways}
use Rattle.std.specs.Cmp.Lexicographic.{pointwise_decides}
use Rattle.std.proofs.lemmas.Bool.{eq-eqb, eqb-true, and_parts, and_from}
use Rattle.model.specs.declared.Action.{Action}
use Rattle.model.specs.declared.Booking.{Booking}
use Rattle.model.specs.Tasks.{Task}
use Rattle.model.specs.Ledgers.{same}
use Rattle.model.specs.Same.{same_action, same_task}

-- f answers whether two values are the same
abbrev pub Test : {A : Type 0} → (A → A → Bool) → Type 0
Test {A} f = (x y : A) → Decides (f x y) (x ≡ y)

pub number_test : Test nat_eq
number_test x y = (λ e. eqb-true x y e, λ e. eq-eqb x y e)

pub action_test : Test same_action
action_test x y = (
  λ e.
      let a = and_parts _ _ e in
      let b = and_parts _ _ a.1 in
      let p = eqb-true _ _ a.0 in
      let q = eqb-true _ _ b.0 in
      let r = eqb-true _ _ b.1 in
      λ i. record { needs = p i; adds = q i; deletes = r i },
  λ e.
      and_from _ _ (eq-eqb _ _ (ap (λ (a : Action). a.needs) e))
      (and_from _ _ (eq-eqb _ _ (ap (λ (a : Action). a.adds) e)) (eq-eqb _ _ (ap (λ (a : Action). a.deletes) e))),
)

pub booking_test : Test same
booking_test x y = (
  λ e.
      let a = and_parts _ _ e in
      let p = eqb-true _ _ a.0 in
      let q = eqb-true _ _ a.1 in
      λ i. record { action = p i; round = q i },
  λ e. and_from _ _ (eq-eqb _ _ (ap (λ (a : Booking). a.action) e)) (eq-eqb _ _ (ap (λ (a : Booking). a.round) e)),
)

pub task_test : Test same_task
task_test b c = (
  λ e.
      let u = and_parts _ _ e in
      let v = and_parts _ _ u.1 in
      let w = and_parts _ _ v.1 in
      let x = and_parts _ _ w.1 in
      let y = and_parts _ _ x.1 in
      let p = eqb-true _ _ u.0 in
      let q = eqb-true _ _ v.0 in
      let r = eqb-true _ _ w.0 in
      let s = (pointwise_decides action_test b.actions c.actions).0 x.0 in
      let t = (pointwise_decides number_test b.groups c.groups).0 y.0 in
      let o = (pointwise_decides number_test b.bars c.bars).0 y.1 in
      λ i. record { facts = p i; actions = s i; groups = t i; bars = o i; initial = q i; goal = r i },
  λ e.
      and_from _ _ (eq-eqb _ _ (ap (λ (t : Task). t.facts) e))
      (and_from _ _ (eq-eqb _ _ (ap (λ (t : Task). t.initial) e))
      (and_from _ _ (eq-eqb _ _ (ap (λ (t : Task). t.goal) e))
      (and_from _ _ ((pointwise_decides action_test b.actions c.actions).1 (ap (λ (t : Task). t.actions) e))
      (and_from _ _ ((pointwise_decides number_test b.groups c.groups).1 (ap (λ (t : Task). t.groups) e)) ((pointwise_decides number_test b.bars c.bars).1 (ap (λ (t : Task). t.bars) e)))))),
)

-- what is the same after g is an equality of what g takes
pub same_after : {A B : Type 0} {f : B → B → Bool} (test : Test f) (g : A → B) → IsPartialEquivalence (λ (x y : A). f (g x) (g y))
same_after {A} {B} {f} test g = record {
  symm = λ x y. both_ways (f (g x) (g y)) (f (g y) (g x)) (λ e. (test (g y) (g x)).1 (sym ((test (g x) (g y)).0 e))) (λ e. (test (g x) (g y)).1 (sym ((test (g y) (g x)).0 e)));
  trans = λ x y z p q. (test (g x) (g z)).1 ((test (g x) (g y)).0 p ∙ (test (g y) (g z)).0 q);
}
