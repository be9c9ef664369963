-- To be lawful is a proposition, so that the fact that a book keeps cut down can be had whole again.
use Rattle.std.proofs.Common.{◌≡◌, ℕ, ◌^◌, ◌<◌, ◌≤◌, ◌⊎◌, length, ap, inl, inr}
use mathlib.Core.Logic.{∥∥₁_elim}
use mathlib.Core.HLevel.{is_prop→PathP}
use denote.Struct.Props.{props}
use Rattle.model.specs.declared.Action.{Action}
use Rattle.sets.specs.Sets.{In, Part, Apart, One, AtMostOne}
use Rattle.model.specs.Tasks.{Task, Lawful, Fits, Has, action, group, bar}

only_prop : (a b n : ℕ) → IsProp ((j : ℕ) → In j a → In j b → j ≡ n)
only_prop a b n = hlevel props

in_prop : (a n : ℕ) → IsProp (In n a)
in_prop a n = hlevel props

pub one_prop : (a b : ℕ) → IsProp (One a b)
one_prop a b x y =
    let p : x.0 ≡ y.0 = y.3 x.0 x.1 x.2 in
    λ i. (
      p i,
      is_prop→PathP (λ i. In (p i) a) (λ i. in_prop a (p i)) x.1 y.1 i,
      is_prop→PathP (λ i. In (p i) b) (λ i. in_prop b (p i)) x.2 y.2 i,
      is_prop→PathP (λ i. (j : ℕ) → In j a → In j b → j ≡ p i) (λ i. only_prop a b (p i)) x.3 y.3 i,
    )

rest_prop : (a : Action) (g : ℕ) → IsProp (Apart a.adds g × Apart a.deletes g)
rest_prop a g = hlevel props

needs_prop : (a : Action) (g : ℕ) → IsProp ((i : ℕ) → In i g → In i a.deletes → In i a.needs)
needs_prop a g = hlevel props

move_prop : (a : Action) (g : ℕ) → IsProp (One a.adds g × One a.deletes g × ((i : ℕ) → In i g → In i a.deletes → In i a.needs))
move_prop a g x y = λ i. (one_prop a.adds g x.0 y.0 i, one_prop a.deletes g x.1 y.1 i, needs_prop a g x.2 y.2 i)

moves_prop : (a : Action) (g : ℕ) → IsProp ((Apart a.adds g × Apart a.deletes g) ⊎ (One a.adds g × One a.deletes g × ((i : ℕ) → In i g → In i a.deletes → In i a.needs)))
moves_prop a g (inl x) (inl y) = ap inl (rest_prop a g x y)
moves_prop a g (inl x) (inr y) = absurd (x.0 y.0.0 y.0.1 y.0.2)
moves_prop a g (inr x) (inl y) = absurd (y.0 x.0.0 x.0.1 x.0.2)
moves_prop a g (inr x) (inr y) = ap inr (move_prop a g x y)

one_need_prop : (a : Action) (g : ℕ) → IsProp (AtMostOne a.needs g)
one_need_prop a g = hlevel props

fits_prop : (a : Action) (g : ℕ) → IsProp (Fits a g)
fits_prop a g x y = λ i. record { needs_one = one_need_prop a g x.needs_one y.needs_one i; moves = moves_prop a g x.moves y.moves i }

few_prop : (m n : ℕ) → IsProp (m ≤ n)
few_prop m n = hlevel props

pub lawful_prop : (b : Task) → IsProp (Lawful b)
lawful_prop b x y = λ i. record {
  few_facts = facts_prop x.few_facts y.few_facts i;
  few_actions = few_prop (length b.actions) 64 x.few_actions y.few_actions i;
  few_groups = few_prop (length b.groups) 16 x.few_groups y.few_groups i;
  few_bars = few_prop (length b.bars) 8 x.few_bars y.few_bars i;
  initial_known = initial_prop x.initial_known y.initial_known i;
  goal_known = goal_prop x.goal_known y.goal_known i;
  actions_known = actions_prop x.actions_known y.actions_known i;
  groups_known = groups_prop x.groups_known y.groups_known i;
  bars_known = bars_prop x.bars_known y.bars_known i;
  consistent = consistent_prop x.consistent y.consistent i;
  groups_apart = apart_prop x.groups_apart y.groups_apart i;
  one_of_each = λ g h. one_prop b.initial (group b g) (x.one_of_each g h) (y.one_of_each g h) i;
  fits = λ a g h k. fits_prop (action b a) (group b g) (x.fits a g h k) (y.fits a g h k) i;
  no_bar = bar_prop x.no_bar y.no_bar i;
}
  where
    facts_prop : IsProp ((1 ≤ b.facts) × (b.facts ≤ 64))
    facts_prop = hlevel props

    initial_prop : IsProp (b.initial < 2 ^ b.facts)
    initial_prop = hlevel props

    goal_prop : IsProp (b.goal < 2 ^ b.facts)
    goal_prop = hlevel props

    actions_prop : IsProp ((a : ℕ) → Has b a → ((action b a).needs < 2 ^ b.facts) × ((action b a).adds < 2 ^ b.facts) × ((action b a).deletes < 2 ^ b.facts))
    actions_prop = hlevel props

    groups_prop : IsProp ((g : ℕ) → g < length b.groups → (0 < group b g) × (group b g < 2 ^ b.facts))
    groups_prop = hlevel props

    bars_prop : IsProp ((i : ℕ) → i < length b.bars → (0 < bar b i) × (bar b i < 2 ^ b.facts))
    bars_prop = hlevel props

    consistent_prop : IsProp ((a : ℕ) → Has b a → Apart (action b a).adds (action b a).deletes)
    consistent_prop = hlevel props

    apart_prop : IsProp ((g h : ℕ) → g < h → h < length b.groups → Apart (group b g) (group b h))
    apart_prop = hlevel props

    bar_prop : IsProp ((i : ℕ) → i < length b.bars → Part (bar b i) b.initial → ⊥)
    bar_prop = hlevel props

pub lawful_from : (b : Task) → ∥ Lawful b ∥₁ → Lawful b
lawful_from b t = ∥∥₁_elim t (lawful_prop b) (λ x. x)
