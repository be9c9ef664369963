-- An outline that is read keeps the limits, and one that breaks no condition is lawful.
use Rattle.std.proofs.Common.{◌≡◌, ℕ, ◌^◌, ◌<◌, ◌≤◌, ◌⊎◌, List, length, Ok, Err, refl, subst, inl, inr, ⊎_elim, arith}
use lib.Bits.{bit_and}
use lib.Count.{ones}
use Rattle.std.proofs.lemmas.Bool.{cases_eq}
use Rattle.std.specs.List.{All}
use Rattle.std.specs.Result.{result_map_both}
use Rattle.sets.specs.Sets.{In, Apart, One}
use Rattle.sets.proofs.Members.{out_or_in}
use Rattle.sets.proofs.Counts.{one_from, one_to}
use Rattle.model.specs.declared.Action.{Action}
use Rattle.model.specs.Tasks.{Lawful, Fits, idle, action, group}
use Rattle.faults.specs.declared.Record.TheVariants.{Head, Action as InAction, Group as InGroup, Bar as InBar}
use Rattle.faults.specs.declared.Fault.{Fault}
use Rattle.faults.specs.declared.Fault.TheVariants.{Field, AddsAndDeletes, SharedGroup, NotOneAtStart, BrokenGroup, BarAtStart}
use Rattle.book.specs.declared.outline.Outline.{Outline}
use Rattle.book.specs.Views.{task}
use Rattle.faults.specs.Faults.{Breaks}
use Rattle.reader.specs.Formats.{Read, read_counts, read_ends, read_action, read_set, read_many, fault_in, read_end, read_outline, outline_of}
use Rattle.reader.proofs.Ranges.{same_value, follow_ok, counts_range, ends_range, action_range, set_range, Known, KnownAction, many_range}

-- what every outline that is read keeps
pub record Tidy (o : Outline) : Type 0 where
  pub facts : (1 ≤ o.facts) × (o.facts ≤ 64)
  pub few : (length o.actions ≤ 64) × (length o.groups ≤ 16) × (length o.bars ≤ 8)
  pub ends : (o.initial < 2 ^ o.facts) × (o.goal < 2 ^ o.facts)
  pub actions : All (KnownAction o.facts) o.actions
  pub groups : All (Known o.facts) o.groups
  pub bars : All (Known o.facts) o.bars

read_tidy : (bs : List ℕ) (p : ℕ) (o : Outline) (q : ℕ) → read_outline bs p ≡ Ok (o, q) → Tidy o
read_tidy bs p o q e =
    let n = follow_ok (Field Head) (read_counts bs p) _ (o, q) e in
    let facts = n.0.facts in
    let x = follow_ok (Field Head) (read_ends facts bs n.1) _ (o, q) n.3 in
    let a = follow_ok (fault_in InAction) (read_many (read_action facts) n.0.actions 0 bs x.1) _ (o, q) x.3 in
    let g = follow_ok (fault_in InGroup) (read_many (read_set facts) n.0.groups 0 bs a.1) _ (o, q) a.3 in
    let h = follow_ok (fault_in InBar) (read_many (read_set facts) n.0.bars 0 bs g.1) _ (o, q) g.3 in
    let z = follow_ok (λ e. e) (read_end bs h.1) _ (o, q) h.3 in
    let few = counts_range bs p n.0 n.1 n.2 in
    let actions = many_range (read_action facts) (KnownAction facts) (action_range facts) n.0.actions 0 bs x.1 a.0 a.1 a.2 in
    let groups = many_range (read_set facts) (Known facts) (set_range facts) n.0.groups 0 bs a.1 g.0 g.1 g.2 in
    let bars = many_range (read_set facts) (Known facts) (set_range facts) n.0.bars 0 bs g.1 h.0 h.1 h.2 in
    subst Tidy (same_value _ o z.1 q z.3) (record {
      facts = few.facts;
      few = (omega (arith, few.actions, actions.0), omega (arith, few.groups, groups.0), omega (arith, few.bars, bars.0));
      ends = ends_range facts bs n.1 x.0 x.1 x.2;
      actions = actions.1;
      groups = groups.1;
      bars = bars.1;
    })

pub outline_tidy : (bs : List ℕ) (o : Outline) → outline_of bs ≡ Ok o → Tidy o
outline_tidy bs o e = go (read_outline bs 0) e (λ p q h. read_tidy bs 0 p q h)
  where
    go : (r : Read Outline Fault) → result_map_both (λ x. x.0) (λ e. e) r ≡ Ok o → ((p : Outline) (q : ℕ) → r ≡ Ok (p, q) → Tidy p) → Tidy o
    go (Ok (p, q)) k tidy = let same : p ≡ o = cc in subst Tidy same (tidy p q refl)
    go (Err d) k tidy = let no_way : ◌≡◌ {A = ℕ} 0 1 = cc in absurd (omega arith)

-- ---- what is not broken holds

one_stable : (a b : ℕ) → ((One a b → ⊥) → ⊥) → One a b
one_stable a b nn = ⊎_elim (λ e. one_from a b e) (λ ne. absurd (nn (λ o. ne (one_to a b o)))) (cases_eq (ones (bit_and a b)) 1)

abbrev Moves : Action → ℕ → Type 0
Moves a g = (Apart a.adds g × Apart a.deletes g) ⊎ (One a.adds g × One a.deletes g × ((i : ℕ) → In i g → In i a.deletes → In i a.needs))

fits_stable : (a : Action) (g : ℕ) → ((Fits a g → ⊥) → ⊥) → Fits a g
fits_stable a g nn = record {
  needs_one = λ i j p q r s. ⊎_elim (λ e. e) (λ ne. absurd (nn (λ f. ne (f.needs_one i j p q r s)))) (cases_eq i j);
  moves = ⊎_elim moving resting (cases_eq (ones (bit_and a.adds g)) 1);
}
  where
    moving : ones (bit_and a.adds g) ≡ 1 → Moves a g
    moving e =
        let one = one_from a.adds g e in
        let unrest : Apart a.adds g × Apart a.deletes g → ⊥ = λ r. r.0 one.0 one.1 one.2 in
        inr (
          one,
          one_stable a.deletes g (λ n. nn (λ f. ⊎_elim unrest (λ m. n m.1) f.moves)),
          λ i p q. ⊎_elim (λ out. absurd (nn (λ f. ⊎_elim unrest (λ m. let in' = m.2 i p q in omega arith) f.moves))) (λ in'. in') (out_or_in i a.needs),
        )

    resting : (ones (bit_and a.adds g) ≡ 1 → ⊥) → Moves a g
    resting ne = inl (
      λ i p q. nn (λ f. ⊎_elim (λ r. r.0 i p q) (λ m. ne (one_to a.adds g m.0)) f.moves),
      λ i p q. nn (λ f. ⊎_elim (λ r. r.1 i p q) (λ m. ne (one_to a.adds g m.0)) f.moves),
    )

pub tidy_lawful : (o : Outline) → Tidy o → ((f : Fault) → Breaks (task o) f → ⊥) → Lawful (task o)
tidy_lawful o t unbroken = record {
  few_facts = t.facts;
  few_actions = t.few.0;
  few_groups = t.few.1;
  few_bars = t.few.2;
  initial_known = t.ends.0;
  goal_known = t.ends.1;
  actions_known = λ a h. t.actions a idle h;
  groups_known = λ g h. t.groups g 0 h;
  bars_known = λ i h. t.bars i 0 h;
  consistent = λ a h i p q. unbroken (AddsAndDeletes a) (h, (i, p, q));
  groups_apart = λ g h l m i p q. unbroken (SharedGroup h) (m, (g, l, (i, p, q)));
  one_of_each = λ g h. one_stable o.initial (group (task o) g) (λ n. unbroken (NotOneAtStart g) (h, n));
  fits = λ a g h k. fits_stable (action (task o) a) (group (task o) g) (λ n. unbroken (BrokenGroup a) (h, (g, k, n)));
  no_bar = λ i h p. unbroken (BarAtStart i) (h, p);
}
