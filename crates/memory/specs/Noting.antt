-- The law of a memory.
use Rattle.std.specs.Prelude.{◌≡◌, ◌-◌, Bool, true, false, cond, List, [], ◌∷◌, ◌++◌, length, Some, None, Option, refl}
use Rattle.std.proofs.Common.{sym, subst, ◌∙◌, ⊎_elim}
use Rattle.std.proofs.Math.Logic.{∥∥₁_elim, ∥∥₁_map}
use mathlib.Core.HLevel.{⊥_prop, Π_prop, ×_prop}
use Rattle.std.proofs.Math.Bridge.{le_prop}
use Rattle.std.specs.List.{AllByRecursion}
use Rattle.std.proofs.ByRecursion.{All-push, All-drop, All-weaker, all-has}
use Rattle.std.proofs.lemmas.Bool.{and_parts, or_cases}
use Rattle.model.specs.Tasks.{group}
use Rattle.model.specs.Sieves.{Subject, Rules, Law}
use Rattle.model.proofs.Laws.{one_prop}
use Rattle.model.proofs.Growth.{still_standing, still_hopeless}
use Rattle.model.specs.declared.Standing.{Standing}
use Rattle.memory.specs.Lists.{among}
use Rattle.memory.specs.Keeping.{keeps, keeps_on}
use Rattle.memory.specs.Memories.{same_told, newest, remember, Lost, AllLost, LostFor, standing, memory_rules, MemoryWhole, MemoryKept}
use Rattle.memory.specs.Compare.{told_test, among_test, keeps_just}

-- what one more told, that is hopeless too, leaves remembered
pub remember_lost : (o : Option Subject) (known : List Standing) (k : Standing) → AllLost o known → LostFor o k → AllLost o (remember known k)
remember_lost None known k all lost = absurd lost
remember_lost (Some x) known k all lost = by_among (among same_told k known)
  where
    by_among : (b : Bool) → AllByRecursion (Lost x) (cond b known (newest (known ++ (k ∷ []))))
    by_among true = all
    by_among false = All-drop (Lost x) (length (known ++ (k ∷ [])) - 128) (known ++ (k ∷ [])) (All-push (Lost x) known k all lost)

-- what a memory keeps at a begin is hopeless for the new subject
pub keeps_lost : (o : Option Subject) (y : Subject) (known : List Standing) → AllLost o known → AllLost (Some y) (cond (keeps_on o y) known [])
keeps_lost None y known all = tt
keeps_lost (Some x) y known all = by_keeps (keeps x y) refl
  where
    by_keeps : (b : Bool) → keeps x y ≡ b → AllByRecursion (Lost y) (cond b known [])
    by_keeps true e = let g = (keeps_just x y).0 e in All-weaker (Lost x) (Lost y) (λ k l. (still_standing x y g k.state k.t l.0, still_hopeless x y g k.state k.t l.1)) known all
    by_keeps false e = tt

lost_prop : (x : Subject) (k : Standing) → IsProp (Lost x k)
lost_prop x k = ×_prop (×_prop (Π_prop (λ g. Π_prop (λ _. one_prop k.state (group x.task g)))) le_prop) (Π_prop (λ _. Π_prop (λ _. Π_prop (λ _. ⊥_prop))))

pub memory_law : {M : Type 0} {P : Rules M} {v p : M → Type 0} → Law P v p → Law (memory_rules P) (MemoryWhole v) (MemoryKept P p)
memory_law {M} {P} {v} {p} f = record {
  begins = λ m x. refl;
  leaves = λ m x ok real. record { lost = ∥∥₁_map ok.lost (keeps_lost m.seen x m.known); below = f.leaves m.below x ok.below real; same = f.begins m.below x };
  stays = λ m s t. refl;
  keeps = λ m x s t k e st none. record {
    lost = ∥∥₁_map k.lost (λ all. remember_lost m.seen m.known (standing s t) all (subst (λ o. LostFor o (standing s t)) (sym e) (st, none)));
    below = f.keeps m.below x s t k.below (k.same ∙ e) st none;
    same = f.stays m.below s t ∙ k.same;
  };
  sound = λ m k. record { lost = k.lost; below = f.sound m.below k.below };
  standings = λ m x s t k e h.
      ⊎_elim
      (λ b. f.standings m.below x s t k.below (k.same ∙ e) b)
      (λ a. ∥∥₁_elim k.lost (lost_prop x (standing s t)) (λ all. all-has (Lost x) m.known (standing s t) (subst (λ o. AllLost o m.known) e all) ((among_test told_test (standing s t) m.known).0 a)))
      (or_cases _ _ (and_parts _ _ h).1);
  starts = λ m x s t r k e h. f.starts m.below x s t r k.below (k.same ∙ e) (and_parts _ _ h).1;
}
