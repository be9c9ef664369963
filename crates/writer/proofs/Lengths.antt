-- How many bytes the parts of a file have.
use Rattle.std.proofs.Common.{◌≡◌, ℕ, zero, suc, ◌+◌, ◌*◌, ◌<◌, ◌≤◌, List, [], ◌∷◌, ◌++◌, length, get_or, take, sym, refl, ap, ◌∙◌, ⊎_elim, arith}
use Rattle.std.specs.List.{flat_map}
use Rattle.std.proofs.lemmas.List.{length-append, flat_map_more, take_more}
use Rattle.std.proofs.lemmas.Bool.{cases_eq, eq-eqb, ne_eqb}
use Rattle.model.specs.declared.Action.{Action}
use Rattle.model.specs.Tasks.{Lawful}
use Rattle.model.proofs.Laws.{lawful_from}
use Rattle.book.specs.declared.book.Book.{Book}
use Rattle.book.specs.declared.outline.Outline.{Outline}
use Rattle.book.specs.Views.{task}
use Rattle.reader.specs.Written.{set_bytes, field_bytes, ends_bytes, action_bytes, written}

pub field_none : (s : ℕ) → s ≡ 0 → field_bytes s ≡ []
field_none s z = rw (eq-eqb s 0 z)

pub field_some : (s : ℕ) → (s ≡ 0 → ⊥) → field_bytes s ≡ set_bytes s
field_some s some = rw (ne_eqb s 0 some)

pub set_size : (s : ℕ) → length (set_bytes s) ≡ 8
unfolding set_bytes
set_size s = omega arith

pub field_size : (s : ℕ) → (s ≡ 0 → ⊥) → length (field_bytes s) ≡ 8
field_size s some = ap length (field_some s some) ∙ set_size s

pub field_most : (s : ℕ) → length (field_bytes s) ≤ 8
field_most s = ⊎_elim (λ z. omega (arith, ap length (field_none s z))) (λ some. omega (arith, field_size s some)) (cases_eq s 0)

pub ends_size : (initial goal : ℕ) → length (ends_bytes initial goal) ≡ 1 + length (field_bytes initial) + length (field_bytes goal)
unfolding ends_bytes
ends_size initial goal = simp length-append (omega arith)

pub action_size : (a : Action) → length (action_bytes a) ≡ 1 + length (field_bytes a.needs) + length (field_bytes a.adds) + length (field_bytes a.deletes)
unfolding action_bytes
action_size a = simp length-append (omega arith)

ends_most : (initial goal : ℕ) → length (ends_bytes initial goal) ≤ 17
ends_most initial goal = omega (arith, ends_size initial goal, field_most initial, field_most goal)

action_most : (a : Action) → length (action_bytes a) ≤ 25
action_most a = omega (arith, action_size a, field_most a.needs, field_most a.adds, field_most a.deletes)

module _ {A : Type 0} (f : A → List ℕ) where
  pub joined_step : (xs : List A) (i : ℕ) (d : A) → i < length xs → flat_map f (take (i + 1) xs) ≡ flat_map f (take i xs) ++ f (get_or xs i d)
  joined_step xs i d h = ap (flat_map f) (take_more xs i d h) ∙ sym (flat_map_more f [] (take i xs) (get_or xs i d))

  front_most : (n : ℕ) (xs : List A) → length (flat_map f (take n xs)) ≤ length (flat_map f xs)
  front_most zero xs = omega arith
  front_most (suc n) [] = omega arith
  front_most (suc n) (x ∷ xs) = omega (arith, front_most n xs, length-append (f x) (flat_map f (take n xs)), length-append (f x) (flat_map f xs))

  -- where there is room for all there is room for one more
  pub joined_room : (xs : List A) (i : ℕ) (d : A) → i < length xs → length (flat_map f (take i xs)) + length (f (get_or xs i d)) ≤ length (flat_map f xs)
  joined_room xs i d h = omega (arith, front_most (i + 1) xs, ap length (joined_step xs i d h), length-append (flat_map f (take i xs)) (f (get_or xs i d)))

pub actions_most : (xs : List Action) → length (flat_map action_bytes xs) ≤ 25 * length xs
actions_most [] = omega arith
actions_most (a ∷ xs) = omega (arith, actions_most xs, action_most a, length-append (action_bytes a) (flat_map action_bytes xs))

sets_size : (xs : List ℕ) → length (flat_map set_bytes xs) ≡ 8 * length xs
sets_size [] = refl
sets_size (s ∷ xs) = omega (arith, sets_size xs, set_size s, length-append (set_bytes s) (flat_map set_bytes xs))

-- ---- the file

pub written_parts : (o : Outline) → length (written o)
    ≡ 4 + length (ends_bytes o.initial o.goal) + length (flat_map action_bytes (task o).actions) + length (flat_map set_bytes (task o).groups) + length (flat_map set_bytes (task o).bars)
unfolding written
written_parts o = simp length-append (omega arith)

pub book_size : (o : Outline) → length (written o)
    ≡ 5 + length (field_bytes o.initial) + length (field_bytes o.goal) + length (flat_map action_bytes o.actions) + 8 * (length o.groups + length o.bars)
book_size o = omega (arith, written_parts o, ends_size o.initial o.goal, sets_size o.groups, sets_size o.bars)

-- the file of a lawful book, part by part
pub file_most : (o : Outline) → Lawful (task o)
    → 4 + length (ends_bytes o.initial o.goal) + length (flat_map action_bytes o.actions) + length (flat_map set_bytes o.groups) + length (flat_map set_bytes o.bars) ≤ 1813
file_most o l = omega (arith, ends_most o.initial o.goal, actions_most o.actions, sets_size o.groups, sets_size o.bars, l.few_actions, l.few_groups, l.few_bars)

pub book_most : (b : Book) → length (written b.outline) ≤ 1813
book_most b = let o = b.outline in omega (arith, written_parts o, file_most o (lawful_from (task o) b.lawful))
