-- Lists compared by a test of their elements.
use Rattle.std.specs.Prelude.{Bool, List}
use Rattle.std.specs.List.{list_any, list_all}

-- x is one of them
abbrev pub among : {A : Type 0} → (A → A → Bool) → A → List A → Bool
among f x ys = list_any (λ y. f y x) ys

-- each of the first is one of the second
abbrev pub all_among : {A : Type 0} → (A → A → Bool) → List A → List A → Bool
all_among f xs ys = list_all (λ x. among f x ys) xs
