-- What a memory of hopeless standings means.
use Rattle.std.specs.Prelude.{◌≡◌, ℕ, ◌-◌, Bool, cond, ◌&&◌, ◌||◌, List, [], ◌∷◌, ◌++◌, length, drop, is_some, Some, None, Option, ◌==◌}
use Rattle.std.specs.List.{AllByRecursion}
use Rattle.model.specs.Sieves.{Subject, Standing as IsStanding, Hopeless, Rules}
use Rattle.model.specs.declared.Standing.{Standing}
use Rattle.memory.specs.Lists.{among}
use Rattle.memory.specs.Keeping.{keeps_on}

abbrev pub same_told : Standing → Standing → Bool
same_told a c = a.state == c.state && a.t == c.t

abbrev pub standing : ℕ → ℕ → Standing
standing state t = record { state = state; t = t }

-- the last 128
abbrev pub newest : List Standing → List Standing
newest known = drop (length known - 128) known

-- a new standing goes last, and a repeat keeps its place
abbrev pub remember : List Standing → Standing → List Standing
remember known k = cond (among same_told k known) known (newest (known ++ (k ∷ [])))

-- a standing that is hopeless
abbrev pub Lost : Subject → Standing → Type 0
Lost x k = IsStanding x k.state k.t × Hopeless x k.state k.t

-- all are hopeless for the subject; without one there are none
abbrev pub AllLost : Option Subject → List Standing → Type 0
AllLost None known = known ≡ []
AllLost (Some x) known = AllByRecursion (Lost x) known

abbrev pub LostFor : Option Subject → Standing → Type 0
LostFor None k = ⊥
LostFor (Some x) k = Lost x k

-- what a memory is made of: the sieve below, and the table of what it was told
pub record Parts (S T : Type 0) : Type 0 where
  pub below : S
  pub table : T

-- a memory means its subject, what it was told in order, and the sieve below
pub record Remembered (M : Type 0) : Type 0 where
  pub seen : Option Subject
  pub known : List Standing
  pub below : M

abbrev pub remembered : {M : Type 0} → Option Subject → List Standing → M → Remembered M
remembered seen known below = record { seen = seen; known = known; below = below }

-- once begun, it drops what the sieve below drops and what it remembers; begin and told go below too
abbrev pub memory_rules : {M : Type 0} → Rules M → Rules (Remembered M)
memory_rules P = record {
  subject = λ m. m.seen;
  drops_standing = λ m state t. is_some m.seen && (P.drops_standing m.below state t || among same_told (standing state t) m.known);
  drops_start = λ m state t round. is_some m.seen && P.drops_start m.below state t round;
  begun = λ m x. remembered (Some x) (cond (keeps_on m.seen x) m.known []) (P.begun m.below x);
  told = λ m state t. remembered m.seen (remember m.known (standing state t)) (P.told m.below state t);
}

-- all that it remembers is hopeless for its subject
pub record MemoryWhole {M : Type 0} (whole : M → Type 0) (m : Remembered M) : Type 0 where
  pub lost : ∥ AllLost m.seen m.known ∥₁
  pub below : whole m.below

-- and the sieve below is kept, with the same subject
pub record MemoryKept {M : Type 0} (P : Rules M) (kept : M → Type 0) (m : Remembered M) : Type 0 where
  pub lost : ∥ AllLost m.seen m.known ∥₁
  pub below : kept m.below
  pub same : P.subject m.below ≡ m.seen
