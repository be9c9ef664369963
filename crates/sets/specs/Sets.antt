-- Sets of numbers, each held in one number: the bit of value 2 ^ i stands for the member i.
use Rattle.std.specs.Prelude.{◌≡◌, ◌≢◌, ℕ, ◌/◌, ◌%◌, ◌^◌, ◌<◌, Bool, true, false, Some, None, Option, ◌==◌, bit_and, bit_xor}

-- i is a member of s
abbrev pub In : ℕ → ℕ → Type 0
In i s = s / 2 ^ i % 2 ≡ 1

-- the same as a test
abbrev pub has : ℕ → ℕ → Bool
has i s = s / 2 ^ i % 2 == 1

-- every member of a is one of b
abbrev pub Part : ℕ → ℕ → Type 0
Part a b = (i : ℕ) → In i a → In i b

-- some member of a is one of b
abbrev pub Meet : ℕ → ℕ → Type 0
Meet a b = (i : ℕ) × In i a × In i b

-- no member of a is one of b
abbrev pub Apart : ℕ → ℕ → Type 0
Apart a b = (i : ℕ) → In i a → In i b → ⊥

-- exactly one member of a is one of b
abbrev pub One : ℕ → ℕ → Type 0
One a b = (i : ℕ) × In i a × In i b × ((j : ℕ) → In j a → In j b → j ≡ i)

-- at most one member of a is one of b
abbrev pub AtMostOne : ℕ → ℕ → Type 0
AtMostOne a b = (i j : ℕ) → In i a → In i b → In j a → In j b → i ≡ j

-- a without the members of b
abbrev pub without : ℕ → ℕ → ℕ
without a b = bit_xor a (bit_and a b)

-- the members of s are the numbers with P
pub record Marks (P : ℕ → Type 0) (s : ℕ) : Type 0 where
  pub only : (j : ℕ) → In j s → P j
  pub all : (j : ℕ) → P j → In j s

-- the lowest number with P, or none
abbrev pub Lowest : Option ℕ → (ℕ → Type 0) → Type 0
Lowest None P = (k : ℕ) → P k → ⊥
Lowest (Some i) P = P i × ((k : ℕ) → k < i → P k → ⊥)

-- i is a member of s, and rest has the others
pub record Splits (s i rest : ℕ) : Type 0 where
  pub below : i < 64
  pub member : In i s
  pub others : Marks (λ j. In j s × (j ≢ i)) rest
  pub less : rest < s

-- a member is taken out of a set, or there is none to take
abbrev pub Split : ℕ → Option ℕ → ℕ → Type 0
Split s None rest = s ≡ 0
Split s (Some i) rest = Splits s i rest

-- s has numbers below n for which the test answers true, and of the others below n it answers false
pub record Gathered (Tests : ℕ → Bool → Type 0) (n s : ℕ) : Type 0 where
  pub member : (i : ℕ) → In i s → (i < n) × Tests i true
  pub other : (i : ℕ) → i < n → (In i s → ⊥) → Tests i false
