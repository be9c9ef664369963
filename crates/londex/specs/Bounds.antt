-- Bounds on the rounds between two actions: what is forbidden is what is below the bound, and all where it is None.
use Rattle.std.specs.Prelude.{◌≡◌, ℕ, suc, ◌+◌, ◌-◌, ◌<◌, ◌≤◌, max, ◌⊎◌, Some, None, Option, ◌≢◌, bit_and}
use Rattle.model.specs.declared.Action.{Action}
use Rattle.sets.specs.Sets.{In}
use Rattle.model.specs.Gaps.{UpTo, Closer}
use Rattle.londex.specs.Tables.{Table, at}

-- the numbers with P are those below k
pub record Covers (P : ℕ → Type 0) (k : Option ℕ) : Type 0 where
  pub only : (d : ℕ) → Closer k d → P d
  pub all : (d : ℕ) → P d → Closer k d

-- k forbids what some bound of a member forbids, where Bounds says which bounds a member may have
pub record Widest (Bounds : ℕ → Option ℕ → Type 0) (Member : ℕ → Type 0) (k : Option ℕ) : Type 0 where
  pub only : (d : ℕ) → Closer k d → (i : ℕ) × Member i × ((r : Option ℕ) × Bounds i r × Closer r d)
  pub all : (i : ℕ) → Member i → (r : Option ℕ) × Bounds i r × ((d : ℕ) → Closer r d → Closer k d)

-- the greater of two bounds
abbrev pub wider : Option ℕ → Option ℕ → Option ℕ
wider None m = None
wider (Some k) None = None
wider (Some k) (Some m) = Some (max k m)

-- one less, and 0 stays
abbrev pub lowered : Option ℕ → Option ℕ
lowered (Some k) = Some (k - 1)
lowered None = None

-- one more
abbrev pub raised : Option ℕ → Option ℕ
raised (Some k) = Some (k + 1)
raised None = None

-- the bound without its d = 0, where that is all that it forbids
abbrev pub Spared : Option ℕ → Option ℕ → Type 0
Spared (Some k) r = (k ≡ 1 → r ≡ Some 0) × ((k ≢ 1) → r ≡ Some k)
Spared None r = r ≡ None

-- a number that is there is below n
abbrev pub Under : ℕ → Option ℕ → Type 0
Under n (Some r) = r < n
Under n None = Unit {0}

-- where f gives the facts of a group, a distance between two of them is below 64
abbrev pub Shorter : (ℕ → ℕ) → Table → Type 0
Shorter f t = (w v : ℕ) → w < 64 → In v (f w) → Under 64 (at t v w)

-- d is at most what the table has from a member of the set to w
abbrev pub Farther : Table → ℕ → ℕ → ℕ → Type 0
Farther t set w d = (v : ℕ) × In v set × UpTo (at t v w) 0 d

-- what the facts that x adds and needs forbid to one that needs w, the fact of the group own
abbrev pub Waits : Table → ℕ → Action → ℕ → ℕ → Type 0
Waits t own x w d = Farther t (bit_and x.adds own) w d ⊎ Farther t (bit_and x.needs own) w (suc d)

-- the bound at some member of the set is above d
abbrev pub SomeCloser : (ℕ → Option ℕ) → ℕ → ℕ → Type 0
SomeCloser row set d = (w : ℕ) × In w set × Closer (row w) d

-- what single facts forbid
abbrev pub Alone : Action → Action → ℕ → Type 0
Alone x y d = ((f : ℕ) × In f x.adds × In f y.deletes × (d ≡ 0)) ⊎ ((f : ℕ) × In f x.deletes × In f y.needs × (d ≤ 1))

-- what is forbidden to y after x: by single facts, or by the bounds after x at the near facts that y needs or adds
abbrev pub KeptOff : Action → Action → ℕ → (ℕ → Option ℕ) → ℕ → Type 0
KeptOff x y near row d = Alone x y d ⊎ (SomeCloser row (bit_and y.needs near) d ⊎ SomeCloser row (bit_and y.adds near) (suc d))
