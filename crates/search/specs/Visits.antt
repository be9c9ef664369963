-- What a visit of a standing does: its walk, what is counted, and what is written on the strip.
use Rattle.std.specs.Prelude.{◌≡◌, ℕ, ◌+◌, Bool, true, false, List, ◌++◌, length, take, drop, Some, None}
use Rattle.model.specs.Sieves.{Subject, Rules}
use Rattle.model.specs.Walks.{Walk, at}
use Rattle.model.specs.Claims.{capped}
use Rattle.model.specs.declared.counts.Counts.{Counts}

-- the strip with p written from t on
abbrev pub written : List ℕ → ℕ → List ℕ → List ℕ
written strip t p = take t strip ++ (p ++ drop (t + length p) strip)

-- o more were opened and d more dropped
pub record Counted (before : Counts) (o d : ℕ) (after : Counts) : Type 0 where
  pub opened : after.opened ≡ capped (before.opened + o)
  pub dropped : after.dropped ≡ capped (before.dropped + d)

-- a plan was found
pub record Found {M : Type 0} (rules : Rules M) (x : Subject) (state t : ℕ) (m : M) (before : Counts) (strip : List ℕ) (n : M) (after : Counts) (left : List ℕ) : Type 0 where
  pub plan : List ℕ
  pub o : ℕ
  pub d : ℕ
  pub walk : Walk rules x (at state t) m (Some plan) o d n
  pub counted : Counted before o d after
  pub wrote : left ≡ written strip t plan

-- none was found
pub record Lost {M : Type 0} (rules : Rules M) (x : Subject) (state t : ℕ) (m : M) (before : Counts) (strip : List ℕ) (n : M) (after : Counts) (left : List ℕ) : Type 0 where
  pub o : ℕ
  pub d : ℕ
  pub walk : Walk rules x (at state t) m None o d n
  pub counted : Counted before o d after
  pub wrote : left ≡ strip

-- a visit that answers r
abbrev pub Did : {M : Type 0} → Rules M → Subject → ℕ → ℕ → M → Counts → List ℕ → Bool → M → Counts → List ℕ → Type 0
Did rules x state t m before strip true n after left = Found rules x state t m before strip n after left
Did rules x state t m before strip false n after left = Lost rules x state t m before strip n after left
