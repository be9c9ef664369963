-- The walk that a search makes, with what it opens and what it drops.
use Rattle.std.specs.Prelude.{◌≡◌, ℕ, suc, ◌+◌, ◌<◌, ◌≤◌, true, false, ◌⊎◌, List, [], ◌∷◌, Some, None, Option}
use Rattle.sets.specs.Sets.{Part}
use Rattle.model.specs.Plans.{next}
use Rattle.model.specs.Sieves.{Subject, OpenRound, Rules}

-- round is the first open one of the standing from a number on
abbrev pub FirstFrom : Subject → ℕ → ℕ → ℕ → ℕ → Type 0
FirstFrom x state t from round = (from ≤ round) × OpenRound x state t round × ((r : ℕ) → from ≤ r → r < round → OpenRound x state t r → ⊥)

-- none is open from there on
abbrev pub NoneFrom : Subject → ℕ → ℕ → ℕ → Type 0
NoneFrom x state t from = (r : ℕ) → from ≤ r → OpenRound x state t r → ⊥

-- where the walk is: at a standing that it opens, or among the open rounds of one, those from a number on still to be tried
pub data Place : Type 0 where
  at : (state t : ℕ) → Place
  rounds : (state t from : ℕ) → Place

-- From this place, with a sieve of this meaning: what is found, how many standings are opened and how many drops counted, and
-- what the sieve means in the end.
pub data Walk {M : Type 0} (rules : Rules M) (x : Subject) : Place → M → Option (List ℕ) → ℕ → ℕ → M → Type 0 where
  -- an opened standing at the last round ends the walk if it contains the goal; if not, the sieve is told
  reached : {state t : ℕ} {m : M} → t ≡ x.card.rounds → Part x.task.goal state → Walk rules x (at state t) m (Some []) 1 0 m
  missed : {state t : ℕ} {m : M} → t ≡ x.card.rounds → (Part x.task.goal state → ⊥) → Walk rules x (at state t) m None 1 0 (rules.told m state t)
  -- before, its open rounds are tried by ascending number
  opened : {state t o d : ℕ} {m n : M} {out : Option (List ℕ)} → t < x.card.rounds → Walk rules x (rounds state t 0) m out o d n → Walk rules x (at state t) m out (suc o) d n
  -- when all fail, the sieve is told
  exhausted : {state t from : ℕ} {m : M} → NoneFrom x state t from → Walk rules x (rounds state t from) m None 0 0 (rules.told m state t)
  -- a yes to the start question, or to the standing question for the next state, counts one dropped
  dropped : {state t from o d : ℕ} {m n : M} {out : Option (List ℕ)} (round : ℕ) → FirstFrom x state t from round → (rules.drops_start m state t round ≡ true) ⊎ (rules.drops_standing m (next x.task state round) (suc t) ≡ true) → Walk rules x (rounds state t (suc round)) m out o d n → Walk rules x (rounds state t from) m out o (suc d) n
  -- else the next standing is opened, in vain
  failed : {state t from o p d e : ℕ} {m n q : M} {out : Option (List ℕ)} (round : ℕ) → FirstFrom x state t from round → rules.drops_start m state t round ≡ false → rules.drops_standing m (next x.task state round) (suc t) ≡ false → Walk rules x (at (next x.task state round) (suc t)) m None o d n → Walk rules x (rounds state t (suc round)) n out p e q → Walk rules x (rounds state t from) m out (o + p) (d + e) q
  -- or the plan goes on from it
  found : {state t from o d : ℕ} {m n : M} {rest : List ℕ} (round : ℕ) → FirstFrom x state t from round → rules.drops_start m state t round ≡ false → rules.drops_standing m (next x.task state round) (suc t) ≡ false → Walk rules x (at (next x.task state round) (suc t)) m (Some rest) o d n → Walk rules x (rounds state t from) m (Some (round ∷ rest)) o d n
