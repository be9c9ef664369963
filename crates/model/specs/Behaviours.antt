-- A sieve of any kind, new, piled or used before, by what it means after whatever it is handed from now on.
use Rattle.std.specs.Prelude.{◌≡◌, ℕ, Bool, true, List, [], ◌∷◌, ◌++◌, Some, None, Option}
use Rattle.model.specs.Sieves.{Subject, Genuine, Standing, Hopeless, HopelessStart, Rules}

-- what is handed to a sieve: a subject at its begin, or a standing that it is told
pub data Handed : Type 0 where
  begin : Subject → Handed
  tell : (state t : ℕ) → Handed

-- what a sieve means at a moment: its subject, and the standings and starts that it drops
pub record Means : Type 0 where
  pub subject : Option Subject
  pub drops_standing : (state t : ℕ) → Bool
  pub drops_start : (state t round : ℕ) → Bool

-- what it means after each list that it could be handed, the oldest first
abbrev pub Behaviour : Type 0
Behaviour = List Handed → Means

-- what a kind's meaning has become when all of the list was handed over
abbrev pub after : {M : Type 0} → Rules M → M → List Handed → M
after rules m [] = m
after rules m (begin x ∷ rest) = after rules (rules.begun m x) rest
after rules m (tell state t ∷ rest) = after rules (rules.told m state t) rest

-- the behaviour of a sieve of this kind and meaning
abbrev pub behaviour : {M : Type 0} → Rules M → M → Behaviour
behaviour rules m handed = record {
  subject = rules.subject (after rules m handed);
  drops_standing = rules.drops_standing (after rules m handed);
  drops_start = rules.drops_start (after rules m handed);
}

-- and behaviours themselves are a kind: each means what it does before anything more is handed over
abbrev pub by_behaviour : Rules Behaviour
by_behaviour = record {
  subject = λ b. (b []).subject;
  drops_standing = λ b. (b []).drops_standing;
  drops_start = λ b. (b []).drops_start;
  begun = λ b x rest. b (begin x ∷ rest);
  told = λ b state t rest. b (tell state t ∷ rest);
}

-- handed over as searches do: genuine subjects, and of the subject that was begun last only standings that are hopeless for it
pub data Fair : Option Subject → List Handed → Type 0 where
  nothing_yet : Fair None []
  began : {last : Option Subject} {handed : List Handed} (x : Subject) → Fair last handed → Genuine x → Fair (Some x) (handed ++ (begin x ∷ []))
  heard : {x : Subject} {handed : List Handed} (state t : ℕ) → Fair (Some x) handed → Standing x state t → Hopeless x state t → Fair (Some x) (handed ++ (tell state t ∷ []))

-- the law of a sieve, of its behaviour: what was begun last is its subject, and all that it drops is hopeless for that
pub record KeepsLaw (sieve : Behaviour) : Type 0 where
  pub subject : (x : Subject) (handed : List Handed) → Fair (Some x) handed → (sieve handed).subject ≡ Some x
  pub standings : (x : Subject) (handed : List Handed) → Fair (Some x) handed → (state t : ℕ) → (sieve handed).drops_standing state t ≡ true → Hopeless x state t
  pub starts : (x : Subject) (handed : List Handed) → Fair (Some x) handed → (state t round : ℕ) → (sieve handed).drops_start state t round ≡ true → HopelessStart x state t round
