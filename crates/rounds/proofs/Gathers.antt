-- What the loops over the actions of a task gather.
use Rattle.std.proofs.Common.{◌≡◌, ℕ, ◌⊎◌, sym, ap, ◌∙◌, subst, inl, inr, ⊎_elim}
use lib.Bits.{bit_or, or_zero_r}
use Rattle.std.proofs.lemmas.Bool.{cases_eq}
use Rattle.sets.specs.Sets.{In, Meet, Splits}
use Rattle.sets.proofs.Members.{nothing_in, in_or, or_left, or_right, same_members}
use Rattle.model.specs.declared.Action.{Action}
use Rattle.model.specs.Tasks.{Task, action, Has}
use Rattle.model.specs.Plans.{gathered, Disturb}
use Rattle.model.proofs.Moves.{SomeOf, some_of, of_some}

or_assoc : (a b c : ℕ) → bit_or (bit_or a b) c ≡ bit_or a (bit_or b c)
or_assoc a b c =
    same_members (bit_or (bit_or a b) c) (bit_or a (bit_or b c))
    (λ i h. ⊎_elim (λ k. ⊎_elim (λ m. or_left i a (bit_or b c) m) (λ m. or_right i a (bit_or b c) (or_left i b c m)) (in_or i a b k)) (λ k. or_right i a (bit_or b c) (or_right i b c k)) (in_or i (bit_or a b) c h))
    (λ i h. ⊎_elim (λ k. or_left i (bit_or a b) c (or_left i a b k)) (λ k. ⊎_elim (λ m. or_left i (bit_or a b) c (or_right i a b m)) (λ m. or_right i (bit_or a b) c m) (in_or i b c k)) (in_or i a (bit_or b c) h))

-- with what the members that are left give, all that the round gives is there
abbrev pub Whole : (Action → ℕ) → Task → (left round acc : ℕ) → Type 0
Whole part b left round acc = bit_or acc (gathered part 0 b.actions left) ≡ gathered part 0 b.actions round

-- what the actions of a set give, from what they give with one member taken out
module _ (part : Action → ℕ) (b : Task) (left i rest : ℕ) (split : Splits left i rest) where
  abbrev given : ℕ → ℕ
  given s = gathered part 0 b.actions s

  kept : (f : ℕ) → In f (given rest) → In f (given left)
  kept f h =
      let x = some_of part b rest f h in
      of_some part b left f (record { which = x.which; known = x.known; taken = (split.others.only x.which x.taken).0; here = x.here })

  of_i : (f : ℕ) → SomeOf part b left f → In f (given rest) ⊎ (Has b i × In f (part (action b i)))
  of_i f x =
      ⊎_elim (λ e. inr (subst (Has b) e x.known, subst (λ (k : ℕ). In f (part (action b k))) e x.here))
      (λ ne. inl (of_some part b rest f (record { which = x.which; known = x.known; taken = split.others.all x.which (x.taken, ne); here = x.here }))) (cases_eq x.which i)

  module _ (acc round : ℕ) where
    -- one that the book has
    pub gather_in : Has b i → (a : Action) → a ≡ action b i → Whole part b left round acc → Whole part b rest round (bit_or acc (part a))
    gather_in known a is whole =
        or_assoc acc (part a) (given rest)
        ∙ ap (bit_or acc) (same_members (bit_or (part a) (given rest)) (given left)
        (λ f h. ⊎_elim (λ k. of_some part b left f (record { which = i; known = known; taken = split.member; here = subst (λ (c : Action). In f (part c)) is k })) (kept f) (in_or f (part a) (given rest) h))
        (λ f h. ⊎_elim (or_right f (part a) (given rest)) (λ k. or_left f (part a) (given rest) (subst (λ (c : Action). In f (part c)) (sym is) k.1)) (of_i f (some_of part b left f h))))
        ∙ whole

    -- one that the book lacks
    pub gather_out : (Has b i → ⊥) → Whole part b left round acc → Whole part b rest round acc
    gather_out lacks whole =
        ap (bit_or acc) (same_members (given rest) (given left) kept (λ f h. ⊎_elim (λ k. k) (λ k. absurd (lacks k.0)) (of_i f (some_of part b left f h)))) ∙ whole

pub gather_all : (part : Action → ℕ) (b : Task) (left round acc : ℕ) → left ≡ 0 → Whole part b left round acc → acc ≡ gathered part 0 b.actions round
gather_all part b left round acc none whole =
    sym (or_zero_r acc)
    ∙ ap (bit_or acc) (same_members 0 (gathered part 0 b.actions left) (λ f h. absurd (nothing_in f h))
    (λ f h. absurd (let x = some_of part b left f h in nothing_in x.which (subst (λ (n : ℕ). In x.which n) none x.taken))))
    ∙ whole

-- ---- disturbance as two common members

pub disturb_from : (a c : Action) → Meet a.deletes (bit_or c.needs c.adds) ⊎ Meet c.deletes (bit_or a.needs a.adds) → Disturb a c
disturb_from a c m =
    ⊎_elim (λ x. (x.0, inl (x.1, in_or x.0 c.needs c.adds x.2))) (λ x. (x.0, inr (x.1, in_or x.0 a.needs a.adds x.2))) m

pub disturb_to : (a c : Action) → Disturb a c → Meet a.deletes (bit_or c.needs c.adds) ⊎ Meet c.deletes (bit_or a.needs a.adds)
disturb_to a c (f, d) = ⊎_elim (λ x. inl (f, x.0, either c x.1)) (λ x. inr (f, x.0, either a x.1)) d
  where
    either : (x : Action) → In f x.needs ⊎ In f x.adds → In f (bit_or x.needs x.adds)
    either x s = ⊎_elim (λ h. or_left f x.needs x.adds h) (λ h. or_right f x.needs x.adds h) s
