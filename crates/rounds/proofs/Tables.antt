-- What the tables of a book say.
use Rattle.std.proofs.Common.{◌≡◌, ℕ, ◌<◌, ◌≤◌, Bool, Decides, List, length, get_or, sym, subst, inl, inr, ⊎_elim, arith}
use mathlib.Core.Logic.{∥∥₁_elim}
use mathlib.Core.HLevel.{⊥_prop}
use Rattle.std.proofs.lemmas.List.{get_or_past}
use Rattle.std.specs.List.{zip}
use Rattle.std.proofs.lemmas.Bool.{cases_lt}
use Rattle.std.proofs.lemmas.Slice.Zip.{length-zip, get_or-zip}
use Rattle.sets.specs.Sets.{In, Part, Meet}
use Rattle.sets.proofs.Members.{nothing_in}
use Rattle.model.specs.declared.Action.{Action}
use Rattle.model.specs.Tasks.{Task, idle, action, bar, Has}
use Rattle.model.specs.Plans.{Disturb}
use Rattle.rounds.specs.Joins.{Joins}
use Rattle.rounds.specs.Tables.{Clashes, Breakers}
use Rattle.rounds.specs.Nodes.{Doomed}

-- ---- disturbance

pub disturb_sym : (a c : Action) → Disturb a c → Disturb c a
disturb_sym a c (f, d) = (f, ⊎_elim inr inl d)

-- an action that the book lacks disturbs none
pub disturb_known : (b : Task) (a : Action) (c : ℕ) → Disturb a (action b c) → Has b c
disturb_known b a c d = ⊎_elim (λ h. h) (λ past. absurd (calm (subst (Disturb a) (get_or_past b.actions c idle past) d))) (cases_lt c (length b.actions))
  where
    calm : Disturb a idle → ⊥
    calm (f, s) = ⊎_elim (λ x. ⊎_elim (nothing_in f) (nothing_in f) x.1) (λ x. nothing_in f x.0) s

-- ---- the rows of the tables

module _ (b : Task) (t : List ℕ) (clashes : ∥ Clashes b t ∥₁) (i : ℕ) (known : Has b i) where
  pub quiet : (j : ℕ) → (In j (get_or t i 0) → ⊥) → (i ≡ j → ⊥) → Disturb (action b i) (action b j) → ⊥
  quiet j out ne d = ∥∥₁_elim clashes ⊥_prop (λ m. out ((m i known).all j (disturb_known b (action b i) j d, ne, d)))

  pub not_beside : (j : ℕ) → In j (get_or t i 0) → ((i ≡ j → ⊥) → Disturb (action b i) (action b j) → ⊥) → ⊥
  not_beside j here calm = ∥∥₁_elim clashes ⊥_prop (λ m. let w = (m i known).only j here in calm w.1 w.2)

  -- an action can join a set if it is ready, and its row and the set have no member in common
  pub joins_by : (state s : ℕ) {r : Bool} → Decides r (Part (action b i).needs state × (Meet (get_or t i 0) s → ⊥)) → Decides r (Joins b state s i)
  joins_by state s d = (
    λ e. let w = d.0 e in record { known = known; ready = w.0; calm = λ c h. quiet c (λ m. w.1 (c, m, h)) },
    λ j. d.1 (j.ready, λ m. not_beside m.0 m.1 (j.calm m.0 m.2)),
  )

-- a bar that stands in the state, beside a row that has no free action
abbrev pub Stuck : ℕ → ℕ → ℕ × ℕ → Type 0
Stuck state free (bar, row) = Part bar state × (Meet row free → ⊥)

module _ (b : Task) (t : List ℕ) (breakers : ∥ Breakers b t ∥₁) (many : length b.bars ≤ length t) (state free : ℕ) where
  beside : (k : ℕ) → k < length b.bars → get_or (zip b.bars t) k (0, 0) ≡ (bar b k, get_or t k 0)
  beside k h = get_or-zip b.bars t k (0, 0) h (omega (arith, h, many))

  within : (k : ℕ) → k < length (zip b.bars t) → k < length b.bars
  within k h = omega (arith, h, length-zip b.bars t)

  pub doomed_by : {r : Bool} → Decides r ((k : ℕ) × (k < length (zip b.bars t)) × Stuck state free (get_or (zip b.bars t) k (0, 0))) → Decides r ((k : ℕ) × Doomed b state free k)
  doomed_by d = (
    λ e.
        let w = d.0 e in
        let h = within w.0 w.1 in
        let s = subst (Stuck state free) (beside w.0 h) w.2 in (
          w.0,
          record {
            within = h;
            stands = s.0;
            stuck = λ j here breaks. ∥∥₁_elim breakers ⊥_prop (λ m. s.1 (j, (m w.0 h).all j breaks, here));
          },
        ),
    λ (k, doomed).
        d.1 (
          k,
          omega (arith, doomed.within, many, length-zip b.bars t),
          subst (Stuck state free) (sym (beside k doomed.within)) (doomed.stands, λ (j, row, here). ∥∥₁_elim breakers ⊥_prop (λ m. doomed.stuck j here ((m k doomed.within).only j row))),
        ),
  )
