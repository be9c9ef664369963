-- What is not missed holds, and which actions a book has.
use Rattle.std.proofs.Common.{ℕ, length, ⊎_elim, subst, arith}
use Rattle.std.proofs.lemmas.List.{get_or_past}
use Rattle.std.proofs.lemmas.Bool.{cases_lt}
use Rattle.sets.specs.Sets.{In, Part}
use Rattle.sets.proofs.Members.{out_or_in, nothing_in}
use Rattle.model.specs.declared.Action.{Action}
use Rattle.model.specs.Tasks.{Task, idle, action, Has}
use Rattle.model.specs.Plans.{Disturb}
use Rattle.rounds.proofs.Tables.{disturb_sym, disturb_known}

pub in_stable : (i s : ℕ) → ((In i s → ⊥) → ⊥) → In i s
in_stable i s nn = ⊎_elim (λ out. absurd (nn (λ h. omega arith))) (λ h. h) (out_or_in i s)

pub part_stable : (a b : ℕ) → ((Part a b → ⊥) → ⊥) → Part a b
part_stable a b nn i h = in_stable i b (λ n. nn (λ p. n (p i h)))

-- an action that the book lacks needs nothing
pub unmet_known : (b : Task) (a state : ℕ) → (Part (action b a).needs state → ⊥) → Has b a
unmet_known b a state unmet =
    ⊎_elim (λ h. h) (λ past. absurd (unmet (λ i h. absurd (nothing_in i (subst (λ (x : Action). In i x.needs) (get_or_past b.actions a idle past) h))))) (cases_lt a (length b.actions))

-- and disturbs none
pub disturbs_known : (b : Task) (a c : ℕ) → Disturb (action b a) (action b c) → Has b a
disturbs_known b a c d = disturb_known b (action b c) a (disturb_sym (action b a) (action b c) d)
