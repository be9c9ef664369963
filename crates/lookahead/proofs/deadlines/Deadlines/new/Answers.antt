use Rattle.std.proofs.Common.{◌≡◌, ◌≤◌, ℕ, sym, ◌∙◌, subst, arith, rules}
use Rattle.sets.specs.Sets.{Marks}
use Rattle.sets.proofs.Chains.{made_each}
use Rattle.model.specs.Sieves.{Late}
use Rattle.book.specs.declared.book.Book.{Book}
use Rattle.card.specs.declared.Card.{Card}
use Rattle.sieve.specs.Subjects.{subject_of}
use Rattle.lookahead.specs.Tables.{Lates}
use Rattle.lookahead.proofs.deadlines.Deadlines.new.Goals as goal

pub invariant_of-result : goal.invariant_of-result
invariant_of-result c =
    let card = c.args.card.now in
    let table = c.from_fn.result in
    let late : Lates (subject_of c.new-londex.result.book card) table = λ t h.
    made_each _ _ (λ (t s : ℕ). t ≤ (subject_of c.new-londex.result.book card).card.rounds → Marks (Late (subject_of c.new-londex.result.book card) t) s) _ 0 (λ t s q call. search rules) 33 c.from_fn.ensures.items t (omega (arith, c.law.ensures.short, h)) h
    in
    let same : c.new-londex.result.book ≡ c.new.result.book = c.new-londex.ensures ∙ sym c.new.ensures.book in
    let seen : Lates (subject_of c.new.result.book c.new.result.card) table =
    subst (λ (k : Card). Lates (subject_of c.new.result.book k) table) (sym c.new.ensures.card)
    (subst (λ (b : Book). Lates (subject_of b card) table) same late)
    in
    record { marked = ∣ seen ∣₁ }
