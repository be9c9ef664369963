use Rattle.std.proofs.Common.{rules, tests, arith}
use Rattle.sets.specs.Sets.{Marks}
use Rattle.sets.proofs.Chains.{made_each}
use Rattle.book.specs.Views.{task}
use Rattle.rounds.specs.Tables.{Clash, Breaks}
use Rattle.rounds.proofs.masks.Masks.new.Goals as goal

pub invariant_of-result-clause-clash : goal.invariant_of-result-clause-clash
invariant_of-result-clause-clash c =
    let row = made_each _ _ (λ i row. Marks (Clash (task c.args.book.outline) i) row) _ 0 (λ i row q k. search (rules, tests)) 64 c.from_fn.ensures.items in
    ∣ (λ i h. row i (omega (arith, h, c.law.ensures.lawful.few_actions))) ∣₁

pub invariant_of-result-clause-breach : goal.invariant_of-result-clause-breach
invariant_of-result-clause-breach c =
    let row = made_each _ _ (λ k row. Marks (Breaks (task c.args.book.outline) k) row) _ 0 (λ k row q call. search (rules, tests)) 8 c.from_fn-2.ensures.items in
    ∣ (λ k h. row k (omega (arith, h, c.law.ensures.lawful.few_bars))) ∣₁
