use Rattle.std.proofs.Common.{◌≡◌, ℕ, ◌<◌, List, length, slice_index_or, None, Option, ap, sym, arith, rules}
use Rattle.std.proofs.lemmas.Option.{get_or_from_slice_get}
use Rattle.sets.proofs.Chains.{made_each}
use Rattle.model.specs.declared.Action.{Action}
use Rattle.model.specs.Tasks.{idle, action}
use Rattle.book.specs.Views.{task}
use Rattle.londex.specs.Bounds.{Covers, KeptOff}
use Rattle.londex.specs.Ways.{graph, entry}
use Rattle.londex.proofs.Rules.{kept_covers, gap_spared}
use Rattle.londex.proofs.chart.Chart.gaps_from.Goals as goal

pub returns : goal.returns
returns c i ha hc =
    let s = c.args.self.now in
    let b = task s.book.now.outline in
    let a = c.args.a in
    let x = c.in-Some.x.now in
    let near = c.led_to-near.result in
    let waits = entry c.waits_after-waits.result in
    let actions = c.actions-actions.result.now in
    let y = slice_index_or actions i idle in
    let known : i < length actions = omega (arith, hc, ap length c.actions-actions.ensures.actions) in
    let bound : Covers (KeptOff x y near waits) (entry c.from_fn-row.result i) =
    made_each _ _ (λ (k : ℕ) (r : Option ℕ). k < length actions → Covers (KeptOff x (slice_index_or actions k idle) near waits) r) _ None (λ k r q call. search rules) 64 c.from_fn-row.ensures.items i (omega (arith, known, c.actions-actions.ensures.few)) known
    in
    let xe : action b a ≡ x = search (rules, get_or_from_slice_get) in
    let ye : action b i ≡ y = ap (λ (xs : List Action). slice_index_or xs i idle) (sym c.actions-actions.ensures.actions) in
    let row_long : a < length c.from_fn-row.result = search rules in
    gap_spared b a i c.from_fn-row.result c.spare.result row_long c.spare.ensures
    (kept_covers b c.law.ensures.lawful (graph s.groups) c.law.ensures.grouped s.distances.now.rows c.law.ensures.charted a i near x y waits (entry c.from_fn-row.result i) ha xe ye c.led_to-near.ensures c.waits_after-waits.ensures bound)
