use Rattle.std.proofs.Common.{ℕ, Option, sym, ap, ◌∙◌, subst, rules}
use lib.Bits.{bit_and}
use Rattle.model.specs.Gaps.{Closer}
use Rattle.londex.specs.Bounds.{Covers, SomeCloser, KeptOff, wider, lowered}
use Rattle.londex.specs.Ways.{entry}
use Rattle.londex.proofs.Covers.{covers_both, covers_lowered, covers_closer, widest_covers}
use Rattle.londex.proofs.chart.bound.Goals as goal

pub returns : goal.returns
returns c =
    let row = entry c.args.row.now in
    let k = c.alone.result in
    let needed = c.widest-needed.result in
    let added = c.widest.result in
    let needs : Covers (SomeCloser row (bit_and c.args.y.needs c.args.near)) needed =
    widest_covers _ _ (λ (w : ℕ). Closer (row w)) needed (λ w r h call. subst (Covers (Closer (row w))) (search rules) (covers_closer (row w))) c.widest-needed.ensures
    in
    let adds : Covers (SomeCloser row (bit_and c.args.y.adds c.args.near)) added =
    widest_covers _ _ (λ (w : ℕ). Closer (row w)) added (λ w r h call. subst (Covers (Closer (row w))) (search rules) (covers_closer (row w))) c.widest.ensures
    in
    subst (λ (r : Option ℕ). Covers (KeptOff c.args.x c.args.y c.args.near row) r) (sym (c.widen-2.ensures ∙ ap (wider k) (c.widen.ensures ∙ ap (wider needed) c.lower-added.ensures)))
    (covers_both k (wider needed (lowered added)) c.alone.ensures (covers_both needed (lowered added) needs (covers_lowered added adds)))
