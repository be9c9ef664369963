use Rattle.std.proofs.Common.{Option, sym, subst, ℕ}
use Rattle.londex.specs.Bounds.{Widest}
use Rattle.londex.proofs.Rests.{Done, part_rest}
use Rattle.londex.proofs.Covers.{widest_more}
use Rattle.londex.proofs.bounds.widest.Goals as goal

pub loop-i-preserved : goal.loop-i-preserved
loop-i-preserved g c =
    let R = goal.F-post g c.args.bound in
    let left = c.loop-i.i-iterator.left in
    let rest = c.next.new.self.left in
    let s = c.in-Some.ensures.steps in
    let part = c.loop-i.invariant.0 in (
      part_rest c.args.set left c.in-Some.i rest part s,
      subst (λ (k : Option ℕ). Widest R (Done c.args.set rest) k) (sym c.widen-k.ensures)
          (widest_more R c.args.set left c.in-Some.i rest c.loop-i.k c.bound.result part s c.loop-i.invariant.1 c.bound.ensures),
    )
