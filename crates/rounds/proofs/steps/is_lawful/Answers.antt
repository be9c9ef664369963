use Rattle.std.proofs.Common.{sym, subst}
use Rattle.model.specs.Plans.{Clear}
use Rattle.book.specs.Views.{task}
use Rattle.rounds.proofs.Nodes.{loose_round}
use Rattle.rounds.proofs.steps.is_lawful.Goals as goal

pub returns-then-is_loose : goal.returns-then-is_loose
returns-then-is_loose c =
    let b = task c.args.book.now.outline in
    let is = c.next_state.ensures in (
      λ e. loose_round b c.args.state c.args.round (c.is_loose.ensures.0 c.if-is_loose.true) (subst (Clear b) is (c.is_clear.ensures.0 e)),
      λ round. c.is_clear.ensures.1 (subst (Clear b) (sym is) round.clear),
    )
