use Rattle.std.proofs.Common.{rules, tests}
use Rattle.model.specs.Tasks.{Has}
use Rattle.book.specs.Views.{task}
use Rattle.rounds.specs.Tables.{Clash}
use Rattle.sets.proofs.Walks.{all_decides}
use Rattle.rounds.proofs.Tables.{disturb_known}
use Rattle.rounds.proofs.steps.joins.Goals as goal

pub returns-then-ready : goal.returns-then-ready
returns-then-ready c =
    let b = task c.args.book.now.outline in
    let known : Has b c.args.i = search rules in
    let calm = all_decides _ _ (λ j. Clash b c.args.i j → ⊥) (λ j r q k. search (rules, tests)) c.args.s _ _ (search rules) c.all.ensures.ran in (
      λ e. record { known = known; ready = search rules; calm = λ j h ne d. calm.0 e j h (disturb_known b _ j d, ne, d) },
      λ joins. calm.1 (λ j h clash. joins.calm j h clash.1 clash.2),
    )
