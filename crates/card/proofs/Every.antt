-- A card that was handled by a list of calls shows the ledger of the calls.
use Rattle.std.proofs.Common.{◌∷◌, refl, ap, ◌∙◌}
use Rattle.model.specs.Ledgers.{after, verdict}
use Rattle.model.proofs.Ledgers.{turns_from}
use Rattle.card.specs.Views.{ledger_of}
use Rattle.card.specs.Law.{new, next, EveryList}

pub every_list : EveryList
every_list events c (new e) = (e, refl)
every_list events c (next {events = old} {b = b} e h step) =
    let was = every_list old b h in
    let turn = turns_from (ledger_of b) e.call e.verdict (ledger_of c) step in (
      turn.1 ∙ ap (λ l. after l e.call) was.0,
      λ i. (turn.0 ∙ ap (λ l. verdict l e.call) was.0) i ∷ was.1 i,
    )
