-- What holds of every list of calls that alone handle one card from its beginning.
use Rattle.std.specs.Prelude.{◌≡◌, List, [], ◌∷◌, map}
use Rattle.model.specs.Ledgers.{opening, Call, Verdict, Turns, ledger, verdicts}
use Rattle.card.specs.declared.Card.{Card}
use Rattle.card.specs.Views.{ledger_of}

-- a call, and how it ended
pub record Event : Type 0 where
  pub call : Call
  pub verdict : Verdict

-- the card b before the event, and c after it: the relation that the contracts of book, release and stretch promise.
-- A search may stand among the calls: it leaves the card as it was
abbrev pub Step : Card → Event → Card → Type 0
Step b e c = Turns (ledger_of b) e.call e.verdict (ledger_of c)

-- the events, the newest first, have made c of a new card
pub data Handled : List Event → Card → Type 0 where
  new : {c : Card} → ledger_of c ≡ opening → Handled [] c
  next : {events : List Event} {b c : Card} (e : Event) → Handled events b → Step b e c → Handled (e ∷ events) c

-- the card shows the ledger of the calls, and each call ended as the ledger says
abbrev pub EveryList : Type 0
EveryList = (events : List Event) (c : Card) → Handled events c → (ledger_of c ≡ ledger (map (λ e. e.call) events)) × (map (λ e. e.verdict) events ≡ verdicts (map (λ e. e.call) events))
