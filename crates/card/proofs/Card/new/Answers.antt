use Rattle.model.proofs.Ledgers.{turns_computed}
use Rattle.card.proofs.Every.{every_list}
use Rattle.card.proofs.Card.new.Goals as goal

pub returns : goal.returns
returns c = record { fresh = λ i. record { rounds = 0; bookings = c.none.ensures.listed i }; computed = turns_computed; law = every_list }
