use Rattle.model.proofs.Laws.{lawful_from}
use Rattle.book.proofs.book.Book.law.Goals as goal

pub returns : goal.returns
returns c = record { lawful = lawful_from _ c.args.self.now.lawful }
