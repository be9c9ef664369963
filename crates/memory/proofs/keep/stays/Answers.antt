use Rattle.std.proofs.Common.{rules, Decides}
use Rattle.std.specs.Bool.{one_answer}
use Rattle.model.specs.Sieves.{Grew}
use Rattle.sieve.specs.Subjects.{subject_of}
use Rattle.memory.specs.Compare.{keeps_just}
use Rattle.memory.proofs.keep.stays.Goals as goal

pub returns-then-rounds-clause-value : goal.returns-then-rounds-clause-value
returns-then-rounds-clause-value c =
    let x = subject_of c.args.former.now.book c.args.former.now.card in
    let y = subject_of c.args.book.now c.args.card.now in
    let grew : Decides c.has_all_of.result (Grew x y) = search rules in
    one_answer _ _ grew (keeps_just x y)
