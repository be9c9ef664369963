use Rattle.std.proofs.Common.{rules, tests}
use Rattle.sets.proofs.Gathers.{gathered_marks}
use Rattle.model.specs.Tasks.{Has}
use Rattle.book.specs.Views.{task}
use Rattle.rounds.specs.Joins.{Joins}
use Rattle.rounds.proofs.Tables.{joins_by}
use Rattle.rounds.proofs.finder.joining.Goals as goal

pub returns : goal.returns
returns c =
    let masks = c.args.masks.now in
    let b = task masks.book.outline in
    gathered_marks _ (Joins b c.args.state c.args.s) _ _
    (λ i r below call. let known : Has b i = search rules in joins_by b masks.clashes masks.clash i known c.args.state c.args.s (search (rules, tests)))
    (λ i j. let known = j.known in search rules) c.gather.ensures
