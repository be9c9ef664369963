use Rattle.book.specs.Views.{task}
use Rattle.londex.specs.Tables.{at}
use Rattle.londex.specs.Ways.{graph}
use Rattle.londex.proofs.Exists.{facts_short, grouped_from, charted_from}
use Rattle.londex.proofs.Rules.{turned}
use Rattle.londex.proofs.chart.Chart.law.Goals as goal

pub returns : goal.returns
returns c =
    let s = c.args.self.now in
    let b = task s.book.now.outline in
    let ok = c.law.ensures.lawful in
    let grouped = grouped_from b ok (graph s.groups) s.grouped in
    let charted = charted_from b ok s.distances.now.rows s.charted in
    record {
      lawful = ok;
      grouped = grouped;
      charted = charted;
      shorter = λ w v small h. facts_short b ok v w (at s.distances.now.rows v w) (charted v w (turned b w v ((grouped w small).only v h)));
    }
