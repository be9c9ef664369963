use Rattle.std.specs.Prelude.{ℕ, List, ◌++◌, codes, decimal}
use Rattle.model.specs.declared.counts.Counts.{Counts}

-- what a search opened and dropped, as it is printed
abbrev pub counted : Counts → List ℕ
counted n = codes "opened " ++ (decimal n.opened ++ (codes " dropped " ++ decimal n.dropped))
