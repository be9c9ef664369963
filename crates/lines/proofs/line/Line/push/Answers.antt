use Rattle.std.proofs.Common.{rules, ◌≡◌, [], ◌∷◌, length, sym, ◌∙◌, arith}
use Rattle.std.proofs.lemmas.List.{take_all, take-append-le}
use Rattle.lines.proofs.line.Line.push.Goals as goal

pub returns-else-not-is_full : goal.returns-else-not-is_full
returns-else-not-is_full c =
    let l = c.args.self.now in
    let full : length l ≡ 16 = search rules in
    sym (take-append-le 16 l (c.args.b ∷ []) (omega (arith, full)) ∙ take_all 16 l (omega (arith, full)))
