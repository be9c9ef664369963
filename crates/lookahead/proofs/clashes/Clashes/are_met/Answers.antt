use Rattle.std.proofs.Common.{◌<◌, ◌≤◌, ◌∙◌, arith}
use Rattle.std.proofs.lemmas.Bool.Decides.{not_from_Decides}
use Rattle.model.specs.Sieves.{Subject, Genuine}
use Rattle.lookahead.specs.Views.{seen_as}
use Rattle.lookahead.proofs.Asked.{gap_past, gap_calm, gap_near}
use Rattle.lookahead.proofs.clashes.Clashes.are_met.Goals as goal

pub returns-then-at-rounds : goal.returns-then-at-rounds
returns-then-at-rounds c =
    let x : Subject = seen_as c.args.self.now.seen in
    let ok : Genuine x = record { lawful = c.law.ensures.lawful; sound = c.law-2.ensures } in
    let past : x.card.rounds ≤ c.args.at.t = omega (arith, c.rounds.ensures, c.if-at-rounds.true) in gap_past x ok c.args.at.state c.args.at.t c.args.round past

pub returns-then-meets : goal.returns-then-meets
returns-then-meets c =
    let d = c.args.self.now in
    let x : Subject = seen_as d.seen in
    let ok : Genuine x = record { lawful = c.law.ensures.lawful; sound = c.law-2.ensures } in
    let coming : c.args.at.t < x.card.rounds = omega (arith, c.rounds.ensures, c.if-at-rounds.false) in
    gap_near x ok c.args.at.state c.args.at.t c.args.round d.near d.marked coming c.is_standing.result (c.meets.ensures.0 c.if-meets.true) c.is_standing.ensures

pub returns-else-meets : goal.returns-else-meets
returns-else-meets c =
    let d = c.args.self.now in
    let x : Subject = seen_as d.seen in
    let ok : Genuine x = record { lawful = c.law.ensures.lawful; sound = c.law-2.ensures } in
    let coming : c.args.at.t < x.card.rounds = omega (arith, c.rounds.ensures, c.if-at-rounds.false) in
    c.if-meets.false ∙ gap_calm x ok c.args.at.state c.args.at.t c.args.round d.near d.marked coming (not_from_Decides _ c.meets.ensures c.if-meets.false)
