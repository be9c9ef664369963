use Rattle.std.proofs.Common.{◌<◌, ◌≤◌, ◌∙◌, arith}
use Rattle.std.proofs.lemmas.Bool.Decides.{not_from_Decides}
use Rattle.model.specs.Sieves.{Subject, Genuine}
use Rattle.lookahead.specs.Views.{seen_as}
use Rattle.lookahead.proofs.Asked.{goal_past, goal_calm, goal_late}
use Rattle.lookahead.proofs.deadlines.Deadlines.are_missed.Goals as goal

pub returns-then-at-rounds : goal.returns-then-at-rounds
returns-then-at-rounds c =
    let x : Subject = seen_as c.args.self.now.seen in
    let ok : Genuine x = record { lawful = c.law.ensures.lawful; sound = c.law-2.ensures } in
    let past : x.card.rounds < c.args.at.t = omega (arith, c.rounds.ensures, c.if-at-rounds.true) in goal_past x ok c.args.at.state c.args.at.t past

pub returns-then-meets : goal.returns-then-meets
returns-then-meets c =
    let d = c.args.self.now in
    let x : Subject = seen_as d.seen in
    let ok : Genuine x = record { lawful = c.law.ensures.lawful; sound = c.law-2.ensures } in
    let due : c.args.at.t ≤ x.card.rounds = omega (arith, c.rounds.ensures, c.if-at-rounds.false) in
    goal_late x ok c.args.at.state c.args.at.t d.late d.marked due c.is_standing.result (c.meets.ensures.0 c.if-meets.true) c.is_standing.ensures

pub returns-else-meets : goal.returns-else-meets
returns-else-meets c =
    let d = c.args.self.now in
    let x : Subject = seen_as d.seen in
    let ok : Genuine x = record { lawful = c.law.ensures.lawful; sound = c.law-2.ensures } in
    let due : c.args.at.t ≤ x.card.rounds = omega (arith, c.rounds.ensures, c.if-at-rounds.false) in
    c.if-meets.false ∙ goal_calm x ok c.args.at.state c.args.at.t d.late d.marked due (not_from_Decides _ c.meets.ensures c.if-meets.false)
