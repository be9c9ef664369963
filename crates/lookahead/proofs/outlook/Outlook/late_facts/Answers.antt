use Rattle.std.proofs.Common.{rules, tests}
use Rattle.sets.proofs.Gathers.{gathered_marks}
use Rattle.model.specs.Sieves.{Subject, Late}
use Rattle.lookahead.specs.Outlooks.{ahead}
use Rattle.lookahead.specs.Says.{late_small}
use Rattle.lookahead.proofs.outlook.Outlook.late_facts.Goals as goal

pub returns : goal.returns
returns c =
    let o = c.args.self.now in
    let x : Subject = ahead o in
    gathered_marks _ (Late x o.t) 64 c.gather.result (λ v r l call. search (rules, tests)) (λ v late. late_small x c.law.ensures.lawful o.t v late) c.gather.ensures
