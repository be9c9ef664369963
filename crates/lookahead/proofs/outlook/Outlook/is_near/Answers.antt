use Rattle.std.proofs.Common.{rules, tests}
use Rattle.std.proofs.lemmas.Bool.Decides.{Decides-like}
use Rattle.std.proofs.lemmas.Iterator.{cases_from_any, YieldsList-from_slice}
use Rattle.sets.proofs.Chains.{some_decides}
use Rattle.model.specs.Ledgers.{slot}
use Rattle.model.specs.Sieves.{Subject}
use Rattle.lookahead.specs.Outlooks.{ahead}
use Rattle.lookahead.specs.Tables.{Crowded}
use Rattle.lookahead.proofs.Tables.{crowded_near, near_crowded, some_booking}
use Rattle.lookahead.proofs.outlook.Outlook.is_near.Goals as goal

pub returns : goal.returns
returns c =
    let o = c.args.self.now in
    let gaps = o.londex.now.gaps.rows in
    let x : Subject = ahead o in
    let bookings = x.card.bookings in
    let crowds = Crowded x.task gaps o.t c.args.a in
    Decides-like _ (crowded_near x c.law.ensures.lawful o.t gaps c.law.ensures.spaced c.args.a c.requires) (near_crowded x c.law.ensures.lawful o.t gaps c.law.ensures.spaced c.args.a c.requires)
    (some_booking crowds bookings
    (some_decides crowds bookings (slot 0 0)
    (cases_from_any _ _ _ crowds (λ y. crowds y → ⊥) c.any.ensures.ran (YieldsList-from_slice bookings (search rules)) (λ y q k. search (rules, tests)) (λ y q k. search (rules, tests)))))
