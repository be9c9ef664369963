use Rattle.std.proofs.Common.{ℕ, rules, tests, arith}
use Rattle.sets.specs.Sets.{In}
use Rattle.sets.proofs.Members.{in_below}
use Rattle.sets.proofs.Finds.{lowest_found}
use Rattle.plan_check.proofs.finders.missing_booking.Goals as goal

pub returns : goal.returns
returns c =
    let missing = λ (a : ℕ). In a c.args.booked × (In a c.args.round → ⊥) in
    lowest_found _ _ _ _ missing missing c.find.ensures.ran (λ a t q k. search (rules, tests)) (λ a _ _ h. h) (λ a h. (omega arith, in_below 64 a c.args.booked (search rules) h.0, h))
