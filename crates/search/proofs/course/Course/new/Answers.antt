use Rattle.std.proofs.Common.{rules, arith}
use Rattle.model.specs.Bookings.{BookedFor}
use Rattle.card.specs.Views.{ledger_of}
use Rattle.sets.proofs.Chains.{made_each}
use Rattle.search.proofs.course.Course.new.Goals as goal

pub invariant_of-result : goal.invariant_of-result
invariant_of-result c =
    let booked = made_each _ _ (λ t must. BookedFor (ledger_of c.args.card.now).bookings t must) _ 0 (λ t must q k. search rules) 32 c.from_fn.ensures.items in
    record { charged = ∣ (λ t early. booked t (omega (arith, early))) ∣₁ }
