-- What a search answers, in the words of the claim.
use Rattle.std.specs.Prelude.{ℕ, Ok, Err, Result}
use Rattle.model.specs.Claims.{Answer, turned_down, none, plan}
use Rattle.search.specs.declared.outcome.Outcome.{Outcome}
use Rattle.search.specs.declared.outcome.Outcome.TheVariants.{NoPlan, Plan}
use Rattle.search.specs.declared.outcome.Refusal.{Refusal}
use Rattle.search.specs.declared.outcome.Refusal.TheVariants.{UnknownBooking, ShortStrip}

-- the number of a refusal
abbrev pub number : Refusal → ℕ
number UnknownBooking = 19
number ShortStrip = 20

abbrev pub answer_of : Result Outcome Refusal → Answer
answer_of (Ok (NoPlan counts)) = none counts.opened counts.dropped
answer_of (Ok (Plan counts)) = plan counts.opened counts.dropped
answer_of (Err e) = turned_down (number e)
