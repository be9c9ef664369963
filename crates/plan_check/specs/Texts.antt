-- How a flaw is printed.
use Rattle.std.specs.Prelude.{ℕ, List, [], ◌++◌, codes, decimal}
use Rattle.plan_check.specs.declared.flaws.Flaw.{Flaw}
use Rattle.plan_check.specs.declared.flaws.Flaw.TheVariants.{StripLength, UnknownAction, MissingBooking, UnmetNeed, Disturbance, BarAfter, GoalMissed}
use Rattle.plan_check.specs.Flaws.{flaw_number}

-- the round, and an action of it
abbrev pub action_place : (t a : ℕ) → List ℕ
action_place t a = codes " round " ++ (decimal t ++ (codes " action " ++ decimal a))

-- the round, and what in it is at fault
abbrev pub place : Flaw → List ℕ
place StripLength = []
place (UnknownAction t a) = action_place t a
place (MissingBooking t a) = action_place t a
place (UnmetNeed t a) = action_place t a
place (Disturbance t a c) = codes " round " ++ (decimal t ++ (codes " actions " ++ (decimal a ++ (codes " " ++ decimal c))))
place (BarAfter t i) = codes " round " ++ (decimal t ++ (codes " bar " ++ decimal i))
place (GoalMissed t) = codes " round " ++ decimal t

-- its number, and the place
abbrev pub told : Flaw → List ℕ
told f = codes "no " ++ (decimal (flaw_number f) ++ place f)
