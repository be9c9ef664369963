use Rattle.std.proofs.Common.{◌≡◌, ◌-◌, ◌^◌, Some}
use Rattle.rounds.specs.Firsts.{past}
use Rattle.search.specs.Courses.{subject_on}
use Rattle.search.proofs.Steps.{SoFar}
use Rattle.search.proofs.visit.+visit.Given as goal

abbrev pub decreases-visit : goal.decreases-visit
decreases-visit g l = (subject_on l.course.now).card.rounds - l.at.t

-- the sieve is kept, the strip untouched, and whatever walk goes on from here is one from the first round on
abbrev pub invariant-loop-round : goal.invariant-loop-round
invariant-loop-round g l =
    let z = g.S.Sieve in
    let x = subject_on l.course in
    (z.kept (z.meaning l.sieve))
    × (z.rules.subject (z.meaning l.sieve) ≡ Some x)
    × (l.strip ≡ l.initial.strip)
    × SoFar z.rules x l.at.state l.at.t (past l.after) (z.meaning l.initial.sieve) l.initial.counts (z.meaning l.sieve) l.counts

abbrev pub decreases-loop-round : goal.decreases-loop-round
decreases-loop-round g l = 2 ^ 64 - past l.after
