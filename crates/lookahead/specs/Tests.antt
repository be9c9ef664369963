-- What the goal sieve and the gap sieve drop, as tests of any subject, since the rules of a sieve are functions. They never
-- run; that they decide the relations of the model, for every genuine subject, stands on the contracts of the two sieves.
use Rattle.std.specs.Prelude.{ℕ, zero, suc, ◌+◌, ◌-◌, Bool, false, not, ◌&&◌, ◌||◌, length, ◌==◌, bit_and, count_ones, nat_le, nat_lt}
use Rattle.sets.specs.Sets.{has}
use Rattle.model.specs.Tasks.{Task, action, group}
use Rattle.model.specs.Ledgers.{any}
use Rattle.model.specs.Sieves.{Subject}

-- some number below n passes
unfoldable pub any_below : ℕ → (ℕ → Bool) → Bool
any_below zero p = false
any_below (suc n) p = p n || any_below n p

-- the state has exactly one fact of each group
unfoldable pub standing_test : Task → ℕ → Bool
standing_test b state = not (any_below (length b.groups) (λ g. not (count_ones (bit_and state (group b g)) == 1)))

-- an arc of the group leads from v to w
unfoldable pub arc_test : Task → ℕ → ℕ → ℕ → Bool
arc_test b g v w = (has v (group b g) && has w (group b g)) && any_below (length b.actions) (λ a. has v (action b a).deletes && has w (action b a).adds)

-- some way from v to w has fewer than n arcs
unfoldable pub short : Task → ℕ → ℕ → ℕ → ℕ → Bool
short b g w zero v = false
short b g w (suc n) v = v == w || any_below 64 (λ x. arc_test b g v x && short b g w n x)

-- ---- the goal sieve

-- w is due in a number of rounds that passes
unfoldable pub due_test : Subject → ℕ → ℕ → (ℕ → Bool) → Bool
due_test x t w p = (has w x.task.goal && p (x.card.rounds - t)) || any (λ y. (nat_lt y.action (length x.task.actions) && nat_le t y.round) && (has w (action x.task y.action).needs && p (y.round - t))) x.card.bookings

unfoldable pub late_test : Subject → ℕ → ℕ → Bool
late_test x t v = any_below (length x.task.groups) (λ g. any_below 64 (λ w. (has v (group x.task g) && has w (group x.task g)) && due_test x t w (λ n. not (short x.task g w (n + 1) v))))

-- the goal sieve drops the standing
unfoldable pub goal_test : Subject → (state t : ℕ) → Bool
goal_test x state t = (standing_test x.task state && nat_le t x.card.rounds) && any_below 64 (λ v. has v state && late_test x t v)

-- ---- the gap sieve

-- d is at most the distance, less so many, from a member of p to a member of q in one group
unfoldable pub far_test : Task → (p q less d : ℕ) → Bool
far_test b p q less d = any_below (length b.groups) (λ g. any_below 64 (λ v. any_below 64 (λ w. ((has v (group b g) && has w (group b g)) && (has v p && has w q)) && not (short b g w (d + less) v))))

unfoldable pub meet_test : ℕ → ℕ → Bool
meet_test s t = not (bit_and s t == 0)

-- one of the six rules forbids action c to come d rounds after action a
unfoldable pub ruled_test : Task → (a c d : ℕ) → Bool
ruled_test b a c d =
    ((meet_test (action b a).adds (action b c).deletes && d == 0) || (meet_test (action b a).deletes (action b c).needs && nat_le d 1))
    || ((far_test b (action b a).adds (action b c).adds 1 d || far_test b (action b a).adds (action b c).needs 0 d)
    || (far_test b (action b a).needs (action b c).adds 2 d || far_test b (action b a).needs (action b c).needs 1 d))

unfoldable pub near_test : Subject → ℕ → ℕ → Bool
near_test x t a = nat_lt a (length x.task.actions) && any (λ y. ((nat_le t y.round && nat_lt y.action (length x.task.actions)) && not (a == y.action && y.round == t)) && ruled_test x.task a y.action (y.round - t)) x.card.bookings

-- the gap sieve drops the start
unfoldable pub gap_test : Subject → (state t round : ℕ) → Bool
gap_test x state t round = ((standing_test x.task state && nat_le t x.card.rounds) && nat_lt t x.card.rounds) && any_below 64 (λ a. has a round && near_test x t a)
