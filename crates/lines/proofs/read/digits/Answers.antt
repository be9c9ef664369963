use Rattle.std.proofs.Common.{rules, ◌≡◌, length, get_or, sym, ⊎_elim, arith}
use Rattle.std.proofs.lemmas.Bool.{eqb-true}
use Rattle.lines.proofs.Numbers.{some, decimal_long, decimal_front, decimal_digits, read_all}
use Rattle.lines.proofs.read.digits.Goals as goal
use Rattle.lines.proofs.read.digits.Goals.{then-is_empty-via-then-is_empty, then-is_empty-via-else-is_empty+then-s-gt-MOST_DIGITS}

pub returns-then-is_empty : goal.returns-then-is_empty
returns-then-is_empty c = λ n h.
    let l = decimal_long c.args.s.now n h in
    elim c.then-is_empty.branch [ then-is_empty-via-then-is_empty w ↦ omega (arith, eqb-true _ _ (sym w.if-is_empty.ensures)) | then-is_empty-via-else-is_empty+then-s-gt-MOST_DIGITS w ↦ omega (arith, w.if-s-gt-MOST_DIGITS.true) ]

pub returns-then-s-gt1 : goal.returns-then-s-gt1
returns-then-s-gt1 c = λ n h. omega (arith, decimal_front c.args.s.now n h c.if-s-eq48.true)

pub returns-then-not-is_ascii_digit : goal.returns-then-not-is_ascii_digit
returns-then-not-is_ascii_digit c = λ n h.
    let d = decimal_digits c.args.s.now n h c.loop-b.b-index c.loop-b-test.true in
    search (rules, d, c.if-not-is_ascii_digit.ensures)

pub returns : goal.returns
returns c =
    read_all c.loop-b.n c.loop-b.b-index c.args.s.now c.loop-b-test.false (omega arith) (some c.args.s.now c.if-is_empty.ensures) c.if-s-gt-MOST_DIGITS.false lead c.loop-b.invariant.0 c.loop-b.invariant.1
  where
    lead : get_or c.args.s.now 0 0 ≡ 48 → length c.args.s.now ≡ 1
    lead z = ⊎_elim (λ w. omega (arith, w.1, some c.args.s.now c.if-is_empty.ensures)) (λ w. absurd (w z)) c.else-s-eq48.either
