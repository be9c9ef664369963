use Rattle.std.proofs.Common.{◌≡◌, ℕ, sym, subst, arith}
use Rattle.std.proofs.lemmas.Result.{err_from_is_err_and}
use Rattle.std.proofs.lemmas.Bool.Decides.{not_from_Decides}
use Rattle.sets.specs.Sets.{Part}
use Rattle.model.proofs.States.{state_first}
use Rattle.book.specs.Views.{task}
use Rattle.card.specs.Views.{ledger_of}
use Rattle.plan_check.proofs.Strips.{at, ClearBefore, goes_on, serves, fails_length, fails_round, fails_goal}
use Rattle.plan_check.proofs.check.Goals as goal

pub returns-then-strip-rounds : goal.returns-then-strip-rounds
returns-then-strip-rounds c =
    let x = c.args in
    fails_length (task x.book.now.outline) (ledger_of x.card.now) x.strip.now (λ long. omega arith)

pub loop-t-init : goal.loop-t-init
loop-t-init c =
    let b = task c.args.book.now.outline in
    (sym (state_first b b.initial c.args.strip.now), λ e lt. absurd (omega arith))

pub returns-in_err-state : goal.returns-in_err-state
returns-in_err-state c =
    let x = c.args in
    let p = err_from_is_err_and c.from_residual.result c.from_residual.ensures.1 in
    rw (p.1, p.2)
    (fails_round (task x.book.now.outline) (ledger_of x.card.now) x.strip.now c.loop-t.t c.loop-t.state c.in_err-state.field-0.0
    (omega arith) (omega arith) c.loop-t.invariant.0 c.loop-t.invariant.1 c.in_err-state.ensures)

pub loop-t-preserved : goal.loop-t-preserved
loop-t-preserved c =
    let x = c.args in
    goes_on (task x.book.now.outline) (ledger_of x.card.now) x.strip.now c.loop-t.t c.loop-t.state c.in_ok-state.state
    (omega arith) c.loop-t.invariant.0 c.loop-t.invariant.1 c.in_ok-state.ensures

pub returns-then-not-is_part : goal.returns-then-not-is_part
returns-then-not-is_part c =
    let x = c.args in
    let b = task x.book.now.outline in
    let l = ledger_of x.card.now in
    let done : c.loop-t.t ≡ c.rounds-rounds.result = omega arith in
    let end = subst (λ (n : ℕ). (c.loop-t.state ≡ at b l x.strip.now n) × ClearBefore b l x.strip.now n) done c.loop-t.invariant in
    fails_goal b l x.strip.now c.rounds-rounds.result c.rounds-rounds.ensures (omega arith) end.1
    (λ p. not_from_Decides _ c.is_part.ensures c.if-not-is_part.true (subst (λ (s : ℕ). Part b.goal s) (sym end.0) p))

pub returns : goal.returns
returns c =
    let x = c.args in
    let b = task x.book.now.outline in
    serves b (ledger_of x.card.now) x.strip.now c.loop-t.t (omega arith) c.law.ensures (omega arith) c.loop-t.invariant.1
    (subst (λ (s : ℕ). Part b.goal s) c.loop-t.invariant.0 (c.is_part.ensures.0 c.if-not-is_part.false))
