use Rattle.std.proofs.Common.{◌≡◌, ℕ, ap₂, rules}
use lib.Bits.{bit_or}
use Rattle.sets.specs.Sets.{without, Splits}
use Rattle.model.specs.Tasks.{Has, action}
use Rattle.book.specs.Views.{task}
use Rattle.rounds.proofs.Gathers.{gather_in, gather_out, gather_all}
use Rattle.rounds.proofs.steps.next_state.Goals as goal

pub loop-i-preserved-in-Some-get : goal.loop-i-preserved-in-Some-get
loop-i-preserved-in-Some-get c =
    let b = task c.args.book.now.outline in
    let l = c.loop-i in
    let i = c.in-Some.i in
    let rest = c.next.new.self.left in
    let split : Splits l.i-iterator.left i rest = search rules in
    let known : Has b i = search rules in
    let a = c.in-Some-get.action.now in
    let is : a ≡ action b i = search rules in (
      gather_in (λ a. a.adds) b l.i-iterator.left i rest split l.adds c.args.round known a is l.invariant.0,
      gather_in (λ a. a.deletes) b l.i-iterator.left i rest split l.deletes c.args.round known a is l.invariant.1,
    )

pub loop-i-preserved : goal.loop-i-preserved
loop-i-preserved c =
    let b = task c.args.book.now.outline in
    let l = c.loop-i in
    let i = c.in-Some.i in
    let rest = c.next.new.self.left in
    let split : Splits l.i-iterator.left i rest = search rules in
    let lacks : Has b i → ⊥ = λ known. search rules in (
      gather_out (λ a. a.adds) b l.i-iterator.left i rest split l.adds c.args.round lacks l.invariant.0,
      gather_out (λ a. a.deletes) b l.i-iterator.left i rest split l.deletes c.args.round lacks l.invariant.1,
    )

pub returns : goal.returns
returns c =
    let b = task c.args.book.now.outline in
    let l = c.loop-i in
    let none : l.i-iterator.left ≡ 0 = search rules in
    ap₂ (λ (d a : ℕ). bit_or (without c.args.state d) a) (gather_all (λ a. a.deletes) b l.i-iterator.left c.args.round l.deletes none l.invariant.1)
    (gather_all (λ a. a.adds) b l.i-iterator.left c.args.round l.adds none l.invariant.0)
