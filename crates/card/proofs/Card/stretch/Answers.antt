use Rattle.std.proofs.Common.{refl, ⊎_elim, arith}
use Rattle.std.proofs.lemmas.Bool.{cases_lt, false≢true}
use Rattle.model.proofs.Ways.{stretch_long, stretch_cut, stretch_done}
use Rattle.card.specs.Views.{ledger_of}
use Rattle.card.proofs.Card.stretch.Goals as goal

pub returns-then-rounds-gt-MOST_ROUNDS : goal.returns-then-rounds-gt-MOST_ROUNDS
returns-then-rounds-gt-MOST_ROUNDS c = stretch_long (ledger_of c.args.self.now) c.args.rounds (omega arith)

pub returns-then-reaches : goal.returns-then-reaches
returns-then-reaches c = let late = c.if-reaches.ensures.0 refl in stretch_cut (ledger_of c.args.self.now) c.args.rounds late.0 (omega arith) late.1 late.2

pub returns : goal.returns
returns c =
    stretch_done (ledger_of c.args.self.now) c.args.rounds _ (omega arith)
    (λ x a le. false≢true (c.if-reaches.ensures.1 (x, a, le))) refl refl

pub invariant_of-self : goal.invariant_of-self
invariant_of-self c =
    let old = c.args.self.now in
    record {
      short = omega arith;
      fit = old.fit;
      clear = old.clear;
      proper = λ x a. ((old.proper x a).0, ⊎_elim (λ lt. lt) (λ le. absurd (false≢true (c.if-reaches.ensures.1 (x, a, le)))) (cases_lt x.round c.args.rounds));
      once = old.once;
    }
