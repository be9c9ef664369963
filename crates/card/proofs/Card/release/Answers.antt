use Rattle.std.proofs.Common.{suc, ◌∷◌, ◌++◌, take, drop, sym, refl, ap, ◌∙◌, subst, arith}
use lib.Seq.{split_at}
use Rattle.model.specs.Ledgers.{slot}
use Rattle.model.proofs.Ways.{release_absent, release_done}
use Rattle.model.specs.Bookings.{Proper, Once}
use Rattle.card.specs.Tables.{listed}
use Rattle.card.specs.Views.{ledger_of}
use Rattle.card.proofs.Fronts.{front_from}
use Rattle.card.proofs.Keeps.{proper_removed, once_removed}
use Rattle.card.proofs.Card.release.Goals as goal

pub returns-in_default : goal.returns-in_default
returns-in_default c = release_absent (ledger_of c.args.self.now) c.args.action c.args.round c.in_default.ensures

pub returns : goal.returns
returns c =
    let old = c.args.self.now in
    let xs = listed old.bookings in
    let x = slot c.args.action c.args.round in
    let i = c.in-Some.place in
    let here = c.in-Some.ensures in
    release_done (ledger_of old) c.args.action c.args.round _ refl (take i xs) (drop (suc i) xs)
    (split_at xs i (slot 0 0) here.0.0 ∙ ap (λ b. take i xs ++ (b ∷ drop (suc i) xs)) here.0.1)
    c.remove.ensures.listed
    (λ (j, h). let f = front_from i xs x j (omega (arith, here.0.0)) h in here.1 j f.0 (omega (arith, f.0, here.0.0), f.1))
    (i, here.0)

pub invariant_of-self : goal.invariant_of-self
invariant_of-self c =
    let old = c.args.self.now in
    let within = c.in-Some.ensures.0.0 in
    let is = c.remove.ensures.listed in record {
      short = old.short;
      fit = c.remove.ensures.fit;
      clear = c.remove.ensures.clear;
      proper = subst (Proper old.rounds) (sym is) (proper_removed (listed old.bookings) c.in-Some.place within old.rounds old.proper);
      once = subst Once (sym is) (once_removed (listed old.bookings) c.in-Some.place within old.once);
    }
