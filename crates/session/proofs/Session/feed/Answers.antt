use Rattle.std.proofs.Common.{ℕ, List, ◌++◌, string_bytes, ap, ◌∙◌, subst}
use Rattle.std.proofs.lemmas.List.{take_all}
use Rattle.londex.specs.declared.londex.Londex.{Londex}
use Rattle.book.specs.Views.{task}
use Rattle.session.specs.Sessions.{Follows}
use Rattle.session.proofs.Streams.{feed_more}
use Rattle.session.proofs.Session.feed.Goals as goal

pub loop-b-preserved : goal.loop-b-preserved
loop-b-preserved c = (
  c.take.ensures.tables ∙ c.loop-b.invariant.0,
  λ typed printed f.
      feed_more (task c.loop-b.self.londex.book.outline) (task c.take.new.self.londex.book.outline) (ap (λ (x : Londex). task x.book.outline) c.take.ensures.tables)
      c.args.block.now c.loop-b.b-index c.loop-b-test.true c.loop-b.self.line c.take.new.self.line typed printed
      (string_bytes c.args.out.now) (string_bytes c.loop-b.out) (string_bytes c.take.new.out) c.in_ok-take.ensures.takes (c.loop-b.invariant.1 typed printed f),
)

pub returns : goal.returns
returns c = record {
  tables = c.loop-b.invariant.0;
  follows = λ typed printed f.
      let r = c.loop-b.invariant.1 typed printed f in
      (r.0, subst (λ (t : List ℕ). Follows (task c.loop-b.self.londex.book.outline) c.loop-b.self.line (typed ++ t) (printed ++ r.0)) (take_all _ _ c.loop-b-test.false) r.1, r.2);
}
