use Rattle.std.proofs.Common.{ℕ, List, subst}
use Rattle.std.proofs.lemmas.Bool.Decides.{not_from_Decides}
use Rattle.book.specs.Views.{task}
use Rattle.session.specs.Sessions.{Replies}
use Rattle.session.proofs.Streams.{whole_line}
use Rattle.session.proofs.Session.finish.Goals as goal

pub returns : goal.returns
returns c = λ typed printed f.
    let b = task c.args.self.londex.book.outline in
    let said = subst (λ (l : List ℕ). Replies b l c.reply-answer.result) c.bytes.ensures.bytes c.reply-answer.ensures in
    (_, whole_line b c.args.self.line typed printed c.reply-answer.result (not_from_Decides _ c.is_empty.ensures c.if-is_empty.false) said f, c.in_ok-push_reply.ensures)
