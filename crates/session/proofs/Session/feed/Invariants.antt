use Rattle.std.proofs.Common.{◌≡◌, ℕ, List, ◌++◌, take, string_bytes}
use Rattle.book.specs.Views.{task}
use Rattle.session.specs.Sessions.{Follows}
use Rattle.session.proofs.Session.feed.Given as goal

abbrev pub invariant-loop-b : goal.invariant-loop-b
invariant-loop-b l =
    (l.self.londex ≡ l.initial.self.londex)
    × ((typed printed : List ℕ) → Follows (task l.initial.self.londex.book.outline) l.initial.self.line typed printed
    → (more : List ℕ) × Follows (task l.self.londex.book.outline) l.self.line (typed ++ take l.b-index l.block) (printed ++ more) × (string_bytes l.out ≡ string_bytes l.initial.out ++ more))
