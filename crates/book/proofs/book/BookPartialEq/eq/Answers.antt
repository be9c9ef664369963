use Rattle.std.proofs.Common.{rules, ◌≡◌, Decides, Bool, sym, subst}
use Rattle.model.specs.Tasks.{Task}
use Rattle.model.specs.Same.{same_task}
use Rattle.model.proofs.Same.{task_test}
use Rattle.book.specs.Views.{task}
use Rattle.book.proofs.book.BookPartialEq.eq.Goals as goal

decided : (b : Bool) (x y : Task) → b ≡ same_task x y → Decides b (x ≡ y)
decided b x y value = subst (λ (b : Bool). Decides b (x ≡ y)) (sym value) (task_test x y)

pub returns-then-eq-2-clause-decides : goal.returns-then-eq-2-clause-decides
returns-then-eq-2-clause-decides c = decided _ (task c.args.self.now.outline) (task c.args.other.now.outline) (search rules)

pub returns-else-eq-2-clause-decides : goal.returns-else-eq-2-clause-decides
returns-else-eq-2-clause-decides c = decided _ (task c.args.self.now.outline) (task c.args.other.now.outline) (search rules)
