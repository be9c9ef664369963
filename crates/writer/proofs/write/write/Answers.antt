use Rattle.std.proofs.Common.{rules, ◌≡◌, List, ◌++◌, ℕ, length, take, drop, subst, ap, ◌∙◌}
use Rattle.std.proofs.lemmas.List.{take_at}
use Rattle.reader.specs.Written.{written}
use Rattle.reader.specs.Reads.{Reads}
use Rattle.reader.proofs.Acceptance.{reads_back}
use Rattle.writer.proofs.write.write.Goals as goal

pub returns-clause-back : goal.returns-clause-back
returns-clause-back c r reads =
    let file = written c.args.book.now.outline in
    let n = c.file_length-n.result in
    let is : c.copy_from_slice.new.self ≡ file = search rules in
    let long : length file ≡ n = search rules in
    reads_back c.args.book.now r (subst (λ (l : List ℕ). Reads l r) (ap (λ (l : List ℕ). take n (l ++ drop n c.args.out.now)) is ∙ take_at file (drop n c.args.out.now) n long) reads)
