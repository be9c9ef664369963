use Rattle.std.proofs.Common.{◌≡◌, ◌-◌, [], ◌∷◌, ◌++◌, cond, drop, sym, subst, ap, ◌∙◌, length-append}
use mathlib.Core.Logic.{∥∥₁_map}
use Rattle.sieve.specs.Subjects.{seen_on}
use Rattle.memory.specs.Memories.{AllLost, newest, remember}
use Rattle.memory.specs.Noting.{remember_lost}
use Rattle.memory.proofs.table.Table.noted.Goals as goal

pub invariant_of-result : goal.invariant_of-result
invariant_of-result c =
    let s = c.args.self in
    let o = seen_on s.seen in
    let k = c.args.told in
    let longer = s.known ++ (k ∷ []) in
    let is : c.push_last.new.self ≡ remember s.known k =
    c.push_last.ensures
    ∙ ap (λ n. drop (n - 128) longer) (sym (length-append s.known (k ∷ [])))
    ∙ ap (λ b. cond b s.known (newest longer)) c.if-has.ensures
    in
    record { lost = ∥∥₁_map s.lost (λ all. subst (AllLost o) (sym is) (remember_lost o s.known k all c.requires)) }
