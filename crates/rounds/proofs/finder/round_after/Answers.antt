use Rattle.std.proofs.Common.{◌≡◌, ℕ, suc, ◌^◌, ◌≤◌, None, sym, subst, subst₂, rules}
use Rattle.std.proofs.lemmas.Bool.Decides.{not_from_Decides}
use Rattle.sets.proofs.Members.{in_without}
use Rattle.model.proofs.Laws.{lawful_from}
use Rattle.book.specs.Views.{task}
use Rattle.rounds.specs.Firsts.{past, Answered}
use Rattle.rounds.proofs.Nodes.{sound_root, answered, none_loose, none_past}
use Rattle.rounds.proofs.finder.round_after.Goals as goal
use Rattle.rounds.proofs.finder.round_after.Goals.{in-None, in-Some+in_ok-low-in-Some}

pub returns-in_err-low-in-Some : goal.returns-in_err-low-in-Some
returns-in_err-low-in-Some c =
    let book = c.args.masks.now.book in
    let over : 2 ^ 64 ≤ suc c.in-Some.last = search rules in
    let none : None ≡ c.from_residual.result = search rules in
    subst₂ (λ o r. Answered (task book.outline) c.args.state c.args.must (past o) r) (sym c.in-Some.is) none (none_past (task book.outline) c.args.state c.args.must (suc c.in-Some.last) (lawful_from (task book.outline) book.lawful).few_actions over)

pub returns-then-not-is_part : goal.returns-then-not-is_part
returns-then-not-is_part c =
    none_loose (task c.args.masks.now.book.outline) c.args.state c.args.must c.joining-open.result (past c.args.after) c.joining-open.ensures (not_from_Decides c.is_part.result c.is_part.ensures c.if-not-is_part.true)

pub seek-requires : goal.seek-requires
seek-requires c i h = (c.joining-open.ensures.only i (in_without i c.joining-open.result c.args.must h).0).known

pub returns : goal.returns
returns c =
    let x = c.args in
    let b = task x.masks.now.book.outline in
    let from : c.match-after.low ≡ past x.after =
    elim c.match-after.branch [ in-None w ↦ search rules | in-Some+in_ok-low-in-Some w ↦ search rules ] in
    let root = sound_root b x.state x.must c.joining-open.result c.next_state.result c.joining-open.ensures c.next_state.ensures (c.is_part.ensures.0 c.if-not-is_part.false) in
    subst (λ (n : ℕ). Answered b x.state x.must n c.seek.result) from
    (answered b x.state x.must c.joining-open.result c.next_state.result c.joining-open.ensures c.next_state.ensures c.match-after.low c.seek.result (c.seek.ensures x.state root))
