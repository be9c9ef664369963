use Rattle.std.proofs.Common.{◌≡◌, ◌*◌, ◌%◌, ◌^◌, get_or, refl, ap, arith, rules}
use Rattle.std.proofs.lemmas.Bool.Decides.{not_from_Decides}
use Rattle.sets.specs.Sets.{without}
use Rattle.sets.proofs.Members.{in_without}
use Rattle.model.specs.Tasks.{Has, idle, action}
use Rattle.book.specs.Views.{task}
use Rattle.rounds.proofs.Orders.{highest_is, without_le, rest_less}
use Rattle.rounds.proofs.Nodes.{passed, doomed_lost, leaf_found, sound_leaving, sound_taking, from_leaving, from_taking, from_harmless}
use Rattle.rounds.proofs.finder.+seek.Goals as goal
use Rattle.rounds.proofs.finder.+seek.Goals.{then-node-low-via-then-node-low, then-node-low-via-else-node-low+then-is_doomed}

pub returns-then-node-low : goal.returns-then-node-low
returns-then-node-low t c state sound =
    let b = task c.args.masks.now.book.outline in
    elim c.then-node-low.branch [
      | then-node-low-via-then-node-low w ↦ passed b state c.args.low c.args.node w.if-node-low.true
      | then-node-low-via-else-node-low+then-is_doomed w ↦ let d = w.is_doomed.ensures.0 w.if-is_doomed.true in doomed_lost b state c.args.low c.args.node sound d.0 d.1
    ]

pub returns-in_default : goal.returns-in_default
returns-in_default t c state sound =
    let none : c.args.node.free ≡ 0 = search rules in
    leaf_found (task c.args.masks.now.book.outline) state c.args.low c.args.node sound c.if-node-low.false none (not_from_Decides c.is_doomed.result c.is_doomed.ensures c.if-is_doomed.false)

pub seek-requires : goal.seek-requires
seek-requires t c =
    let s = c.args.node.free in
    let i = c.in-Some.i in
    let log = c.checked_ilog2.ensures in
    (omega (arith, rest_less s i (highest_is s i c.in-Some.is log.power_le log.next_power_gt log.bound)), λ j h. c.requires j (in_without j s ((1 * 2 ^ i) % 2 ^ 64) h).0)

pub returns-in-Some-seek : goal.returns-in-Some-seek
returns-in-Some-seek t c state sound =
    let m = c.args.masks.now in
    let n = c.args.node in
    let i = c.in-Some.i in
    let log = c.checked_ilog2.ensures in
    let top = highest_is n.free i c.in-Some.is log.power_le log.next_power_gt log.bound in
    let act = action (task m.book.outline) i in
    from_leaving m state c.args.low n sound i top act refl c.in-Some-seek.round (c.in-Some-seek.ensures state (sound_leaving m state c.args.low n sound i top act refl))

pub bounds-actions-i : goal.bounds-actions-i
bounds-actions-i t c =
    let log = c.checked_ilog2.ensures in
    let known : Has (task c.args.masks.now.book.outline) c.in-Some.i = c.requires c.in-Some.i (highest_is c.args.node.free c.in-Some.i c.in-Some.is log.power_le log.next_power_gt log.bound).here in
    search rules

pub returns-then-not-breaks_any : goal.returns-then-not-breaks_any
returns-then-not-breaks_any t c state sound =
    let m = c.args.masks.now in
    let n = c.args.node in
    let i = c.in-Some.i in
    let log = c.checked_ilog2.ensures in
    let top = highest_is n.free i c.in-Some.is log.power_le log.next_power_gt log.bound in
    let act = get_or c.actions.result.now i idle in
    let is : act ≡ action (task m.book.outline) i = ap (λ acts. get_or acts i idle) c.actions.ensures.actions in
    from_harmless m state c.args.low n sound i top act is c.if-low-node.true (not_from_Decides c.breaks_any.result c.breaks_any.ensures c.if-not-breaks_any.true)
    (c.in_default-seek.ensures state (sound_leaving m state c.args.low n sound i top act is))

pub seek-requires-2 : goal.seek-requires-2
seek-requires-2 t c =
    let s = c.args.node.free in
    let i = c.in-Some.i in
    let rest = without s ((1 * 2 ^ i) % 2 ^ 64) in
    let row = get_or c.args.masks.now.clashes i 0 in
    let log = c.checked_ilog2.ensures in (
      omega (arith, rest_less s i (highest_is s i c.in-Some.is log.power_le log.next_power_gt log.bound), without_le rest row),
      λ j h. c.requires j (in_without j s ((1 * 2 ^ i) % 2 ^ 64) (in_without j rest row h).0).0,
    )

pub returns : goal.returns
returns t c state sound =
    let m = c.args.masks.now in
    let n = c.args.node in
    let i = c.in-Some.i in
    let log = c.checked_ilog2.ensures in
    let top = highest_is n.free i c.in-Some.is log.power_le log.next_power_gt log.bound in
    let act = get_or c.actions.result.now i idle in
    let is : act ≡ action (task m.book.outline) i = ap (λ acts. get_or acts i idle) c.actions.ensures.actions in
    from_taking m state c.args.low n sound i top act is c.seek-2.result (c.in_default-seek.ensures state (sound_leaving m state c.args.low n sound i top act is))
    (c.seek-2.ensures state (sound_taking m state c.args.low n sound i top act is))
