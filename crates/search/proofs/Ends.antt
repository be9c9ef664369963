-- What a whole search does and says, from the begin of its sieve on.
use Rattle.std.proofs.Common.{◌≡◌, ℕ, true, false, ◌⊎◌, List, ◌++◌, length, take, drop, Some, None, sym, refl, ap, ◌∙◌, subst, zero-add, arith}
use lib.Seq.{take-append_seam}
use Rattle.model.specs.Plans.{Before}
use Rattle.model.specs.Ledgers.{find, Turns}
use Rattle.model.specs.Bookings.{Serves}
use Rattle.model.specs.Sieves.{Subject, Genuine, Rules, Law}
use Rattle.model.specs.Behaviours.{behaviour}
use Rattle.model.specs.Claims.{Answer, none, plan, ended, Walked, dropped_at_once, went, Shows, Right, Step, searched, EveryList}
use Rattle.model.proofs.Judged.{beginning, none_serves, first_serves}
use Rattle.model.proofs.Behaviours.{ends_with, searches_by}
use Rattle.model.proofs.Every.{every_list}
use Rattle.model.specs.declared.counts.Counts.{Counts}
use Rattle.search.specs.Visits.{Found, Lost}
use Rattle.search.proofs.Steps.{shown}

abbrev pub zero_counts : Counts
zero_counts = record { opened = 0; dropped = 0 }

module _ {M : Type 0} {rules : Rules M} {whole kept : M → Type 0} (law : Law rules whole kept) (x : Subject) (ok : Genuine x) (m : M) (stands : whole m) where
  -- all that the contract of a search promises
  abbrev pub Ended : List ℕ → Answer → M → List ℕ → Type 0
  Ended strip answer n left = record {
    walk : Shows rules x m strip answer n left;
    right : Right x.card x.task answer left;
    step : Step x.card (searched x.task (behaviour rules m) strip answer left) x.card;
    claim : EveryList;
  }

  pub all : (strip : List ℕ) (answer : Answer) (n : M) (left : List ℕ) → Turns x.card (find x.task (length strip)) (ended answer) x.card → Shows rules x m strip answer n left → Right x.card x.task answer left → Ended strip answer n left
  all strip answer n left turns shows right = record {
    walk = shows;
    right = right;
    step = searches_by law m n stands x.card x.task strip answer left x.card turns ok.lawful shows;
    claim = every_list;
  }

  pub known : {b : M} → b ≡ rules.begun m x → kept b
  known e = subst kept (sym e) (law.leaves m x stands ok)

  pub begun : {b : M} → b ≡ rules.begun m x → rules.subject b ≡ Some x
  begun e = ap rules.subject e ∙ law.begins m x

  module _ {b : M} (e : b ≡ rules.begun m x) {strip : List ℕ} (turns : Turns x.card (find x.task (length strip)) (ended (none 0 0)) x.card) where
    pub at_once : rules.drops_standing b x.task.initial 0 ≡ true → Ended strip (none 0 0) b strip
    at_once h =
        let drops = subst (λ (u : M). rules.drops_standing u x.task.initial 0 ≡ true) e h in
        all strip (none 0 0) b strip turns
        (ends_with (subst (λ u. Walked rules x m None 0 0 u) (sym e) (dropped_at_once drops)) refl refl, refl)
        (none_serves x (law.standings (rules.begun m x) x x.task.initial 0 (law.leaves m x stands ok) (law.begins m x) drops).1)

    pub by_loss : {n : M} {left : List ℕ} {k : Counts} → rules.drops_standing b x.task.initial 0 ≡ false → Lost rules x x.task.initial 0 b zero_counts strip n k left → Ended strip (none k.opened k.dropped) n left
    by_loss {n} {left} {k} h l =
        let keeps = subst (λ (u : M). rules.drops_standing u x.task.initial 0 ≡ false) e h in
        let lost = subst (λ (u : M). Lost rules x x.task.initial 0 u zero_counts strip n k left) e l in
        let judged = shown law x ok lost.walk (law.leaves m x stands ok) (law.begins m x) (beginning x ok) in
        all strip (none k.opened k.dropped) n left turns
        (ends_with (went keeps lost.walk) (omega arith) (omega arith), lost.wrote)
        (none_serves x judged.0)

    pub by_plan : {n : M} {left : List ℕ} {k : Counts} → rules.drops_standing b x.task.initial 0 ≡ false → Found rules x x.task.initial 0 b zero_counts strip n k left → Ended strip (plan k.opened k.dropped) n left
    by_plan {n} {left} {k} h l =
        let keeps = subst (λ (u : M). rules.drops_standing u x.task.initial 0 ≡ false) e h in
        let won = subst (λ (u : M). Found rules x x.task.initial 0 u zero_counts strip n k left) e l in
        let judged = shown law x ok won.walk (law.leaves m x stands ok) (law.begins m x) (beginning x ok) in
        let p = won.plan in
        let wrote : left ≡ p ++ drop (length p) strip = won.wrote ∙ ap (λ (j : ℕ). p ++ drop j strip) (zero-add (length p)) in
        let long : length p ≡ x.card.rounds = sym (zero-add (length p)) ∙ judged.0.0 in
        let read : take x.card.rounds left ≡ p = ap (take x.card.rounds) wrote ∙ subst (λ (n : ℕ). take n (p ++ drop (length p) strip) ≡ p) long (take-append_seam p (drop (length p) strip)) in
        all strip (plan k.opened k.dropped) n left turns
        (p, ends_with (went keeps won.walk) (omega arith) (omega arith), long, wrote)
        (subst (λ (r : List ℕ). Serves x.card x.task r × ((q : List ℕ) → Serves x.card x.task q → (q ≡ r) ⊎ Before r q)) (sym read) (first_serves x ok p judged.0))
