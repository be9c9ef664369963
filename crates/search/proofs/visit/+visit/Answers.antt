use Rattle.std.proofs.Common.{◌≡◌, ℕ, suc, ◌+◌, ◌≤◌, true, false, ◌⊎◌, [], length, None, sym, refl, ◌∙◌, subst, ap₂, subst₂, inl, inr, add-one, arith, rules}
use Rattle.std.proofs.lemmas.Bool.{false≢true}
use Rattle.model.specs.Plans.{next}
use Rattle.model.specs.Sieves.{Standing}
use Rattle.model.specs.Walks.{FirstFrom, Walk, at, reached, missed}
use Rattle.rounds.specs.Firsts.{past}
use Rattle.search.specs.Courses.{subject_on}
use Rattle.search.specs.Visits.{Counted, Found, Lost}
use Rattle.model.proofs.Judged.{moves}
use Rattle.search.proofs.Steps.{shown, begins, opens_one, drops_one, fails_one, ends, wins, wrote_nothing}
use Rattle.search.proofs.visit.+visit.Goals as goal
use Rattle.search.proofs.visit.+visit.Goals.{then-drops_start, else-drops_start}

pub returns-then-is_part : goal.returns-then-is_part
returns-then-is_part g t c =
    record {
      plan = [];
      o = 1;
      d = 0;
      walk = reached (c.if-at-rounds.true ∙ c.rounds.ensures) (c.if-is_part.ensures.0 refl);
      counted = opens_one c.args.counts.now c.saturating_add-counts.ensures (omega arith);
      wrote = wrote_nothing c.args.strip.now c.args.at.t;
    }

pub told-requires : goal.told-requires
told-requires g t c =
    let z = g.S.Sieve in
    let x = subject_on c.args.course.now in
    let m = z.meaning c.args.sieve.now in
    let w : Walk z.rules x (at c.args.at.state c.args.at.t) m None 1 0 (z.rules.told m c.args.at.state c.args.at.t) = missed {state = c.args.at.state} {t = c.args.at.t} (c.if-at-rounds.true ∙ c.rounds.ensures) (λ part. false≢true (c.if-is_part.ensures.1 part)) in
    record {
      x = x;
      known = c.requires.known;
      of_x = c.requires.begun;
      standing = c.requires.standing;
      hopeless = (shown g.met.S.Sieve.keeps x c.requires.genuine w c.requires.known c.requires.begun c.requires.standing).0;
    }

pub returns-then-at-rounds : goal.returns-then-at-rounds
returns-then-at-rounds g t c =
    let z = g.S.Sieve in
    let x = subject_on c.args.course.now in
    let m = z.meaning c.args.sieve.now in
    record {
      o = 1;
      d = 0;
      walk = subst (λ n. Walk z.rules x (at c.args.at.state c.args.at.t) m None 1 0 n) (sym c.told.ensures) (missed {state = c.args.at.state} {t = c.args.at.t} (c.if-at-rounds.true ∙ c.rounds.ensures) (λ part. false≢true (c.if-is_part.ensures.1 part)));
      counted = opens_one c.args.counts.now c.saturating_add-counts.ensures (omega arith);
      wrote = refl;
    }

pub loop-round-init : goal.loop-round-init
loop-round-init g t c =
    (c.requires.known, c.requires.begun, refl, begins c.args.at.state c.args.at.t (g.S.Sieve.meaning c.args.sieve.now) _ (omega arith) (omega arith))

pub loop-round-preserved-then-drops_standing : goal.loop-round-preserved-then-drops_standing
loop-round-preserved-then-drops_standing g t c =
    let z = g.S.Sieve in
    let x = subject_on c.args.course.now in
    let n = z.meaning c.loop-round.sieve in
    let r = c.in-Some.round in
    let more : Counted c.loop-round.counts 0 1 (record { opened = c.loop-round.counts.opened; dropped = c.saturating_add-counts-then-drops_standing.result }) = record { opened = omega arith; dropped = c.saturating_add-counts-then-drops_standing.ensures } in
    let why : (z.rules.drops_start n c.args.at.state c.args.at.t r ≡ true) ⊎ (z.rules.drops_standing n (next x.task c.args.at.state r) (suc c.args.at.t) ≡ true) =
    elim c.if-drops_start.branch [
      | then-drops_start w ↦ inl (sym c.drops_start.ensures ∙ w.if-drops_start.true)
      | else-drops_start w ↦ let e : w.drops_standing.result ≡ true = cc in inr (ap₂ (λ (s u : ℕ). z.rules.drops_standing n s u) (sym c.next_state.ensures) (sym (add-one c.args.at.t)) ∙ sym w.drops_standing.ensures ∙ e)
    ] in
    (c.loop-round.invariant.0, c.loop-round.invariant.1, c.loop-round.invariant.2, drops_one c.loop-round.invariant.3 r _ c.in-Some.ensures why more)

pub visit-requires : goal.visit-requires
visit-requires g t c κs within =
    let x = subject_on c.args.course.now in
    let first : FirstFrom x c.args.at.state c.args.at.t (past c.loop-round.after) c.in-Some.round = c.in-Some.ensures in
    let st = moves x c.requires.genuine c.args.at.state c.args.at.t c.in-Some.round c.requires.standing (omega arith) first.1 in
    let here : Standing x c.next_state.result (c.args.at.t + 1) = subst (λ s. Standing x s (c.args.at.t + 1)) (sym c.next_state.ensures) (st.0, omega arith) in
    let room : x.card.rounds ≤ length c.loop-round.strip = omega arith in
    (search rules, (within, (c.requires.genuine, (here, (room, (c.loop-round.invariant.0, c.loop-round.invariant.1))))))

pub returns-then-visit : goal.returns-then-visit
returns-then-visit g t c =
    let z = g.S.Sieve in
    let x = subject_on c.args.course.now in
    let n = z.meaning c.loop-round.sieve in
    let r = c.in-Some.round in
    let both : (z.rules.drops_start n c.args.at.state c.args.at.t r ≡ false) × (z.rules.drops_standing n (next x.task c.args.at.state r) (suc c.args.at.t) ≡ false) =
    elim c.if-drops_start.branch [
      | then-drops_start w ↦ let e : ◌≡◌ {A = ℕ} 0 1 = cc in absurd (omega arith)
      | else-drops_start w ↦ let e : w.drops_standing.result ≡ false = cc in (sym c.drops_start.ensures ∙ w.if-drops_start.false, ap₂ (λ (s u : ℕ). z.rules.drops_standing n s u) (sym c.next_state.ensures) (sym (add-one c.args.at.t)) ∙ sym w.drops_standing.ensures ∙ e)
    ] in
    let one = opens_one c.args.counts.now c.saturating_add-counts.ensures (omega arith) in
    let deeper : Found z.rules x (next x.task c.args.at.state r) (suc c.args.at.t) n c.loop-round.counts c.loop-round.strip (z.meaning c.visit.new.sieve) c.visit.new.counts c.visit.new.strip =
    subst₂ (λ (s u : ℕ). Found z.rules x s u n c.loop-round.counts c.loop-round.strip (z.meaning c.visit.new.sieve) c.visit.new.counts c.visit.new.strip) c.next_state.ensures (add-one c.args.at.t) c.if-visit.ensures in
    wins c.loop-round.invariant.3 r (omega arith) c.requires.room one c.in-Some.ensures both.0 both.1 c.loop-round.invariant.2 deeper

pub loop-round-preserved : goal.loop-round-preserved
loop-round-preserved g t c =
    let z = g.S.Sieve in
    let x = subject_on c.args.course.now in
    let n = z.meaning c.loop-round.sieve in
    let r = c.in-Some.round in
    let first : FirstFrom x c.args.at.state c.args.at.t (past c.loop-round.after) r = c.in-Some.ensures in
    let both : (z.rules.drops_start n c.args.at.state c.args.at.t r ≡ false) × (z.rules.drops_standing n (next x.task c.args.at.state r) (suc c.args.at.t) ≡ false) =
    elim c.if-drops_start.branch [
      | then-drops_start w ↦ let e : ◌≡◌ {A = ℕ} 0 1 = cc in absurd (omega arith)
      | else-drops_start w ↦ let e : w.drops_standing.result ≡ false = cc in (sym c.drops_start.ensures ∙ w.if-drops_start.false, ap₂ (λ (s u : ℕ). z.rules.drops_standing n s u) (sym c.next_state.ensures) (sym (add-one c.args.at.t)) ∙ sym w.drops_standing.ensures ∙ e)
    ] in
    let deeper : Lost z.rules x (next x.task c.args.at.state r) (suc c.args.at.t) n c.loop-round.counts c.loop-round.strip (z.meaning c.visit.new.sieve) c.visit.new.counts c.visit.new.strip =
    subst₂ (λ (s u : ℕ). Lost z.rules x s u n c.loop-round.counts c.loop-round.strip (z.meaning c.visit.new.sieve) c.visit.new.counts c.visit.new.strip) c.next_state.ensures (add-one c.args.at.t) c.if-visit.ensures in
    let ok = c.requires.genuine in
    let good = (shown g.met.S.Sieve.keeps x ok deeper.walk c.loop-round.invariant.0 c.loop-round.invariant.1 (moves x ok c.args.at.state c.args.at.t r c.requires.standing (omega arith) first.1)).1 in
    (good.0, good.1, deeper.wrote ∙ c.loop-round.invariant.2, fails_one c.loop-round.invariant.3 r first both.0 both.1 deeper)

pub told-requires-2 : goal.told-requires-2
told-requires-2 g t c =
    let z = g.S.Sieve in
    let x = subject_on c.args.course.now in
    let one = opens_one c.args.counts.now c.saturating_add-counts.ensures (omega arith) in
    let lost = ends c.loop-round.invariant.3 {before = []} {after = []} (omega arith) one c.in_default.ensures refl in
    record {
      x = x;
      known = c.loop-round.invariant.0;
      of_x = c.loop-round.invariant.1;
      standing = c.requires.standing;
      hopeless = (shown g.met.S.Sieve.keeps x c.requires.genuine lost.walk c.requires.known c.requires.begun c.requires.standing).0;
    }

pub returns : goal.returns
returns g t c =
    let z = g.S.Sieve in
    let x = subject_on c.args.course.now in
    let one = opens_one c.args.counts.now c.saturating_add-counts.ensures (omega arith) in
    subst (λ n. Lost z.rules x c.args.at.state c.args.at.t (z.meaning c.args.sieve.now) c.args.counts.now c.args.strip.now n c.loop-round.counts c.loop-round.strip) (sym c.told-2.ensures)
    (ends c.loop-round.invariant.3 (omega arith) one c.in_default.ensures c.loop-round.invariant.2)
