use Rattle.std.proofs.Common.{◌≡◌, ℕ, ◌≤◌, true, false, List, length, Some, sym, refl, ◌∙◌, subst, ap₂, ⊎_elim, arith}
use Rattle.std.proofs.lemmas.Bool.{cases_lt, false≢true}
use Rattle.model.specs.declared.Booking.{Booking}
use Rattle.model.specs.Tasks.{Task, Has}
use Rattle.model.specs.Ledgers.{Ledger, Among, find, refused, Turns}
use Rattle.model.specs.Sieves.{Subject, Genuine, Standing}
use Rattle.model.specs.Claims.{turned_down}
use Rattle.model.proofs.Judged.{beginning}
use Rattle.model.proofs.Ways.{find_foreign, find_short, find_done}
use Rattle.sieve.specs.Subjects.{subject_of}
use Rattle.search.specs.Courses.{Unknown, subject_on}
use Rattle.search.specs.Visits.{Found, Lost}
use Rattle.search.proofs.Ends.{zero_counts, all, known, begun, at_once, by_loss, by_plan}
use Rattle.search.proofs.search.search.Goals as goal

foreign : (l : Ledger) (b : Task) (places : ℕ) → Unknown b l.bookings → Turns l (find b places) (refused 19) l
foreign l b places (y, among, lacks) = find_foreign l b places y among (⊎_elim (λ lt. absurd (lacks lt)) (λ le. le) (cases_lt y.action (length b.actions)))

all_known : (b : Task) (xs : List Booking) → (Unknown b xs → false ≡ true) → (y : Booking) → Among y xs → Has b y.action
all_known b xs never y among = ⊎_elim (λ lt. lt) (λ le. absurd (false≢true (never (y, among, λ lt. omega arith)))) (cases_lt y.action (length b.actions))

pub returns-then-has_unknown : goal.returns-then-has_unknown
returns-then-has_unknown g c =
    let x = subject_of c.args.book.now c.args.card.now in
    let strip = c.args.strip.now in
    let m = g.S.Sieve.meaning c.args.sieve.now in
    all g.met.S.Sieve.keeps x (record { lawful = c.law.ensures.lawful; sound = c.law-2.ensures }) m (g.met.S.Sieve.stands c.args.sieve.now) strip (turned_down 19) m strip
    (foreign x.card x.task (length strip) (c.if-has_unknown.ensures.0 refl)) (refl, refl) tt

pub returns-then-strip-rounds : goal.returns-then-strip-rounds
returns-then-strip-rounds g c =
    let x = subject_of c.args.book.now c.args.card.now in
    let strip = c.args.strip.now in
    let m = g.S.Sieve.meaning c.args.sieve.now in
    all g.met.S.Sieve.keeps x (record { lawful = c.law.ensures.lawful; sound = c.law-2.ensures }) m (g.met.S.Sieve.stands c.args.sieve.now) strip (turned_down 20) m strip
    (find_short x.card x.task (length strip) (all_known x.task x.card.bookings c.if-has_unknown.ensures.1) (omega arith)) (refl, refl) tt

pub returns-then-drops_standing : goal.returns-then-drops_standing
returns-then-drops_standing g c =
    let x = subject_of c.args.book.now c.args.card.now in
    let strip = c.args.strip.now in
    let m = g.S.Sieve.meaning c.args.sieve.now in
    at_once g.met.S.Sieve.keeps x (record { lawful = c.law.ensures.lawful; sound = c.law-2.ensures }) m (g.met.S.Sieve.stands c.args.sieve.now)
    c.begin.ensures {strip = strip} (find_done x.card x.task (length strip) (all_known x.task x.card.bookings c.if-has_unknown.ensures.1) (omega arith)) (sym c.drops_standing.ensures ∙ c.if-drops_standing.true)

pub visit-requires : goal.visit-requires
visit-requires g c =
    let x = subject_of c.args.book.now c.args.card.now in
    let same : x ≡ subject_on c.new-course.result = sym (ap₂ subject_of c.new-course.ensures.book c.new-course.ensures.card) in
    let ok : Genuine x = record { lawful = c.law.ensures.lawful; sound = c.law-2.ensures } in
    let m = g.S.Sieve.meaning c.args.sieve.now in
    let law = g.met.S.Sieve.keeps in
    let stands = g.met.S.Sieve.stands c.args.sieve.now in
    let long : x.card.rounds ≤ length c.args.strip.now = omega arith in
    record {
      genuine = subst Genuine same ok;
      standing = subst (λ (y : Subject). Standing y x.task.initial 0) same (beginning x ok);
      room = subst (λ (y : Subject). y.card.rounds ≤ length c.args.strip.now) same long;
      known = known law x ok m stands c.begin.ensures;
      begun = subst (λ (y : Subject). g.S.Sieve.rules.subject (g.S.Sieve.meaning c.begin.new.self) ≡ Some y) same (begun law x ok m stands c.begin.ensures);
    }

pub returns-then-visit : goal.returns-then-visit
returns-then-visit g c =
    let z = g.S.Sieve in
    let x = subject_of c.args.book.now c.args.card.now in
    let strip = c.args.strip.now in
    let b = z.meaning c.begin.new.self in
    let n = z.meaning c.visit.new.sieve in
    let same : subject_on c.new-course.result ≡ x = ap₂ subject_of c.new-course.ensures.book c.new-course.ensures.card in
    by_plan g.met.S.Sieve.keeps x (record { lawful = c.law.ensures.lawful; sound = c.law-2.ensures }) (z.meaning c.args.sieve.now) (g.met.S.Sieve.stands c.args.sieve.now)
    c.begin.ensures {strip = strip} (find_done x.card x.task (length strip) (all_known x.task x.card.bookings c.if-has_unknown.ensures.1) (omega arith)) {n = n} {left = c.visit.new.strip} {k = c.visit.new.counts}
    (sym c.drops_standing.ensures ∙ c.if-drops_standing.false)
    (subst (λ (y : Subject). Found z.rules y x.task.initial 0 b zero_counts strip n c.visit.new.counts c.visit.new.strip) same c.if-visit.ensures)

pub returns-else-visit : goal.returns-else-visit
returns-else-visit g c =
    let z = g.S.Sieve in
    let x = subject_of c.args.book.now c.args.card.now in
    let strip = c.args.strip.now in
    let b = z.meaning c.begin.new.self in
    let n = z.meaning c.visit.new.sieve in
    let same : subject_on c.new-course.result ≡ x = ap₂ subject_of c.new-course.ensures.book c.new-course.ensures.card in
    by_loss g.met.S.Sieve.keeps x (record { lawful = c.law.ensures.lawful; sound = c.law-2.ensures }) (z.meaning c.args.sieve.now) (g.met.S.Sieve.stands c.args.sieve.now)
    c.begin.ensures {strip = strip} (find_done x.card x.task (length strip) (all_known x.task x.card.bookings c.if-has_unknown.ensures.1) (omega arith)) {n = n} {left = c.visit.new.strip} {k = c.visit.new.counts}
    (sym c.drops_standing.ensures ∙ c.if-drops_standing.false)
    (subst (λ (y : Subject). Lost z.rules y x.task.initial 0 b zero_counts strip n c.visit.new.counts c.visit.new.strip) same c.if-visit.ensures)
