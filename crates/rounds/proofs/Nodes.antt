-- The steps of the search: what a node's answer is, from those of its two parts or from a look at the node alone.
use Rattle.std.proofs.Common.{◌≡◌, ℕ, ◌*◌, ◌%◌, ◌^◌, ◌<◌, ◌≤◌, ◌⊎◌, length, get_or, Some, None, Option, sym, refl, ap, ◌∙◌, subst, inl, inr, ⊎_elim, arith}
use lib.Bits.{bit_or, or_zero_r}
use Rattle.std.proofs.lemmas.Bool.{cases_eq}
use Rattle.sets.specs.Sets.{In, Part, without, Marks}
use Rattle.sets.proofs.Members.{nothing_in, out_or_in, in_or, or_left, or_right, in_without, without_in, same_members, single_is, single_has, shift_is}
use Rattle.model.specs.declared.Action.{Action}
use Rattle.model.specs.Tasks.{Task, action, bar}
use Rattle.model.specs.Plans.{Disturb, next, Clear, Round}
use Rattle.model.proofs.Moves.{SomeOf, in_next, stays_in, comes_in}
use Rattle.book.specs.Views.{task}
use Rattle.rounds.specs.declared.finder.Node.{Node}
use Rattle.rounds.specs.declared.masks.Masks.{Masks}
use Rattle.rounds.specs.Firsts.{Good, NoneOn, Answered}
use Rattle.rounds.specs.Joins.{Joins, Loose}
use Rattle.rounds.specs.Nodes.{Inside, Sound, BreaksAny, Doomed, Found, Lost, Searched}
use Rattle.rounds.proofs.Orders.{Highest, part_le, all_below, ascends}
use Rattle.rounds.proofs.Tables.{disturb_sym, quiet, not_beside}

-- ---- lawful rounds as loose sets that end clear

pub round_loose : (b : Task) (state r : ℕ) → Round b state r → Loose b state r
round_loose b state r round i h = record { known = round.known i h; ready = round.ready i h; calm = λ c k. round.calm i c h k }

pub loose_round : (b : Task) (state r : ℕ) → Loose b state r → Clear b (next b state r) → Round b state r
loose_round b state r loose clear = record {
  known = λ a h. (loose a h).known;
  ready = λ a h. (loose a h).ready;
  calm = λ a c h k. (loose a h).calm c k;
  clear = clear;
}

joins_part : (b : Task) (state s t i : ℕ) → Part s t → Joins b state t i → Joins b state s i
joins_part b state s t i part j = record { known = j.known; ready = j.ready; calm = λ c h. j.calm c (part c h) }

-- some action of a part is one of the whole
more : (part : Action → ℕ) (b : Task) (s t f : ℕ) → Part s t → SomeOf part b s f → SomeOf part b t f
more part b s t f sub x = record { which = x.which; known = x.known; taken = sub x.which x.taken; here = x.here }

-- ---- a node alone

module _ (b : Task) (state low : ℕ) (n : Node) where
  pub passed : bit_or n.taken n.free < low → Lost b state low n
  passed less q inside l round = omega (arith, part_le q (bit_or n.taken n.free) inside.1)

  module _ (sound : Sound b state n) where
    -- a bar that stands, and that nothing free can break, stands after each round inside
    pub doomed_lost : (k : ℕ) → Doomed b n.reached n.free k → Lost b state low n
    doomed_lost k doomed q inside l round = round.clear k doomed.within stays
      where
        kept : (f : ℕ) → In f (bar b k) → (SomeOf (λ a. a.deletes) b n.taken f → ⊥) → SomeOf (λ a. a.deletes) b q f → ⊥
        kept f here none x =
            ⊎_elim (λ h. none (record { which = x.which; known = x.known; taken = h; here = x.here }))
            (λ h. doomed.stuck x.which h (x.known, (f, x.here, here))) (in_or x.which n.taken n.free (inside.1 x.which x.taken))

        stays : Part (bar b k) (next b state q)
        stays f h =
            ⊎_elim (λ old. stays_in b state q f old.0 (kept f h old.1)) (λ new. comes_in b state q f (more (λ a. a.adds) b n.taken q f inside.0 new))
            (in_next b state n.taken f (subst (λ (s : ℕ). In f s) sound.moved (doomed.stands f h)))

    pub leaf_found : low ≤ bit_or n.taken n.free → n.free ≡ 0 → ((k : ℕ) × Doomed b n.reached n.free k → ⊥) → Found b state low n n.taken
    leaf_found over none sure = record {
      inside = (λ i h. h, λ i h. or_left i n.taken n.free h);
      least = omega (arith, ap (bit_or n.taken) none, or_zero_r n.taken);
      lawful = loose_round b state n.taken sound.loose
          (subst (Clear b) sound.moved (λ k within stands. sure (k, record { within = within; stands = stands; stuck = λ j h. absurd (nothing_in j (subst (λ (s : ℕ). In j s) none h)) })));
      first = λ q inside _ less _. omega (arith, part_le n.taken q inside.0);
    }

-- ---- a node and its two parts: without its highest free action, and with it

module _ (m : Masks) (state low : ℕ) (n : Node) (sound : Sound (task m.book.outline) state n) (i : ℕ) (top : Highest n.free i) (act : Action) (acts : act ≡ action (task m.book.outline) i) where
  -- the terms of the code
  abbrev b : Task
  b = task m.book.outline

  abbrev here : ℕ
  here = (1 * 2 ^ i) % 2 ^ 64

  abbrev row : ℕ
  row = get_or m.clashes i 0

  abbrev rest : ℕ
  rest = without n.free here

  abbrev more_taken : ℕ
  more_taken = bit_or n.taken here

  abbrev leaving : Node
  leaving = record { taken = n.taken; free = rest; reached = n.reached }

  abbrev taking : Node
  taking = record { taken = more_taken; free = without rest row; reached = bit_or (without n.reached act.deletes) act.adds }

  is_here : (j : ℕ) → In j here → j ≡ i
  is_here j h = single_is i j (subst (λ (s : ℕ). In j s) (shift_is i top.small) h)

  here_has : In i here
  here_has = subst (λ (s : ℕ). In i s) (sym (shift_is i top.small)) (single_has i)

  joins_i : Joins b state n.taken i
  joins_i = sound.opens i top.here

  taken_or : (j : ℕ) → In j more_taken → In j n.taken ⊎ (j ≡ i)
  taken_or j h = ⊎_elim inl (λ k. inr (is_here j k)) (in_or j n.taken here h)

  has_i : In i more_taken
  has_i = or_right i n.taken here here_has

  wider : Part n.taken more_taken
  wider j h = or_left j n.taken here h

  -- an action that can join still can with i, unless the two disturb each other
  joins_more : (j : ℕ) → Joins b state n.taken j → ((i ≡ j → ⊥) → Disturb (action b i) (action b j) → ⊥) → Joins b state more_taken j
  joins_more j x calm = record {
    known = x.known;
    ready = x.ready;
    calm = λ c h ne d.
        ⊎_elim (λ k. x.calm c k ne d)
        (λ e. calm (λ g. ne (sym (e ∙ g))) (disturb_sym (action b j) (action b i) (subst (λ (k : ℕ). Disturb (action b j) (action b k)) e d))) (taken_or c h);
  }

  pub sound_leaving : Sound b state leaving
  sound_leaving = record {
    loose = sound.loose;
    opens = λ j h. sound.opens j (in_without j n.free here h).0;
    apart = λ j h k. sound.apart j (in_without j n.free here h).0 k;
    moved = sound.moved;
  }

  moved_more : bit_or (without n.reached act.deletes) act.adds ≡ next b state more_taken
  moved_more = same_members (bit_or (without n.reached act.deletes) act.adds) (next b state more_taken) to from
    where
      is_reached : (f : ℕ) → In f n.reached → In f (next b state n.taken)
      is_reached f = subst (λ (s : ℕ). In f s) sound.moved

      reached_is : (f : ℕ) → In f (next b state n.taken) → In f n.reached
      reached_is f = subst (λ (s : ℕ). In f s) (sym sound.moved)

      to : Part (bit_or (without n.reached act.deletes) act.adds) (next b state more_taken)
      to f h =
          ⊎_elim
          (λ k. let w = in_without f n.reached act.deletes k in
          ⊎_elim
          (λ old. stays_in b state more_taken f old.0
          (λ x. ⊎_elim (λ p. old.1 (record { which = x.which; known = x.known; taken = p; here = x.here }))
          (λ e. w.1 (subst (λ (a : Action). In f a.deletes) (sym acts) (subst (λ (k : ℕ). In f (action b k).deletes) e x.here))) (taken_or x.which x.taken)))
          (λ new. comes_in b state more_taken f (more (λ a. a.adds) b n.taken more_taken f wider new))
          (in_next b state n.taken f (is_reached f w.0)))
          (λ k. comes_in b state more_taken f (record { which = i; known = joins_i.known; taken = has_i; here = subst (λ (a : Action). In f a.adds) acts k }))
          (in_or f (without n.reached act.deletes) act.adds h)

      from : Part (next b state more_taken) (bit_or (without n.reached act.deletes) act.adds)
      from f h =
          ⊎_elim
          (λ old. or_left f (without n.reached act.deletes) act.adds
          (without_in f n.reached act.deletes (reached_is f (stays_in b state n.taken f old.0 (λ x. old.1 (more (λ a. a.deletes) b n.taken more_taken f wider x))))
          (λ d. old.1 (record { which = i; known = joins_i.known; taken = has_i; here = subst (λ (a : Action). In f a.deletes) acts d }))))
          (λ x. ⊎_elim
          (λ p. or_left f (without n.reached act.deletes) act.adds
          (without_in f n.reached act.deletes (reached_is f (comes_in b state n.taken f (record { which = x.which; known = x.known; taken = p; here = x.here })))
          (λ d. joins_i.calm x.which p (λ e. sound.apart i top.here (subst (λ (k : ℕ). In k n.taken) (sym e) p)) (f, inl (subst (λ (a : Action). In f a.deletes) acts d, inr x.here)))))
          (λ e. or_right f (without n.reached act.deletes) act.adds (subst (λ (a : Action). In f a.adds) (sym acts) (subst (λ (k : ℕ). In f (action b k).adds) e x.here)))
          (taken_or x.which x.taken))
          (in_next b state more_taken f h)

  pub sound_taking : Sound b state taking
  sound_taking = record {
    loose = λ j h. ⊎_elim
        (λ k. joins_more j (sound.loose j k) (λ ne d. joins_i.calm j k ne d))
        (λ e. subst (Joins b state more_taken) (sym e) (joins_more i joins_i (λ ne _. ne refl))) (taken_or j h);
    opens = λ j h. let w = in_without j rest row h in joins_more j (sound.opens j (in_without j n.free here w.0).0) (λ ne d. quiet b m.clashes m.clash i joins_i.known j w.1 ne d);
    apart = λ j h k. let w = in_without j n.free here (in_without j rest row h).0 in
        ⊎_elim (λ p. sound.apart j w.0 p) (λ p. w.1 p) (in_or j n.taken here k);
    moved = moved_more;
  }

  -- ---- the numbers inside

  in_rest : (j : ℕ) → In j (bit_or n.taken rest) → In j n.taken ⊎ (In j n.free × (In j here → ⊥))
  in_rest j h = ⊎_elim inl (λ k. inr (in_without j n.free here k)) (in_or j n.taken rest h)

  inside_leaving : (q : ℕ) → Inside leaving q → Inside n q × (In i q → ⊥)
  inside_leaving q inside = (
    (inside.0, λ j h. ⊎_elim (λ k. or_left j n.taken n.free k) (λ k. or_right j n.taken n.free k.0) (in_rest j (inside.1 j h))),
    λ h. ⊎_elim (λ k. sound.apart i top.here k) (λ k. k.1 here_has) (in_rest i (inside.1 i h)),
  )

  inside_taking : (q : ℕ) → Inside taking q → Inside n q × In i q
  inside_taking q inside = (
    (
      λ j h. inside.0 j (wider j h),
      λ j h. ⊎_elim
          (λ k. ⊎_elim (λ p. or_left j n.taken n.free p) (λ e. or_right j n.taken n.free (subst (λ (k : ℕ). In k n.free) (sym e) top.here)) (taken_or j k))
          (λ k. or_right j n.taken n.free (in_without j n.free here (in_without j rest row k).0).0)
          (in_or j more_taken (without rest row) (inside.1 j h)),
    ),
    inside.0 i has_i,
  )

  either : (q : ℕ) → Inside n q → Round b state q → Inside leaving q ⊎ Inside taking q
  either q inside round = ⊎_elim (λ out. inl (lower (λ h. let z : ◌≡◌ {A = ℕ} 0 1 = sym out ∙ h in omega arith))) (λ h. inr (upper h)) (out_or_in i q)
    where
      lower : (In i q → ⊥) → Inside leaving q
      lower out = (
        inside.0,
        λ j h. ⊎_elim (λ k. or_left j n.taken rest k)
            (λ k. or_right j n.taken rest (without_in j n.free here k (λ p. out (subst (λ (k : ℕ). In k q) (is_here j p) h)))) (in_or j n.taken n.free (inside.1 j h)),
      )

      upper : In i q → Inside taking q
      upper has = (
        λ j h. ⊎_elim (λ k. inside.0 j k) (λ e. subst (λ (k : ℕ). In k q) (sym e) has) (taken_or j h),
        λ j h. ⊎_elim (λ k. or_left j more_taken (without rest row) (wider j k))
            (λ k. ⊎_elim (λ e. or_left j more_taken (without rest row) (subst (λ (k : ℕ). In k more_taken) (sym e) has_i))
            (λ ne. or_right j more_taken (without rest row)
            (without_in j rest row (without_in j n.free here k (λ p. ne (is_here j p))) (λ p. not_beside b m.clashes m.clash i joins_i.known j p (round.calm i j has h))))
            (cases_eq j i)) (in_or j n.taken n.free (inside.1 j h)),
      )

  before : (q r : ℕ) → Inside leaving q → Inside taking r → q < r
  before q r low_in high_in =
      let low_of = inside_leaving q low_in in
      let high_of = inside_taking r high_in in
      ascends i q r (λ j above h. high_of.0.0 j (taken_above j above (low_of.0.1 j h))) (λ j above h. low_of.0.0 j (taken_above j above (high_of.0.1 j h))) low_of.1 high_of.1
    where
      taken_above : (j : ℕ) → i < j → In j (bit_or n.taken n.free) → In j n.taken
      taken_above j above h = ⊎_elim (λ k. k) (λ k. absurd (omega (arith, top.most j k))) (in_or j n.taken n.free h)

  pub from_leaving : (r : ℕ) → Found b state low leaving r → Found b state low n r
  from_leaving r s = record {
    inside = (inside_leaving r s.inside).0;
    least = s.least;
    lawful = s.lawful;
    first = λ q inside l less round. ⊎_elim (λ p. s.first q p l less round) (λ p. omega (arith, before r q s.inside p)) (either q inside round);
  }

  pub from_taking : (o : Option ℕ) → Lost b state low leaving → Searched b state low taking o → Searched b state low n o
  from_taking (Some r) lost s = record {
    inside = (inside_taking r s.inside).0;
    least = s.least;
    lawful = s.lawful;
    first = λ q inside l less round. ⊎_elim (λ p. lost q p l round) (λ p. s.first q p l less round) (either q inside round);
  }
  from_taking None lost s = λ q inside l round. ⊎_elim (λ p. lost q p l round) (λ p. s q p l round) (either q inside round)

  -- of a lawful round with i, where i breaks no bar, the rest is lawful too
  pub from_harmless : low ≤ n.taken → (BreaksAny b act → ⊥) → Lost b state low leaving → Lost b state low n
  from_harmless over harmless lost = from_taking None lost (λ q inside l round. lost (without q here) (inside_less q inside) (omega (arith, part_le n.taken (without q here) (inside_less q inside).0)) (round_less q round))
    where
      is_part : (q : ℕ) → Part (without q here) q
      is_part q j h = (in_without j q here h).0

      inside_less : (q : ℕ) → Inside taking q → Inside leaving (without q here)
      inside_less q inside = (
        λ j h. without_in j q here (inside.0 j (wider j h)) (λ k. sound.apart i top.here (subst (λ (k : ℕ). In k n.taken) (is_here j k) h)),
        λ j h. let w = in_without j q here h in
            ⊎_elim (λ k. ⊎_elim (λ p. or_left j n.taken rest p) (λ p. absurd (w.1 p)) (in_or j n.taken here k)) (λ k. or_right j n.taken rest (in_without j rest row k).0)
            (in_or j more_taken (without rest row) (inside.1 j w.0)),
      )

      round_less : (q : ℕ) → Round b state q → Round b state (without q here)
      round_less q round =
          loose_round b state (without q here) (λ j h. joins_part b state (without q here) q j (is_part q) (round_loose b state q round j (is_part q j h)))
          (λ k within stands. round.clear k within
          (λ f h. ⊎_elim
          (λ old. stays_in b state q f old.0
          (λ x. ⊎_elim
          (λ e. harmless (k, within, (f, subst (λ (a : Action). In f a.deletes) (sym acts) (subst (λ (k : ℕ). In f (action b k).deletes) e x.here), h)))
          (λ ne. old.1 (record { which = x.which; known = x.known; taken = without_in x.which q here x.taken (λ p. ne (is_here x.which p)); here = x.here }))
          (cases_eq x.which i)))
          (λ new. comes_in b state q f (more (λ a. a.adds) b (without q here) q f (is_part q) new))
          (in_next b state (without q here) f (stands f h))))

-- ---- the whole search

good_loose : (b : Task) (state must r : ℕ) → Good b state must r → (i : ℕ) → In i r → Joins b state must i
good_loose b state must r good i h = joins_part b state must r i good.1 (round_loose b state r good.0 i h)

module _ (b : Task) (state must free reached : ℕ) (marks : Marks (Joins b state must) free) (moved : reached ≡ next b state must) where
  abbrev root : Node
  root = record { taken = must; free = without free must; reached = reached }

  pub sound_root : Part must free → Sound b state root
  sound_root loose = record {
    loose = λ i h. marks.only i (loose i h);
    opens = λ i h. marks.only i (in_without i free must h).0;
    apart = λ i h k. (in_without i free must h).1 k;
    moved = moved;
  }

  inside_root : (q : ℕ) → Good b state must q → Inside root q
  inside_root q good = (
    good.1,
    λ i h. ⊎_elim
        (λ out. or_right i must (without free must) (without_in i free must (marks.all i (good_loose b state must q good i h)) (λ k. let z : ◌≡◌ {A = ℕ} 0 1 = sym out ∙ k in omega arith)))
        (λ k. or_left i must (without free must) k) (out_or_in i must),
  )

  pub answered : (low : ℕ) (o : Option ℕ) → Searched b state low root o → Answered b state must low o
  answered low (Some r) s = record { least = s.least; good = (s.lawful, s.inside.0); first = λ q l less good. s.first q (inside_root q good) l less good.0 }
  answered low None s = λ q l good. s q (inside_root q good) l good.0

pub none_loose : (b : Task) (state must free low : ℕ) → Marks (Joins b state must) free → (Part must free → ⊥) → NoneOn b state must low
none_loose b state must free low marks bars q l good = bars (λ i h. marks.all i (good_loose b state must q good i (good.1 i h)))

-- no round has a number from 2 ^ 64 on
pub none_past : (b : Task) (state must from : ℕ) → length b.actions ≤ 64 → 2 ^ 64 ≤ from → NoneOn b state must from
none_past b state must from few past q l good = omega (arith, past, l, all_below 64 q (λ i h. omega (arith, good.0.known i h, few)))
