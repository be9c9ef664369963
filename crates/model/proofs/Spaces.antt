-- In lawful rounds no two steps stand closer than their gap.
use Rattle.std.proofs.Common.{◌≡◌, ℕ, zero, suc, ◌+◌, ◌-◌, ◌<◌, ◌≤◌, List, [], ◌∷◌, length, get_or, Some, None, Option, sym, ◌∙◌, subst, inl, inr, ⊎_elim, add-zero, arith}
use Rattle.std.proofs.lemmas.Bool.{cases_eq}
use Rattle.sets.specs.Sets.{In}
use Rattle.model.specs.Tasks.{Task, action, group, Lawful}
use Rattle.model.specs.Plans.{Disturb, next, Round, Run, state_at, OneOfEach}
use Rattle.model.specs.Distances.{Arc, PathOf, Distance}
use Rattle.model.specs.Gaps.{UpTo, Far, Rule, A1, A2, B1, B2, B3, B4, By, Forbidden, Gap, Closer}
use Rattle.model.specs.Spacing.{LawOfGaps}
use Rattle.model.proofs.Moves.{SomeOf, in_next, comes_in, moved, leaves}
use Rattle.model.proofs.States.{state_after}

up_to_down : (r : Option ℕ) (less d e : ℕ) → e ≤ d → UpTo r less d → UpTo r less e
up_to_down (Some r) less d e le near = omega arith
up_to_down None less d e le near = near

far_down : (b : Task) (p q less d e : ℕ) → e ≤ d → Far b p q less d → Far b p q less e
far_down b p q less d e le (v, w, r, facts, vp, wq, near) = (v, w, r, facts, vp, wq, up_to_down r less d e le near)

-- a rule that forbids a number of rounds forbids each smaller one
pub by_down : (b : Task) (rule : Rule) (a c d e : ℕ) → e ≤ d → By rule b a c d → By rule b a c e
by_down b A1 a c d e le (f, x, y, z) = (f, x, y, omega arith)
by_down b A2 a c d e le (f, x, y, z) = (f, x, y, omega arith)
by_down b B1 a c d e le far = far_down b (action b a).adds (action b c).adds 1 d e le far
by_down b B2 a c d e le far = far_down b (action b a).adds (action b c).needs 0 d e le far
by_down b B3 a c d e le far = far_down b (action b a).needs (action b c).adds 2 d e le far
by_down b B4 a c d e le far = far_down b (action b a).needs (action b c).needs 1 d e le far

module _ (b : Task) (ok : Lawful b) where
  pub grouped_next : (state round : ℕ) → OneOfEach b state → Round b state round → OneOfEach b (next b state round)
  grouped_next state round one lawful g within = (moved b ok state round lawful g within (one g within)).now

  -- the round at t, and the state after it
  pub round_at : (state : ℕ) (plan : List ℕ) (t : ℕ) → Run b state plan → t < length plan → Round b (state_at b state plan t) (get_or plan t 0) × (state_at b state plan (suc t) ≡ next b (state_at b state plan t) (get_or plan t 0))
  round_at state [] t run lt = absurd (omega arith)
  round_at state (r ∷ rs) zero run lt = (run.0, state_after b state (r ∷ rs) zero lt)
  round_at state (r ∷ rs) (suc t) run lt = round_at (next b state r) rs t run.1 (omega arith)

  pub grouped_at : (state : ℕ) (plan : List ℕ) (t : ℕ) → OneOfEach b state → Run b state plan → OneOfEach b (state_at b state plan t)
  grouped_at state [] t one run = one
  grouped_at state (r ∷ rs) zero one run = one
  grouped_at state (r ∷ rs) (suc t) one run = grouped_at (next b state r) rs t (grouped_next state r one run.0) run.1

  module _ (state : ℕ) (plan : List ℕ) (one : OneOfEach b state) (run : Run b state plan) where
    abbrev at : ℕ → ℕ
    at t = state_at b state plan t

    -- facts of one group that stand n rounds apart are at most n arcs apart
    pub path_between : (g : ℕ) → g < length b.groups → (n t v w : ℕ) → t + n ≤ length plan → In v (group b g) → In v (at t) → In w (group b g) → In w (at (t + n)) → (m : ℕ) × (m ≤ n) × PathOf b g v w m
    path_between g within zero t v w le vg vs wg ws =
        let o = grouped_at state plan t one run g within in
        (0, omega arith, o.3 v vs vg ∙ sym (o.3 w (subst (λ k. In w (at k)) (add-zero t) ws) wg))
    path_between g within (suc n) t v w le vg vs wg ws =
        let o = grouped_at state plan t one run g within in
        let r = round_at state plan t run (omega arith) in
        let m = moved b ok (at t) (get_or plan t 0) r.0 g within o in
        let x = m.now.0 in
        let xs : In x (at (suc t)) = subst (λ s. In x s) (sym r.1) m.now.1 in
        let rest = path_between g within n (suc t) x w (omega arith) m.now.2 xs wg (subst (λ k. In w (at k)) (omega arith) ws) in
        let same : v ≡ o.0 = o.3 v vs vg in
        ⊎_elim (λ e. (rest.0, omega (arith, rest.1), subst (λ k. PathOf b g k w rest.0) (sym (same ∙ e)) rest.2))
        (λ arc. (suc rest.0, omega (arith, rest.1), (x, subst (λ k. Arc b g k x) (sym same) arc, rest.2))) m.by

    -- an action adds what stands after its round, and needs what stands before it
    pub adds_after : (t a f : ℕ) → t < length plan → In a (get_or plan t 0) → In f (action b a).adds → In f (at (suc t))
    adds_after t a f lt taken h =
        let r = round_at state plan t run lt in
        subst (λ s. In f s) (sym r.1) (comes_in b (at t) (get_or plan t 0) f (record { which = a; known = r.0.known a taken; taken = taken; here = h }))

    pub needs_before : (t a f : ℕ) → t < length plan → In a (get_or plan t 0) → In f (action b a).needs → In f (at t)
    needs_before t a f lt taken h = (round_at state plan t run lt).0.ready a taken f h

    too_near : (g v w less d n : ℕ) (r : Option ℕ) → Distance b g v w r → UpTo r less d → n < d + less → (m : ℕ) × (m ≤ n) × PathOf b g v w m → ⊥
    too_near g v w less d n (Some r) far near lt path = far.1 path.0 (omega (arith, path.1)) path.2
    too_near g v w less d n None far near lt path = far path.0 path.2

    -- no forbidden number of rounds lies between two steps
    pub no_forbidden : (a c t d : ℕ) → t + d < length plan → In a (get_or plan t 0) → In c (get_or plan (t + d) 0) → Forbidden b a c d → ⊥
    no_forbidden a c t d lt ta tc (exempt, (rule, by)) = go rule by
      where
        lawful : Round b (at t) (get_or plan t 0)
        lawful = (round_at state plan t run (omega arith)).0

        tc_here : d ≡ 0 → In c (get_or plan t 0)
        tc_here e = subst (λ k. In c (get_or plan k 0)) (omega arith) tc

        -- in one round they are two actions, and do not disturb each other
        apart : d ≡ 0 → Disturb (action b a) (action b c) → ⊥
        apart e clash = lawful.calm a c ta (tc_here e) (λ same. exempt (same, e)) clash

        after_c : (f : ℕ) → In f (action b c).adds → In f (at (t + suc d))
        after_c f h = subst (λ k. In f (at k)) (omega arith) (adds_after (t + d) c f lt tc h)

        go : (rule : Rule) → By rule b a c d → ⊥
        go A1 (f, add, del, e) = apart e (f, inr (del, inr add))
        go A2 (f, del, need, le) =
            ⊎_elim (λ e. apart e (f, inl (del, inl need)))
            (λ ne.
            let e : d ≡ 1 = omega arith in
            let here : In f (at (suc t)) = subst (λ k. In f (at k)) (omega arith) (needs_before (t + d) c f lt tc need) in
            let r = round_at state plan t run (omega arith) in
            let mine : SomeOf (λ x. x.deletes) b (get_or plan t 0) f = record { which = a; known = lawful.known a ta; taken = ta; here = del } in
            ⊎_elim (λ old. old.1 mine)
            (λ new. ⊎_elim (λ same. ok.consistent a (lawful.known a ta) f (subst (λ k. In f (action b k).adds) (sym same) new.here) del)
            (λ differ. lawful.calm a new.which ta new.taken differ (f, inl (del, inr new.here))) (cases_eq a new.which))
            (in_next b (at t) (get_or plan t 0) f (subst (λ s. In f s) r.1 here)))
            (cases_eq d 0)
        go B1 (f1, f2, r, facts, add1, add2, near) =
            too_near facts.group_of f1 f2 1 d d r facts.far near (omega arith)
            (path_between facts.group_of facts.within d (suc t) f1 f2 (omega arith) facts.first (adds_after t a f1 (omega arith) ta add1) facts.second (subst (λ k. In f2 (at k)) (omega arith) (after_c f2 add2)))
        go B2 (f1, f2, r, facts, add1, need2, near) =
            ⊎_elim (λ e.
            let o = grouped_at state plan t one run facts.group_of facts.within in
            let gone = leaves b ok (at t) (get_or plan t 0) lawful facts.group_of facts.within o f1 facts.first (record { which = a; known = lawful.known a ta; taken = ta; here = add1 }) in
            let same : f2 ≡ o.0 = o.3 f2 (needs_before t c f2 (omega arith) (tc_here e) need2) facts.second in
            apart e (o.0, inl (gone.0, inl (subst (λ k. In k (action b c).needs) same need2))))
            (λ ne. too_near facts.group_of f1 f2 0 d (d - 1) r facts.far near (omega arith)
            (path_between facts.group_of facts.within (d - 1) (suc t) f1 f2 (omega arith) facts.first (adds_after t a f1 (omega arith) ta add1) facts.second (subst (λ k. In f2 (at k)) (omega arith) (needs_before (t + d) c f2 lt tc need2))))
            (cases_eq d 0)
        go B3 (f1, f2, r, facts, need1, add2, near) =
            too_near facts.group_of f1 f2 2 d (suc d) r facts.far near (omega arith)
            (path_between facts.group_of facts.within (suc d) t f1 f2 (omega arith) facts.first (needs_before t a f1 (omega arith) ta need1) facts.second (after_c f2 add2))
        go B4 (f1, f2, r, facts, need1, need2, near) =
            too_near facts.group_of f1 f2 1 d d r facts.far near (omega arith)
            (path_between facts.group_of facts.within d t f1 f2 (omega arith) facts.first (needs_before t a f1 (omega arith) ta need1) facts.second (needs_before (t + d) c f2 lt tc need2))

    -- two steps, a in round t and c d rounds later, are not closer than their gap
    pub not_closer : (a c t d : ℕ) (gap : Option ℕ) → t + d < length plan → In a (get_or plan t 0) → In c (get_or plan (t + d) 0) → ((a ≡ c) × (d ≡ 0) → ⊥) → Gap b a c gap → Closer gap d → ⊥
    not_closer a c t d (Some zero) lt ta tc exempt gap near = omega arith
    not_closer a c t d (Some (suc m)) lt ta tc exempt (worst, above) near =
        no_forbidden a c t d lt ta tc (exempt, (worst.1.0, by_down b worst.1.0 a c m d (omega arith) worst.1.1))
    not_closer a c t d None lt ta tc exempt gap near =
        let far = gap d in
        no_forbidden a c t d lt ta tc (exempt, (far.2.1.0, by_down b far.2.1.0 a c far.0 d far.1 far.2.1.1))

pub law_of_gaps : (b : Task) → Lawful b → LawOfGaps b
law_of_gaps b ok = (λ state rounds one run. not_closer b ok state rounds one run, λ plan valid. not_closer b ok b.initial plan ok.one_of_each valid.0)
