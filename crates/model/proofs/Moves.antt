-- What one lawful round does to a state: its members, and the one fact of each group.
use Rattle.std.proofs.Common.{◌≡◌, ℕ, zero, suc, ◌+◌, ◌<◌, Bool, true, false, cond, ◌⊎◌, List, [], ◌∷◌, length, get_or, sym, refl, ◌∙◌, subst, inl, inr, ⊎_elim, add-zero, zero-add, arith}
use Rattle.std.proofs.lemmas.Bool.{eqb-true, eq-eqb, cases_eq}
use Rattle.model.specs.declared.Action.{Action}
use Rattle.sets.specs.Sets.{In, has, One}
use Rattle.model.specs.Tasks.{Task, idle, action, Has, group, Lawful, Fits}
use Rattle.model.specs.Plans.{gathered, next, Round}
use Rattle.model.specs.Distances.{Arc}
use Rattle.sets.proofs.Members.{digit, nothing_in, in_or, or_left, or_right, in_without, without_in, out_or_in}

chosen : (i round x f : ℕ) → In f (cond (has i round) x 0) → In i round × In f x
chosen i round x f h = go (has i round) refl h
  where
    go : (b : Bool) → has i round ≡ b → In f (cond b x 0) → In i round × In f x
    go true e k = (eqb-true (digit i round) 1 e, k)
    go false e k = absurd (nothing_in f k)

choose : (i round x f : ℕ) → In i round → In f x → In f (cond (has i round) x 0)
choose i round x f h k = subst (λ b. In f (cond b x 0)) (sym (eq-eqb (digit i round) 1 h)) k

pub in_gathered : (part : Action → ℕ) (i : ℕ) (acts : List Action) (round f : ℕ) → In f (gathered part i acts round) → (j : ℕ) × (j < length acts) × In (i + j) round × In f (part (get_or acts j idle))
in_gathered part i [] round f h = absurd (nothing_in f h)
in_gathered part i (a ∷ rest) round f h =
    ⊎_elim (λ k. let c = chosen i round (part a) f k in (0, omega arith, subst (λ n. In n round) (sym (add-zero i)) c.0, c.1))
    (λ k. let r = in_gathered part (suc i) rest round f k in (suc r.0, omega (arith, r.1), subst (λ n. In n round) (omega arith) r.2, r.3))
    (in_or f (cond (has i round) (part a) 0) (gathered part (suc i) rest round) h)

pub gathered_in : (part : Action → ℕ) (i : ℕ) (acts : List Action) (round f j : ℕ) → j < length acts → In (i + j) round → In f (part (get_or acts j idle)) → In f (gathered part i acts round)
gathered_in part i [] round f j lt r h = absurd (omega arith)
gathered_in part i (a ∷ rest) round f zero lt r h = or_left f _ _ (choose i round (part a) f (subst (λ n. In n round) (add-zero i) r) h)
gathered_in part i (a ∷ rest) round f (suc j) lt r h = or_right f _ _ (gathered_in part (suc i) rest round f j (omega arith) (subst (λ n. In n round) (omega arith) r) h)

-- some action of the round has f in this part
pub record SomeOf (part : Action → ℕ) (b : Task) (round f : ℕ) : Type 0 where
  pub which : ℕ
  pub known : Has b which
  pub taken : In which round
  pub here : In f (part (action b which))

pub some_of : (part : Action → ℕ) (b : Task) (round f : ℕ) → In f (gathered part 0 b.actions round) → SomeOf part b round f
some_of part b round f h =
    let r = in_gathered part 0 b.actions round f h in
    record { which = r.0; known = r.1; taken = subst (λ n. In n round) (zero-add r.0) r.2; here = r.3 }

pub of_some : (part : Action → ℕ) (b : Task) (round f : ℕ) → SomeOf part b round f → In f (gathered part 0 b.actions round)
of_some part b round f s = gathered_in part 0 b.actions round f s.which s.known (subst (λ n. In n round) (sym (zero-add s.which)) s.taken) s.here

pub in_next : (b : Task) (state round f : ℕ) → In f (next b state round) → (In f state × (SomeOf (λ a. a.deletes) b round f → ⊥)) ⊎ SomeOf (λ a. a.adds) b round f
in_next b state round f h =
    ⊎_elim (λ k. let r = in_without f state _ k in inl (r.0, λ s. r.1 (of_some (λ a. a.deletes) b round f s)))
    (λ k. inr (some_of (λ a. a.adds) b round f k)) (in_or f _ _ h)

pub stays_in : (b : Task) (state round f : ℕ) → In f state → (SomeOf (λ a. a.deletes) b round f → ⊥) → In f (next b state round)
stays_in b state round f h k = or_left f _ _ (without_in f state _ h (λ d. k (some_of (λ a. a.deletes) b round f d)))

pub comes_in : (b : Task) (state round f : ℕ) → SomeOf (λ a. a.adds) b round f → In f (next b state round)
comes_in b state round f s = or_right f _ _ (of_some (λ a. a.adds) b round f s)

pub deleted_or_not : (b : Task) (round f : ℕ) → (SomeOf (λ a. a.deletes) b round f → ⊥) ⊎ SomeOf (λ a. a.deletes) b round f
deleted_or_not b round f =
    ⊎_elim (λ out. inl (λ s. let z : ◌≡◌ {A = ℕ} 0 1 = sym out ∙ of_some (λ a. a.deletes) b round f s in omega arith)) (λ k. inr (some_of (λ a. a.deletes) b round f k))
    (out_or_in f (gathered (λ a. a.deletes) 0 b.actions round))

-- an action that adds a fact of a group deletes the group's fact that it needs
moved_by : (a : Action) (g f : ℕ) → Fits a g → In f g → In f a.adds → One a.adds g × One a.deletes g × ((i : ℕ) → In i g → In i a.deletes → In i a.needs)
moved_by a g f fit k h = ⊎_elim (λ rest. absurd (rest.0 f h k)) (λ m. m) fit.moves

module _ (b : Task) (ok : Lawful b) (state round : ℕ) (lawful : Round b state round) (g : ℕ) (within : g < length b.groups) (one : One state (group b g)) where
  abbrev G : ℕ
  G = group b g

  -- two actions of the round that touch the group are the same
  same_mover : (a c v : ℕ) → In a round → In c round → In v (action b a).deletes → In v (action b c).needs → a ≡ c
  same_mover a c v ra rc d n = ⊎_elim (λ e. e) (λ differ. absurd (lawful.calm a c ra rc differ (v, inl (d, inl n)))) (cases_eq a c)

  -- an action of the round that adds a fact of the group deletes the state's fact of it
  pub leaves : (f : ℕ) → In f G → (s : SomeOf (λ a. a.adds) b round f) → In one.0 (action b s.which).deletes × In one.0 (action b s.which).needs
  leaves f k s =
      let m = moved_by (action b s.which) G f (ok.fits s.which g s.known within) k s.here in
      let v = m.1.0 in
      let needed : In v (action b s.which).needs = m.2 v m.1.2 m.1.1 in
      let same : v ≡ one.0 = one.3 v (lawful.ready s.which s.taken v needed) m.1.2 in
      (subst (λ n. In n (action b s.which).deletes) same m.1.1, subst (λ n. In n (action b s.which).needs) same needed)

  pub record Moved : Type 0 where
    pub now : One (next b state round) (group b g)
    pub by : (one.0 ≡ now.0) ⊎ Arc b g one.0 now.0

  pub moved : Moved
  moved = ⊎_elim kept gone (deleted_or_not b round one.0)
    where
      kept : (SomeOf (λ a. a.deletes) b round one.0 → ⊥) → Moved
      kept no_one = record {
        now = (one.0, stays_in b state round one.0 one.1 no_one, one.2, λ j h k. ⊎_elim (λ old. one.3 j old.0 k) (λ new. absurd (no_one (record { which = new.which; known = new.known; taken = new.taken; here = (leaves j k new).0 }))) (in_next b state round j h));
        by = inl refl;
      }

      gone : SomeOf (λ a. a.deletes) b round one.0 → Moved
      gone d =
          let fit = ok.fits d.which g d.known within in
          let m : One (action b d.which).adds G × One (action b d.which).deletes G × ((i : ℕ) → In i G → In i (action b d.which).deletes → In i (action b d.which).needs) = ⊎_elim (λ rest. absurd (rest.1 one.0 d.here one.2)) (λ m. m) fit.moves in
          let w = m.0.0 in
          record {
            now = (
              w,
              comes_in b state round w (record { which = d.which; known = d.known; taken = d.taken; here = m.0.1 }),
              m.0.2,
              λ j h k. ⊎_elim (λ old. absurd (old.1 (subst (λ n. SomeOf (λ a. a.deletes) b round n) (sym (one.3 j old.0 k)) d)))
                  (λ new. m.0.3 j (subst (λ n. In j (action b n).adds) (sym (same_mover d.which new.which one.0 d.taken new.taken d.here (leaves j k new).1)) new.here) k) (in_next b state round j h),
            );
            by = inr (one.2, m.0.2, (d.which, d.known, d.here, m.0.1));
          }
