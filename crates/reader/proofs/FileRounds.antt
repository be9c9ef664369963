-- The two laws of the format: what is written is read as the same book, and what was read is written as the same bytes.
use Rattle.std.proofs.Common.{◌≡◌, ℕ, ◌+◌, ◌<◌, ◌≤◌, ltb, List, [], ◌∷◌, ◌++◌, length, get_or, Ok, Err, Result, sym, refl, ap, ◌∙◌, subst, arith}
use Rattle.std.proofs.lemmas.List.{append-nil, drop_all}
use Rattle.std.proofs.lemmas.Bool.{ltb-false, le-ltb}
use Rattle.std.specs.List.{flat_map}
use Rattle.std.specs.Result.{result_map_both}
use Rattle.faults.specs.declared.Record.TheVariants.{Head, Action as InAction, Group as InGroup, Bar as InBar}
use Rattle.faults.specs.declared.Fault.{Fault}
use Rattle.faults.specs.declared.Fault.TheVariants.{Field, BytesLeft}
use Rattle.book.specs.declared.outline.Outline.{Outline}
use Rattle.book.specs.Views.{task}
use Rattle.reader.specs.Formats.{Read, read_counts, read_ends, read_action, read_set, read_many, fault_in, read_end, read_outline, outline_of}
use Rattle.reader.specs.Written.{set_bytes, ends_bytes, action_bytes, counts_bytes, written}
use Rattle.reader.proofs.Ranges.{follow_by, same_ok, cond_err, set_range, action_range, many_range, Known, KnownAction}
use Rattle.reader.proofs.Outlines.{Tidy}
use Rattle.reader.proofs.Spans.{Spans, spans_append, spans_split, spans_all}
use Rattle.reader.proofs.Rounds.{set_read, set_spans}
use Rattle.reader.proofs.RecordRounds.{counts_read, counts_spans, ends_read, ends_spans, action_read, action_spans, many_read, many_spans}

outline_read : (bs : List ℕ) (p q : ℕ) (o : Outline) → Tidy o → Spans bs p (written o) q → length bs ≤ q → read_outline bs p ≡ Ok (o, q)
unfolding written
outline_read bs p q o t s all =
    let few = t.facts.1 in
    let actions = flat_map action_bytes (task o).actions in
    let groups = flat_map set_bytes (task o).groups in
    let n = spans_split bs p q (counts_bytes o) _ s in
    let p₁ = p + 4 in
    let x = spans_split bs p₁ q (ends_bytes o.initial o.goal) _ n.1 in
    let p₂ = p₁ + length (ends_bytes o.initial o.goal) in
    let a = spans_split bs p₂ q actions _ x.1 in
    let p₃ = p₂ + length actions in
    let g = spans_split bs p₃ q groups _ a.1 in
    let p₄ = p₃ + length groups in
    rw (
      counts_read bs p p₁ (record { facts = o.facts; actions = length o.actions; groups = length o.groups; bars = length o.bars })
          (record { facts = t.facts; actions = t.few.0; groups = t.few.1; bars = t.few.2 }) n.0,
      ends_read bs o.facts few p₁ p₂ (record { initial = o.initial; goal = o.goal }) t.ends x.0,
      many_read (read_action o.facts) action_bytes bs (KnownAction o.facts) (action_read bs o.facts few) o.actions 0 p₂ p₃ t.actions a.0,
      many_read (read_set o.facts) set_bytes bs (Known o.facts) (set_read bs o.facts few) o.groups 0 p₃ p₄ t.groups g.0,
      many_read (read_set o.facts) set_bytes bs (Known o.facts) (set_read bs o.facts few) o.bars 0 p₄ q t.bars g.1,
      le-ltb q (length bs) all,
    )

end_stops : (bs : List ℕ) (p q : ℕ) (u : Unit {0}) → read_end bs p ≡ Ok (u, q) → (p ≡ q) × (length bs ≤ q)
end_stops bs p q u e =
    let c = cond_err (ltb p (length bs)) _ (u, q) (BytesLeft p) e in
    let stop : p ≡ q = ap (λ (x : Unit {0} × ℕ). x.1) (same_ok (tt, p) (u, q) c.1) in
    (stop, omega (arith, ltb-false p (length bs) c.0))

outline_spans : (bs : List ℕ) → ((i : ℕ) → get_or bs i 0 < 256) → (p q : ℕ) (o : Outline) → read_outline bs p ≡ Ok (o, q) → Spans bs p (written o) q × (length bs ≤ q)
unfolding written
outline_spans bs low p q o e =
    follow_by (Field Head) (read_counts bs p) _ (o, q) e λ n p₁ n_read then_x.
    follow_by (Field Head) (read_ends n.facts bs p₁) _ (o, q) then_x λ x p₂ x_read then_a.
    follow_by (fault_in InAction) (read_many (read_action n.facts) n.actions 0 bs p₂) _ (o, q) then_a λ a p₃ a_read then_g.
    follow_by (fault_in InGroup) (read_many (read_set n.facts) n.groups 0 bs p₃) _ (o, q) then_g λ g p₄ g_read then_h.
    follow_by (fault_in InBar) (read_many (read_set n.facts) n.bars 0 bs p₄) _ (o, q) then_h λ h p₅ h_read then_z.
    follow_by (λ e. e) (read_end bs p₅) _ (o, q) then_z λ z p₆ z_read done.
    let stop = end_stops bs p₅ p₆ z z_read in
    let actions = many_spans (read_action n.facts) action_bytes bs (action_spans bs low n.facts) n.actions 0 p₂ p₃ a a_read in
    let groups = many_spans (read_set n.facts) set_bytes bs (set_spans bs low n.facts) n.groups 0 p₃ p₄ g g_read in
    let bars = many_spans (read_set n.facts) set_bytes bs (set_spans bs low n.facts) n.bars 0 p₄ p₅ h h_read in
    let as_many_a : n.actions ≡ length a = sym (many_range (read_action n.facts) (KnownAction n.facts) (action_range n.facts) n.actions 0 bs p₂ a p₃ a_read).0 in
    let as_many_g : n.groups ≡ length g = sym (many_range (read_set n.facts) (Known n.facts) (set_range n.facts) n.groups 0 bs p₃ g p₄ g_read).0 in
    let as_many_h : n.bars ≡ length h = sym (many_range (read_set n.facts) (Known n.facts) (set_range n.facts) n.bars 0 bs p₄ h p₅ h_read).0 in
    let counts : Spans bs p (n.facts ∷ length a ∷ length g ∷ length h ∷ []) p₁ = rw (← as_many_a, ← as_many_g, ← as_many_h) (counts_spans bs p p₁ n n_read) in
    let Taken : Outline × ℕ → Type 0 = λ y. Spans bs p (written y.0) y.1 × (length bs ≤ y.1) in
    subst Taken (same_ok _ (o, q) done) (
      spans_append bs p p₁ p₆ (n.facts ∷ length a ∷ length g ∷ length h ∷ []) _ counts
          (spans_append bs p₁ p₂ p₆ (ends_bytes x.initial x.goal) _ (ends_spans bs low n.facts p₁ p₂ x x_read)
          (spans_append bs p₂ p₃ p₆ _ _ actions (spans_append bs p₃ p₄ p₆ _ _ groups (rw stop.0 at bars)))),
      stop.1,
    )

-- what is written is read as the same outline
pub written_read : (o : Outline) → Tidy o → outline_of (written o) ≡ Ok o
written_read o t =
    let value : Read Outline Fault → Result Outline Fault = result_map_both (λ x. x.0) (λ e. e) in
    ap value (outline_read (written o) 0 (length (written o)) o t (spans_all (written o)) (omega arith))

-- what was read is written as the same bytes
pub read_written : (bs : List ℕ) → ((i : ℕ) → get_or bs i 0 < 256) → (o : Outline) → outline_of bs ≡ Ok o → written o ≡ bs
read_written bs low o e = go (read_outline bs 0) e (λ p q h. outline_spans bs low 0 q p h)
  where
    go : (r : Read Outline Fault) → result_map_both (λ x. x.0) (λ e. e) r ≡ Ok o → ((p : Outline) (q : ℕ) → r ≡ Ok (p, q) → Spans bs 0 (written p) q × (length bs ≤ q)) → written o ≡ bs
    go (Ok (p, q)) k spans =
        let same : p ≡ o = cc in
        let s = spans p q refl in
        sym (s.0.bytes ∙ ap (λ (l : List ℕ). written p ++ l) (drop_all q bs s.1) ∙ append-nil (written p) ∙ ap written same)
    go (Err d) k spans = let no_way : ◌≡◌ {A = ℕ} 0 1 = cc in absurd (omega arith)
