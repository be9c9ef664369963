-- What is typed, byte by byte.
use Rattle.std.proofs.Common.{◌≡◌, ℕ, ◌+◌, ◌<◌, List, [], ◌∷◌, ◌++◌, length, get_or, take, sym, refl, ap, ◌∙◌, subst, inl, inr, append_assoc, append-nil, arith}
use Rattle.std.proofs.lemmas.List.{take_more}
use Rattle.model.specs.Tasks.{Task}
use Rattle.lines.specs.declared.reply.Reply.{Reply}
use Rattle.lines.specs.Replies.{text}
use Rattle.lines.proofs.Fronts.{front_commands, take_push}
use Rattle.session.specs.Sessions.{Replies, Prints, waits, goes_on, answers, Takes, Whole, Follows}

module _ (b : Task) where
  -- one byte more, and it ends no line
  prints_byte : {line bytes printed left : List ℕ} (x : ℕ) → (x ≡ 10 → ⊥) → Prints b line bytes printed left → Prints b line (bytes ++ (x ∷ [])) printed (left ++ (x ∷ []))
  prints_byte x n waits = goes_on x n waits
  prints_byte x n (goes_on y m rest) = goes_on y m (prints_byte x n rest)
  prints_byte x n (answers reply r rest) = answers reply r (prints_byte x n rest)

  -- one line feed more
  prints_line : (line bytes printed left : List ℕ) (reply : Reply) → Replies b left reply → Prints b line bytes printed left → Prints b line (bytes ++ (10 ∷ [])) (printed ++ (text reply ++ (10 ∷ []))) []
  prints_line line bytes printed left reply r waits = answers reply r waits
  prints_line line bytes printed left reply r (goes_on y m rest) = goes_on y m (prints_line _ _ _ _ reply r rest)
  prints_line line bytes printed left reply r (answers {bytes = more} {printed = last} first q rest) =
      subst (λ (out : List ℕ). Prints b line (10 ∷ (more ++ (10 ∷ []))) out []) (sym (append_assoc (text first) (10 ∷ last) (text reply ++ (10 ∷ []))))
      (answers first q (prints_line [] more last left reply r rest))

  -- the first 16 bytes of a line are answered as the line is
  replies_front : (line : List ℕ) (reply : Reply) → Replies b (take 16 line) reply → Replies b line reply
  replies_front line reply (r, reads, said) = (r, front_commands line r reads, said)

  pub follows_more : (x : ℕ) (kept after typed printed out out' : List ℕ) → Takes b x kept after out out' → Follows b kept typed printed
      → (more : List ℕ) × Follows b after (typed ++ (x ∷ [])) (printed ++ more) × (out' ≡ out ++ more)
  follows_more x kept after typed printed out out' (inl (n, held, still)) (line, prints, front) = (
    [],
    (
      line ++ (x ∷ []),
      subst (λ (p : List ℕ). Prints b [] (typed ++ (x ∷ [])) p (line ++ (x ∷ []))) (sym (append-nil printed)) (prints_byte x n prints),
      sym (take_push line x) ∙ ap (λ (l : List ℕ). take 16 (l ++ (x ∷ []))) front ∙ sym held,
    ),
    still ∙ sym (append-nil out),
  )
  follows_more x kept after typed printed out out' (inr (is, held, (reply, r, put))) (line, prints, front) = (
    text reply ++ (10 ∷ []),
    (
      [],
      subst (λ (y : ℕ). Prints b [] (typed ++ (y ∷ [])) (printed ++ (text reply ++ (10 ∷ []))) []) (sym is)
          (prints_line [] typed printed line reply (replies_front line reply (subst (λ (l : List ℕ). Replies b l reply) (sym front) r)) prints),
      sym held,
    ),
    put,
  )

  -- the end, with a line left
  pub whole_line : (kept typed printed : List ℕ) (reply : Reply) → (kept ≡ [] → ⊥) → Replies b kept reply → Follows b kept typed printed → Whole b typed (printed ++ (text reply ++ (10 ∷ [])))
  whole_line kept typed printed reply some r (line, prints, front) = (
    printed,
    line,
    text reply ++ (10 ∷ []),
    prints,
    inr (λ e. some (sym front ∙ ap (take 16) e), (reply, replies_front line reply (subst (λ (l : List ℕ). Replies b l reply) (sym front) r), refl)),
    refl,
  )

-- one byte more of a block
pub feed_more : (b b' : Task) → b' ≡ b → (block : List ℕ) (i : ℕ) → i < length block → (kept after typed printed start out out' : List ℕ) → Takes b (get_or block i 0) kept after out out'
    → (more : List ℕ) × Follows b kept (typed ++ take i block) (printed ++ more) × (out ≡ start ++ more)
    → (more : List ℕ) × Follows b' after (typed ++ take (i + 1) block) (printed ++ more) × (out' ≡ start ++ more)
feed_more b b' same block i l kept after typed printed start out out' took (m, follows, is) =
    let x = get_or block i 0 in
    let step = follows_more b x kept after (typed ++ take i block) (printed ++ m) out out' took follows in
    let front : (typed ++ take i block) ++ (x ∷ []) ≡ typed ++ take (i + 1) block = append_assoc typed (take i block) (x ∷ []) ∙ ap (λ (t : List ℕ). typed ++ t) (sym (take_more block i 0 l)) in (
      m ++ step.0,
      subst (λ (t : Task). Follows t after (typed ++ take (i + 1) block) (printed ++ (m ++ step.0))) (sym same)
          (subst (λ (t : List ℕ). Follows b after t (printed ++ (m ++ step.0))) front
          (subst (λ (p : List ℕ). Follows b after ((typed ++ take i block) ++ (x ∷ [])) p) (append_assoc printed m step.0) step.1)),
      step.2 ∙ ap (λ (o : List ℕ). o ++ step.0) is ∙ append_assoc start m step.0,
    )
