-- A loop over the members of a set: what is done while some members are left.
use Rattle.std.proofs.Common.{◌≡◌, ℕ, ◌⊎◌, refl, subst, inl, inr, ⊎_elim}
use lib.Bits.{bit_or}
use Rattle.std.proofs.lemmas.Bool.{cases_eq}
use Rattle.sets.specs.Sets.{In, Part, Marks, Splits}
use Rattle.sets.proofs.Members.{in_or, or_left, or_right, nothing_in}

-- x is a member of the set, and no longer one of those left
abbrev pub Done : ℕ → ℕ → ℕ → Type 0
Done set left x = In x set × (In x left → ⊥)

pub done_all : (set left x : ℕ) → left ≡ 0 → In x set → Done set left x
done_all set left x none h = (h, λ k. nothing_in x (subst (λ (n : ℕ). In x n) none k))

module _ (set left i rest : ℕ) (part : Part left set) (s : Splits left i rest) where
  pub part_rest : Part rest set
  part_rest j h = part j (s.others.only j h).0

  pub done_here : Done set rest i
  done_here = (part i s.member, λ k. (s.others.only i k).1 refl)

  pub done_still : (x : ℕ) → Done set left x → Done set rest x
  done_still x d = (d.0, λ k. d.1 (s.others.only x k).0)

  pub done_before : (x : ℕ) → Done set rest x → (x ≡ i) ⊎ Done set left x
  done_before x d = ⊎_elim inl (λ ne. inr (d.0, λ k. d.1 (s.others.all x (k, ne)))) (cases_eq x i)

-- what the members done lead to
abbrev pub LedBy : (ℕ → ℕ) → ℕ → ℕ → ℕ → Type 0
LedBy f set left y = (x : ℕ) × Done set left x × In y (f x)

pub led_more : (f : ℕ → ℕ) (set left i rest all : ℕ) → Part left set → Splits left i rest → Marks (LedBy f set left) all → Marks (LedBy f set rest) (bit_or all (f i))
led_more f set left i rest all part s m = record {
  only = λ y h. ⊎_elim
      (λ k. let p = m.only y k in (p.0, done_still set left i rest part s p.0 p.1, p.2))
      (λ k. (i, done_here set left i rest part s, k))
      (in_or y all (f i) h);
  all = λ y p. ⊎_elim
      (λ e. or_right y all (f i) (subst (λ (x : ℕ). In y (f x)) e p.2))
      (λ d. or_left y all (f i) (m.all y (p.0, d, p.2)))
      (done_before set left i rest part s p.0 p.1);
}
