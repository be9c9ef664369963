-- The worked facts, by computing.
use Rattle.std.proofs.Common.{◌≡◌, ℕ, zero, suc, ◌^◌, ◌<◌, length, Some, None, Option, refl, subst, arith, lit<}
use Rattle.model.specs.Tasks.{group}
use Rattle.model.specs.Distances.{Distance}
use Rattle.model.specs.Gaps.{Gap}
use Rattle.londex.specs.Bounds.{Covers, Spared}
use Rattle.londex.proofs.Rules.{Ruled, gap_same, gap_other}
use Rattle.worked.specs.Sample.{sample, Worked}
use Rattle.worked.proofs.Layers.{far, far_is}
use Rattle.worked.proofs.Spans.{bound, bound_covers}
use Rattle.worked.proofs.Strips.{plan_valid, strip_barred}

small : (g : ℕ) → g < length sample.groups → group sample g < 2 ^ 64
small zero h = lit< tt
small (suc zero) h = lit< tt
small (suc (suc zero)) h = lit< tt
small (suc (suc (suc g))) h = absurd (omega arith)

covers : (a c : ℕ) (k : Option ℕ) → bound sample small a c ≡ k → Covers (Ruled sample a c) k
covers a c k e = subst (Covers (Ruled sample a c)) e (bound_covers sample small a c)

distance : (g v w : ℕ) (r : Option ℕ) → group sample g < 2 ^ 64 → v < 64 → w < 64 → far sample g v w ≡ r → Distance sample g v w r
distance g v w r s lv lw e = subst (Distance sample g v w) e (far_is sample g v w s lv lw)

pub worked : Worked
worked = record {
  opens = distance 0 0 1 (Some 1) (lit< tt) (lit< tt) (lit< tt) refl;
  loads = distance 1 2 4 (Some 2) (lit< tt) (lit< tt) (lit< tt) refl;
  stays_new = distance 1 4 2 None (lit< tt) (lit< tt) (lit< tt) refl;
  enter_load = gap_other sample 2 3 (Some 1) (λ e. omega arith) (covers 2 3 (Some 1) refl);
  load_enter = gap_other sample 3 2 None (λ e. omega arith) (covers 3 2 None refl);
  open_calibrate = gap_other sample 0 6 (Some 2) (λ e. omega arith) (covers 0 6 (Some 2) refl);
  open_open = gap_same sample 0 0 (Some 2) (Some 2) refl (λ e. absurd (omega arith), λ _. refl) (covers 0 0 (Some 2) refl);
  calibrate_twice = gap_same sample 6 6 (Some 0) (Some 0) refl (λ e. refl, λ _. refl) (covers 6 6 (Some 0) refl);
  plan = plan_valid;
  barred = strip_barred;
}
