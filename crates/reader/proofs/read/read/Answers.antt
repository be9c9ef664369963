use Rattle.std.proofs.Common.{Err, sym, inl, inr}
use Rattle.std.proofs.lemmas.Result.{err_from_is_err_and}
use Rattle.faults.specs.declared.Fault.TheVariants.{AddsAndDeletes, SharedGroup, NotOneAtStart, BrokenGroup, BarAtStart}
use Rattle.book.specs.Views.{task}
use Rattle.reader.specs.Reads.{Reads}
use Rattle.reader.proofs.Order.{first_7, first_8, first_9, first_10, first_11, unbroken}
use Rattle.reader.proofs.Outlines.{outline_tidy, tidy_lawful}
use Rattle.reader.proofs.FileRounds.{read_written}
use Rattle.reader.proofs.Acceptance.{reads_accepts}
use Rattle.reader.proofs.read.read.Goals as goal

pub returns-in_err-outline : goal.returns-in_err-outline
returns-in_err-outline c =
    let p = err_from_is_err_and c.from_residual.result c.from_residual.ensures.1 in
    let h : Reads c.args.bytes.now c.from_residual.result = rw (p.1, p.2) (inl (sym c.in_err-outline.ensures)) in
    record { reads = h; accepts = reads_accepts c.args.bytes.now (λ i. (c.type_inv.bytes i).fits) c.from_residual.result h }

pub returns-in-Some : goal.returns-in-Some
returns-in-Some c =
    let o = c.in_ok-outline.outline in
    let h : Reads c.args.bytes.now (Err (AddsAndDeletes c.in-Some.a)) =
    inr (o, sym c.in_ok-outline.ensures, first_7 (task o) c.in-Some.a c.in-Some.ensures) in
    record { reads = h; accepts = reads_accepts c.args.bytes.now (λ i. (c.type_inv.bytes i).fits) (Err (AddsAndDeletes c.in-Some.a)) h }

pub returns-in-Some-shared_group : goal.returns-in-Some-shared_group
returns-in-Some-shared_group c =
    let o = c.in_ok-outline.outline in
    let h : Reads c.args.bytes.now (Err (SharedGroup c.in-Some-shared_group.g)) =
    inr (o, sym c.in_ok-outline.ensures, first_8 (task o) c.in_default.ensures c.in-Some-shared_group.g c.in-Some-shared_group.ensures) in
    record { reads = h; accepts = reads_accepts c.args.bytes.now (λ i. (c.type_inv.bytes i).fits) (Err (SharedGroup c.in-Some-shared_group.g)) h }

pub returns-in-Some-not_one_at_start : goal.returns-in-Some-not_one_at_start
returns-in-Some-not_one_at_start c =
    let o = c.in_ok-outline.outline in
    let h : Reads c.args.bytes.now (Err (NotOneAtStart c.in-Some-not_one_at_start.g)) =
    inr (o, sym c.in_ok-outline.ensures, first_9 (task o) c.in_default.ensures c.in_default-shared_group.ensures c.in-Some-not_one_at_start.g c.in-Some-not_one_at_start.ensures) in
    record { reads = h; accepts = reads_accepts c.args.bytes.now (λ i. (c.type_inv.bytes i).fits) (Err (NotOneAtStart c.in-Some-not_one_at_start.g)) h }

pub returns-in-Some-broken_group : goal.returns-in-Some-broken_group
returns-in-Some-broken_group c =
    let o = c.in_ok-outline.outline in
    let h : Reads c.args.bytes.now (Err (BrokenGroup c.in-Some-broken_group.a)) =
    inr (o, sym c.in_ok-outline.ensures, first_10 (task o) c.in_default.ensures c.in_default-shared_group.ensures c.in_default-not_one_at_start.ensures c.in-Some-broken_group.a c.in-Some-broken_group.ensures) in
    record { reads = h; accepts = reads_accepts c.args.bytes.now (λ i. (c.type_inv.bytes i).fits) (Err (BrokenGroup c.in-Some-broken_group.a)) h }

pub returns-in-Some-bar_at_start : goal.returns-in-Some-bar_at_start
returns-in-Some-bar_at_start c =
    let o = c.in_ok-outline.outline in
    let h : Reads c.args.bytes.now (Err (BarAtStart c.in-Some-bar_at_start.i)) =
    inr (o, sym c.in_ok-outline.ensures, first_11 (task o) c.in_default.ensures c.in_default-shared_group.ensures c.in_default-not_one_at_start.ensures c.in_default-broken_group.ensures c.in-Some-bar_at_start.i c.in-Some-bar_at_start.ensures) in
    record { reads = h; accepts = reads_accepts c.args.bytes.now (λ i. (c.type_inv.bytes i).fits) (Err (BarAtStart c.in-Some-bar_at_start.i)) h }

pub invariant_of-result : goal.invariant_of-result
invariant_of-result c =
    let o = c.in_ok-outline.outline in
    let t = outline_tidy c.args.bytes.now o (sym c.in_ok-outline.ensures) in
    record { lawful = ∣ tidy_lawful o t (unbroken (task o) c.in_default.ensures c.in_default-shared_group.ensures c.in_default-not_one_at_start.ensures c.in_default-broken_group.ensures c.in_default-bar_at_start.ensures) ∣₁ }

pub returns : goal.returns
returns c =
    let h = sym c.in_ok-outline.ensures in
    record { reads = h; accepts = read_written c.args.bytes.now (λ i. (c.type_inv.bytes i).fits) c.in_ok-outline.outline h }
