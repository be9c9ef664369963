-- A lawful book is read back from the bytes that write it, so a file is accepted exactly where some book is written as it.
use Rattle.std.proofs.Common.{◌≡◌, ℕ, ◌<◌, List, get_or, Ok, Err, Result, sym, ◌∙◌, subst, ⊎_elim, arith}
use Rattle.std.proofs.lemmas.List.{get_or_default}
use Rattle.model.specs.Tasks.{Task, Lawful, idle}
use Rattle.model.proofs.Laws.{lawful_from}
use Rattle.faults.specs.declared.Fault.{Fault}
use Rattle.faults.specs.declared.Fault.TheVariants.{Field, BytesLeft, AddsAndDeletes, SharedGroup, NotOneAtStart, BrokenGroup, BarAtStart}
use Rattle.faults.specs.Faults.{Breaks}
use Rattle.book.specs.declared.book.Book.{Book}
use Rattle.book.specs.declared.outline.Outline.{Outline}
use Rattle.book.specs.Views.{task}
use Rattle.reader.specs.Formats.{outline_of}
use Rattle.reader.specs.Written.{written}
use Rattle.reader.specs.Reads.{Reads, Accepts, Gives}
use Rattle.reader.proofs.Ranges.{same_ok}
use Rattle.reader.proofs.Outlines.{Tidy}
use Rattle.reader.proofs.FileRounds.{written_read, read_written}

lawful_tidy : (o : Outline) → Lawful (task o) → Tidy o
lawful_tidy o l = record {
  facts = l.few_facts;
  few = (l.few_actions, l.few_groups, l.few_bars);
  ends = (l.initial_known, l.goal_known);
  actions = λ a d h. rw (get_or_default o.actions a d idle h) (l.actions_known a h);
  groups = λ g d h. rw (get_or_default o.groups g d 0 h) (l.groups_known g h);
  bars = λ i d h. rw (get_or_default o.bars i d 0 h) (l.bars_known i h);
}

-- the first law: every lawful book is read back
pub lawful_read : (o : Outline) → Lawful (task o) → outline_of (written o) ≡ Ok o
lawful_read o l = written_read o (lawful_tidy o l)

lawful_unbroken : (b : Task) → Lawful b → (f : Fault) → Breaks b f → ⊥
lawful_unbroken b l (Field r f) h = h
lawful_unbroken b l (BytesLeft at) h = h
lawful_unbroken b l (AddsAndDeletes a) h = l.consistent a h.0 h.1.0 h.1.1 h.1.2
lawful_unbroken b l (SharedGroup g) h = l.groups_apart h.1.0 g h.1.1 h.0 h.1.2.0 h.1.2.1 h.1.2.2
lawful_unbroken b l (NotOneAtStart g) h = h.1 (l.one_of_each g h.0)
lawful_unbroken b l (BrokenGroup a) h = h.1.2 (l.fits a h.1.0 h.0 h.1.1)
lawful_unbroken b l (BarAtStart i) h = l.no_bar i h.0 h.1

pub reads_back : (b : Book) (r : Result Book Fault) → Reads (written b.outline) r → Gives b.outline r
reads_back b r reads = go r reads
  where
    lawful : Lawful (task b.outline)
    lawful = lawful_from (task b.outline) b.lawful

    says : outline_of (written b.outline) ≡ Ok b.outline
    says = lawful_read b.outline lawful

    go : (r : Result Book Fault) → Reads (written b.outline) r → Gives b.outline r
    go (Ok a) e = same_ok a.outline b.outline (sym e ∙ says)
    go (Err f) e =
        ⊎_elim (λ k. let no_way : ◌≡◌ {A = ℕ} 0 1 = cc (says, k) in omega arith)
        (λ k. lawful_unbroken (task b.outline) lawful f (subst (λ (o : Outline). Breaks (task o) f) (same_ok k.0 b.outline (sym k.1 ∙ says)) k.2.0)) e

pub reads_accepts : (bs : List ℕ) → ((i : ℕ) → get_or bs i 0 < 256) → (r : Result Book Fault) → Reads bs r → Accepts bs r
reads_accepts bs low (Ok b) e = read_written bs low b.outline e
reads_accepts bs low (Err f) e = λ b same. reads_back b (Err f) (subst (λ (l : List ℕ). Reads l (Err f)) (sym same) e)
