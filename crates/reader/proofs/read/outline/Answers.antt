use Rattle.std.proofs.Common.{◌≡◌, ℕ, List, Ok, Err, Result, refl, ap, ◌∙◌, ap₂}
use Rattle.std.specs.Result.{result_map_both}
use Rattle.faults.specs.declared.Fault.{Fault}
use Rattle.book.specs.declared.outline.Outline.{Outline}
use Rattle.reader.specs.Formats.{Read, with_place, read_outline}
use Rattle.reader.proofs.read.outline.Goals as goal

value_of_place : (r : Result Outline Fault) (p : ℕ) → r ≡ result_map_both (λ x. x.0) (λ e. e) (with_place r p)
value_of_place (Ok o) p = refl
value_of_place (Err e) p = refl

pub returns : goal.returns
returns c =
    let r = c.outline.result in
    let place = c.outline.new.self.pos in
    let value : Read Outline Fault → Result Outline Fault = result_map_both (λ x. x.0) (λ e. e) in
    value_of_place r place
    ∙ ap value (c.outline.ensures.1 ∙ ap₂ (λ (bs : List ℕ) (p : ℕ). read_outline bs p) c.new.ensures.bytes c.new.ensures.pos)
