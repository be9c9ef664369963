use Rattle.std.proofs.Common.{◌++◌, List, ℕ, length, sym, ap, ◌∙◌, arith}
use Rattle.reader.specs.Written.{set_bytes}
use Rattle.writer.proofs.Lengths.{set_size, field_some, field_size}
use Rattle.writer.proofs.fields.put_field.Goals as goal

pub extend_from_slice-requires : goal.extend_from_slice-requires
unfolding set_bytes
extend_from_slice-requires c = (omega arith, omega (arith, c.requires, field_size c.args.s c.if-s-ne0.true, set_size c.args.s, ap length c.to_le_bytes.ensures))

pub returns-then-s-ne0 : goal.returns-then-s-ne0
unfolding set_bytes
returns-then-s-ne0 c =
    c.extend_from_slice.ensures ∙ ap (λ (xs : List ℕ). c.args.file.now ++ xs) (c.to_le_bytes.ensures ∙ sym (field_some c.args.s c.if-s-ne0.true))
