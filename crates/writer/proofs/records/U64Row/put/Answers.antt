use Rattle.std.proofs.Common.{◌++◌, List, ℕ, length, ap, ◌∙◌, arith}
use Rattle.reader.specs.Written.{set_bytes}
use Rattle.writer.proofs.Lengths.{set_size}
use Rattle.writer.proofs.records.U64Row.put.Goals as goal

pub extend_from_slice-requires : goal.extend_from_slice-requires
unfolding set_bytes
extend_from_slice-requires c = (omega arith, omega (arith, c.requires, set_size c.args.self, ap length c.to_le_bytes.ensures))

pub returns : goal.returns
unfolding set_bytes
returns c = c.extend_from_slice.ensures ∙ ap (λ (xs : List ℕ). c.args.file.now ++ xs) c.to_le_bytes.ensures
