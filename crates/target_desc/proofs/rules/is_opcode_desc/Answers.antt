use Rattle.std.proofs.Common.{◌∙◌, sym}
use Rattle.target_desc.proofs.Grown.{four}
use Rattle.target_desc.proofs.rules.is_opcode_desc.Goals as goal

pub returns : goal.returns
returns c =
    four _ _ _ _ c.fit.result (rw c.as_slice.ensures at (sym c.if-not-is_op_name.ensures)) (rw c.as_slice-roles.ensures at (sym c.are_known.ensures ∙ c.if-not-are_known.false)) (sym c.scale_fits.ensures ∙ c.if-not-scale_fits.false)
    (rw c.as_slice-roles.ensures at c.fit.ensures)
