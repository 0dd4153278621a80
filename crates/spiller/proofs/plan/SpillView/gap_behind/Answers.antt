use Rattle.std.proofs.Common.{◌∙◌, ap}
use Rattle.std.specs.Prelude.{slice_get}
use Rattle.mir_func.specs.Value.{Function}
use Rattle.spiller.proofs.Behind.{gap-found}
use Rattle.spiller.proofs.plan.SpillView.gap_behind.Goals as goal

pub returns : goal.returns
returns c gap behind = gap-found c.args.self.now c.args.id gap c.position_of-position.result c.place_of-place.result c.block_number.result c.id_behind_at.result behind c.position_of-position.ensures (λ h. c.place_of-place.ensures h.finds h.position h.place h.block h.instr h.is_block h.is_instr h.named) c.block_number.ensures (λ b e. c.id_behind_at.ensures b (ap (λ (f : Function). slice_get f.blocks c.position_of-position.result) c.func.ensures ∙ e))
