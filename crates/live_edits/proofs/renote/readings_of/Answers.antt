use Rattle.std.proofs.Common.{◌∙◌}
use Rattle.live_edits.proofs.RenotePieces.{readings-at}
use Rattle.live_edits.proofs.renote.readings_of.Goals as goal

pub returns : goal.returns
returns c = c.as_slice-2.ensures.value ∙ readings-at c.args.cell.now.first.readings.items c.args.cell.now.segments.items c.args.index c.index.result.now c.if-index-eq0.false c.requires c.index.ensures
