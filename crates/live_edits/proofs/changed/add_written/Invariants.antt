use Rattle.std.proofs.Common.{take}
use Rattle.live_edits.specs.Told.{HasWritten}
use Rattle.live_edits.proofs.changed.add_written.Given as goal

abbrev pub invariant-cells : goal.invariant-cells
invariant-cells l = HasWritten (take l.cell-index l.all) l.pieces.items
