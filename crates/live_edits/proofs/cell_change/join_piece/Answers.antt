use Rattle.std.proofs.Common.{◌∙◌, refl, ap, map, length, arith}
use Rattle.live_lanes.specs.Table.{seen_cell, begun}
use Rattle.live_edits.proofs.CellChanged.{map-removed, piece-back}
use Rattle.live_edits.proofs.cell_change.join_piece.Goals as goal

pub returns-clause-changed : goal.returns-clause-changed
returns-clause-changed c = ap (λ ss. record (seen_cell c.args.cell.now) { segments = ss }) (ap (map begun) c.remove.ensures.items ∙ map-removed begun c.args.cell.now.segments.items c.args.at)

pub returns-clause-back : goal.returns-clause-back
returns-clause-back c = piece-back c.args.cell.now c.args.at c.remove.result c.remove.result (omega arith) c.remove.ensures.value c.remove.new.self.items c.len-len.result (length (map begun c.remove.new.self.items)) c.remove.ensures.items (omega arith) refl
