use Rattle.std.proofs.Common.{arith, ap, ◌∙◌, ◌≡◌, ◌+◌, ◌-◌, length}
use Rattle.live_lanes.specs.declared.row.Piece.{Piece}
use Rattle.live_lanes.specs.Table.{Begun, begun}
use Rattle.live_lanes.proofs.Last.{last-reading}
use Rattle.live_lanes.proofs.Raised.{on-ok, same-begun}
use Rattle.live_lanes.proofs.row.Cell.add_reading.Goals as goal

pub returns-else-count-eq0-clause-added : goal.returns-else-count-eq0-clause-added
returns-else-count-eq0-clause-added c =
    let x = c.index_mut.result.now in
    let p = c.add_reading-else-count-eq0 in
    let segments = c.args.self.now.segments in
    let last : c.len-count.result - 1 + 1 ≡ length segments.items = omega (arith, segments.ok.0, c.len-count.ensures, c.if-count-eq0.false) in
    on-ok p.result p.ensures.added (λ e. last-reading c.args.self.now c.args.reading (c.len-count.result - 1) x (record x { piece = p.new.self }) last c.index_mut.ensures.value (same-begun x p.new.self c.args.reading p.ensures.cause p.ensures.end e))
