use Rattle.std.proofs.Common.{◌∙◌, ap, map}
use Rattle.live_lanes.specs.Table.{begun, piece_at}
use Rattle.live_lanes.proofs.Starting.{starts-none, starts-own, starts-other}
use Rattle.live_lanes.proofs.row.Cell.segment_of.Goals as goal

pub returns-then-index-eq0 : goal.returns-then-index-eq0
returns-then-index-eq0 c = λ r.
    let ss = map begun c.args.self.now.segments.items in
    starts-none c.args.slots.now c.args.id ss c.piece_at-index.result c.if-index-eq0.true (c.piece_at-index.ensures.piece r ∙ ap (λ at. piece_at c.args.slots.now at ss) c.exit_rank.ensures) r

pub returns-then-segment-id : goal.returns-then-segment-id
returns-then-segment-id c = λ r.
    let ss = map begun c.args.self.now.segments.items in
    starts-other c.args.slots.now c.args.id c.args.self.now.segments.items c.piece_at-index.result c.index-segment.result.now c.if-index-eq0.false c.piece_at-index.ensures.within c.index-segment.ensures (c.piece_at-index.ensures.piece r ∙ ap (λ at. piece_at c.args.slots.now at ss) c.exit_rank.ensures) c.if-segment-id.true r

pub returns : goal.returns
returns c = λ r.
    let ss = map begun c.args.self.now.segments.items in
    starts-own c.args.slots.now c.args.id c.args.self.now.segments.items c.piece_at-index.result c.index-segment.result.now c.if-index-eq0.false c.piece_at-index.ensures.within c.index-segment.ensures (c.piece_at-index.ensures.piece r ∙ ap (λ at. piece_at c.args.slots.now at ss) c.exit_rank.ensures) c.if-segment-id.false r
