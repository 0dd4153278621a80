use Rattle.std.proofs.Common.{◌≡◌, ◌<◌, Option, subst, arith}
use Rattle.std.specs.Prelude.{slice_get}
use Rattle.live_lanes.specs.declared.ask.extent.Extent.{Extent}
use Rattle.live_lanes.specs.declared.row.Cell.{Cell}
use Rattle.live_lanes.specs.Table.{Numbers}
use Rattle.live_lanes.specs.Entered.{cells_of, piece_count}
use Rattle.live_lanes.specs.Extents.{extent_in}
use Rattle.interference.specs.Clashes.{AreApart, AreFilled, held_of}
use Rattle.interference.specs.Listed.{IsClear}
use Rattle.interference.proofs.Thinned.{upto-more}
use Rattle.interference.proofs.Filled.{Puts, far-first, clear-next, far-next, far-end, far-refused}
use Rattle.interference.proofs.Refused.{on-err}
use Rattle.interference.proofs.unit_table.add_extents.Goals as goal

pub pieces-init : goal.pieces-init
pieces-init c = λ room. far-first c.args.live.now.table.order.slots c.args.range (slice_get (cells_of c.args.live.now.table.rows.rows.items c.args.lane) c.args.place) c.args.list.now room

pub pieces-preserved : goal.pieces-preserved
pieces-preserved c = λ room.
    let slots = c.args.live.now.table.order.slots in
    let v = c.args.range in
    let o : Option Cell = slice_get (cells_of c.args.live.now.table.rows.rows.items c.args.lane) c.args.place in
    let i = c.pieces.index in
    let lt : i < piece_count o = let e : c.piece_count-index-end.result ≡ piece_count o = c.piece_count-index-end.ensures in omega arith in
    let far = c.pieces.invariant room in
    let puts : AreFilled c.pieces.list → AreApart slots 0 (held_of c.pieces.list) → IsClear slots v (held_of c.pieces.list) (extent_in o i) → Puts slots v (extent_in o i) c.pieces.list c.add_extent.new.list =
    subst (λ (q : Option Extent). AreFilled c.pieces.list → AreApart slots 0 (held_of c.pieces.list) → IsClear slots v (held_of c.pieces.list) q → Puts slots v q c.pieces.list c.add_extent.new.list) c.extent.ensures
    (subst (λ (ns : Numbers). AreFilled c.pieces.list → AreApart ns 0 (held_of c.pieces.list) → IsClear ns v (held_of c.pieces.list) c.extent.result → Puts ns v c.extent.result c.pieces.list c.add_extent.new.list) c.slots.ensures c.in_ok-add_extent.ensures.ok) in
    far-next slots v o i c.args.list.now c.pieces.list c.add_extent.new.list far (puts far.kept.filled far.kept.apart (clear-next slots v o i c.args.list.now c.pieces.list room far lt)) (upto-more o i)

pub returns-in_err-add_extent-clause-err : goal.returns-in_err-add_extent-clause-err
returns-in_err-add_extent-clause-err c =
    let slots = c.args.live.now.table.order.slots in
    let v = c.args.range in
    let o : Option Cell = slice_get (cells_of c.args.live.now.table.rows.rows.items c.args.lane) c.args.place in
    let i = c.pieces.index in
    let lt : i < piece_count o = let e : c.piece_count-index-end.result ≡ piece_count o = c.piece_count-index-end.ensures in omega arith in
    on-err c.from_residual.result (far-refused slots v o i c.args.list.now c.pieces.list c.add_extent.new.list lt c.pieces.invariant c.in_err-add_extent.ensures.filled c.in_err-add_extent.ensures.err)

pub returns-clause-ok : goal.returns-clause-ok
returns-clause-ok c =
    let slots = c.args.live.now.table.order.slots in
    let o : Option Cell = slice_get (cells_of c.args.live.now.table.rows.rows.items c.args.lane) c.args.place in
    let e : c.pieces.index ≡ piece_count o = let n : c.piece_count-index-end.result ≡ piece_count o = c.piece_count-index-end.ensures in omega arith in
    far-end slots c.args.range o c.pieces.index c.args.list.now c.pieces.list e c.pieces.invariant
