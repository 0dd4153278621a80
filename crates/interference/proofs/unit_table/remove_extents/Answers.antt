use Rattle.std.proofs.Common.{◌≡◌, List, [], Option, sym, subst, arith}
use Rattle.std.specs.Prelude.{slice_get}
use Rattle.std.specs.List.{cons_option}
use Rattle.live_lanes.specs.declared.ask.extent.Extent.{Extent}
use Rattle.live_lanes.specs.declared.row.Cell.{Cell}
use Rattle.live_lanes.specs.Table.{Numbers}
use Rattle.live_lanes.specs.Entered.{cells_of, piece_count}
use Rattle.live_lanes.specs.Extents.{extent_in}
use Rattle.interference.specs.Listed.{IsThinned}
use Rattle.interference.proofs.Thinned.{thin-none, thin-both, upto, upto-more, upto-all}
use Rattle.interference.proofs.unit_table.remove_extents.Goals as goal

pub pieces-init : goal.pieces-init
pieces-init c = thin-none c.args.live.now.table.order.slots c.args.range c.args.list.now

pub pieces-preserved : goal.pieces-preserved
pieces-preserved c =
    let slots = c.args.live.now.table.order.slots in
    let v = c.args.range in
    let o : Option Cell = slice_get (cells_of c.args.live.now.table.rows.rows.items c.args.lane) c.args.place in
    let i = c.pieces.index in
    let one : IsThinned slots v (cons_option (extent_in o i) []) c.pieces.list c.remove_extent.new.list =
    subst (λ (q : Option Extent). IsThinned slots v (cons_option q []) c.pieces.list c.remove_extent.new.list) c.extent.ensures
    (subst (λ (ns : Numbers). IsThinned ns v (cons_option c.extent.result []) c.pieces.list c.remove_extent.new.list) c.slots.ensures c.remove_extent.ensures) in
    subst (λ (es : List Extent). IsThinned slots v es c.args.list.now c.remove_extent.new.list) (sym (upto-more o i)) (thin-both slots v (upto o i) (cons_option (extent_in o i) []) c.args.list.now c.pieces.list c.remove_extent.new.list c.pieces.invariant one)

pub returns : goal.returns
returns c =
    let slots = c.args.live.now.table.order.slots in
    let v = c.args.range in
    let o : Option Cell = slice_get (cells_of c.args.live.now.table.rows.rows.items c.args.lane) c.args.place in
    let e : c.pieces.index ≡ piece_count o = let n : c.piece_count-index-end.result ≡ piece_count o = c.piece_count-index-end.ensures in omega arith in
    subst (λ (es : List Extent). IsThinned slots v es c.args.list.now c.pieces.list) (upto-all o c.pieces.index e) c.pieces.invariant
