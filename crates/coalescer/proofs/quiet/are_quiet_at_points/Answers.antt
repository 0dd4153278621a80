use Rattle.std.proofs.Common.{◌≡◌, ◌∙◌, true, map, sym, ap, subst, arith}
use Rattle.std.specs.List.{list_all}
use Rattle.std.proofs.lemmas.List.{length-map}
use Rattle.live_lanes.specs.declared.ask.extent.Stretch.{Stretch}
use Rattle.live_lanes.specs.Table.{Begun, Numbers, begun, seen_cell}
use Rattle.coalescer.specs.Asked.{is_quiet_writing, piece_stretch}
use Rattle.coalescer.proofs.Along.{all-by-pieces, part}
use Rattle.coalescer.proofs.Unseen.{by-apart}
use Rattle.coalescer.proofs.quiet.are_quiet_at_points.Goals as goal
use borrow.Author.Count.{below_more}

pub returns-then-not-are_quiet_within : goal.returns-then-not-are_quiet_within
returns-then-not-are_quiet_within c = λ may rh rt. sym ((c.are_quiet_within.ensures may rh rt).1 c.if-not-are_quiet_within.true)

pub pieces-preserved : goal.pieces-preserved
pieces-preserved c = λ may rh rt.
    let slots = c.args.live.now.table.order.slots in
    let v = seen_cell c.args.there.now in
    let test = λ (s : Begun). is_quiet_writing c.args.target.now c.args.live.now c.args.pair.own c.args.pair.other v s in
    let zs = map begun c.args.here.now.segments.items in
    below_more (λ index. list_all (part slots test (piece_stretch slots v index)) zs ≡ true) c.pieces.i (c.pieces.invariant may rh rt)
    (subst (λ (at : Stretch). list_all (part slots test at) zs ≡ true) (c.piece_stretch.ensures ∙ ap (λ (sl : Numbers). piece_stretch sl v c.pieces.i) c.slots.ensures) ((c.are_quiet_within.ensures may rh rt).0 c.if-not-are_quiet_within.false))

pub returns : goal.returns
returns c = λ may rh rt.
    let slots = c.args.live.now.table.order.slots in
    let v = seen_cell c.args.there.now in
    let test = λ (s : Begun). is_quiet_writing c.args.target.now c.args.live.now c.args.pair.own c.args.pair.other v s in
    sym (all-by-pieces slots v test (by-apart c.args.target.now c.args.live.now c.args.pair.own c.args.pair.other v) (map begun c.args.here.now.segments.items)
    (λ index h. c.pieces.invariant may rh rt index (let l = length-map c.args.there.now.segments.items begun in omega (arith, l, h))))
