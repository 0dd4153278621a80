use Rattle.std.proofs.Common.{◌≡◌, ◌∙◌, sym, ap, subst, true}
use Rattle.std.specs.List.{list_all}
use Rattle.live_lanes.specs.Table.{Seen, rises_from, seen_cell}
use Rattle.live_lanes.specs.Entered.{rows_seen}
use Rattle.coalescer.specs.Asked.{is_quiet_writing}
use Rattle.coalescer.proofs.Facts.{in-order}
use Rattle.coalescer.proofs.quiet.is_quiet_in.Goals as goal

pub returns-in-Some : goal.returns-in-Some
returns-in-Some c = λ may.
    let t = c.args.target.now in
    let x = c.args.live.now in
    let rows = x.table.rows.rows.items in
    let n = c.args.pair.own_number in
    let same : seen_cell c.in-Some.here.now ≡ rows_seen rows n c.args.block = c.in-Some.ensures in
    let rises : rises_from x.table.order.slots 0 (seen_cell c.in-Some.here.now).segments ≡ true = subst (λ (v : Seen). rises_from x.table.order.slots 0 v.segments ≡ true) (sym same) (in-order t x may n c.args.block) in
    c.is_quiet_cell.ensures may rises ∙ ap (λ (v : Seen). list_all (is_quiet_writing t x c.args.pair.own c.args.pair.other (rows_seen rows c.args.pair.other_number c.args.block)) v.segments) same

pub returns-in-None : goal.returns-in-None
returns-in-None c = λ may.
    let t = c.args.target.now in
    let x = c.args.live.now in
    let rows = x.table.rows.rows.items in
    ap (λ (v : Seen). list_all (is_quiet_writing t x c.args.pair.own c.args.pair.other (rows_seen rows c.args.pair.other_number c.args.block)) v.segments) c.in-None.ensures
