use Rattle.std.proofs.Common.{◌≡◌, ◌<◌, ℕ, length, sym, ◌∙◌, arith}
use Rattle.live_lanes.specs.Entered.{cells_of}
use Rattle.slot_colour.specs.Clashes.{do_meet, numbers_in}
use Rattle.slot_colour.proofs.Meeting.{left-hit, left-miss, meets-none}
use Rattle.slot_colour.proofs.clashes.meets_one.Goals as goal

pub returns-then-cell_count-eq0 : goal.returns-then-cell_count-eq0
returns-then-cell_count-eq0 c = λ ordered.
    let x = c.args.live.now.table in
    let n : c.cell_count.result ≡ length (cells_of x.rows.rows.items c.args.one) = c.cell_count.ensures in
    let z : c.cell_count.result ≡ 0 = c.if-cell_count-eq0.true in
    meets-none x c.args.one (sym n ∙ z) (numbers_in c.args.others)

pub returns-then-do_meet : goal.returns-then-do_meet
returns-then-do_meet c = λ ordered.
    let x = c.args.live.now.table in
    let lt : c.lanes.k < c.args.others.count = omega arith in
    left-hit (do_meet x c.args.one) c.args.others.first c.args.others.count c.lanes.k lt (c.lanes.invariant ordered) (sym (c.do_meet.ensures ordered) ∙ c.if-do_meet.true)

pub lanes-preserved : goal.lanes-preserved
lanes-preserved c = λ ordered.
    let x = c.args.live.now.table in
    let lt : c.lanes.k < c.args.others.count = omega arith in
    left-miss (do_meet x c.args.one) c.args.others.first c.args.others.count c.lanes.k lt (c.lanes.invariant ordered) (sym (c.do_meet.ensures ordered) ∙ c.if-do_meet.false)
