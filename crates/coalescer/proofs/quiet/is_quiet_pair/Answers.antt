use Rattle.std.proofs.Common.{◌∙◌, ℕ, ap}
use Rattle.std.specs.List.{list_all}
use Rattle.live_lanes.specs.declared.row.Cell.{Cell}
use Rattle.live_lanes.specs.Entered.{cells_of}
use Rattle.coalescer.specs.Asked.{is_quiet_in}
use Rattle.coalescer.proofs.Unseen.{absent-other, absent-own, by-cells}
use Rattle.coalescer.proofs.quiet.is_quiet_pair.Goals as goal

pub returns-then-other-own : goal.returns-then-other-own
returns-then-other-own c = λ may.
    let t = c.args.target.now in
    let x = c.args.live.now in
    let p = c.args.pair in
    let test = λ (b : ℕ). is_quiet_in t x p.own p.own_number p.other p.other_number b in
    by-cells test (cells_of x.table.rows.rows.items p.other_number) c.are_quiet_in.result
    (c.are_quiet_in.ensures may ∙ ap (list_all (λ (d : Cell). test d.block)) c.cells-other.ensures)
    (absent-other t x p.own p.own_number p.other p.other_number)

pub returns-else-other-own : goal.returns-else-other-own
returns-else-other-own c = λ may.
    let t = c.args.target.now in
    let x = c.args.live.now in
    let p = c.args.pair in
    let test = λ (b : ℕ). is_quiet_in t x p.own p.own_number p.other p.other_number b in
    by-cells test (cells_of x.table.rows.rows.items p.own_number) c.are_quiet_in-else-other-own.result
    (c.are_quiet_in-else-other-own.ensures may ∙ ap (list_all (λ (d : Cell). test d.block)) c.cells-own.ensures)
    (absent-own t x p.own p.own_number p.other p.other_number)
