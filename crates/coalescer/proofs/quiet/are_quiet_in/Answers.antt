use Rattle.std.proofs.Common.{◌∙◌, ◌&&◌, sym, ap, arith}
use Rattle.std.specs.List.{list_all}
use Rattle.std.proofs.lemmas.List.{take_all}
use Rattle.std.proofs.lemmas.List.Folds.{list_all_at, list_all_more}
use Rattle.live_lanes.specs.declared.row.Cell.{Cell}
use Rattle.coalescer.specs.Asked.{is_quiet_in}
use Rattle.coalescer.proofs.quiet.are_quiet_in.Goals as goal

pub returns-then-not-is_quiet_in : goal.returns-then-not-is_quiet_in
returns-then-not-is_quiet_in c = λ may.
    let test = λ (d : Cell). is_quiet_in c.args.target.now c.args.live.now c.args.pair.own c.args.pair.own_number c.args.pair.other c.args.pair.other_number d.block in
    let d = c.index-cells-i.result in
    sym (list_all_at test c.args.cells.now c.cells.i d (omega arith) (sym (c.is_quiet_in.ensures may) ∙ c.if-not-is_quiet_in.true))

pub cells-preserved : goal.cells-preserved
cells-preserved c = λ may.
    let test = λ (d : Cell). is_quiet_in c.args.target.now c.args.live.now c.args.pair.own c.args.pair.own_number c.args.pair.other c.args.pair.other_number d.block in
    let d = c.index-cells-i.result in
    list_all_more test c.args.cells.now c.cells.i d (omega arith) ∙ (λ k. c.cells.invariant may k && (sym (c.is_quiet_in.ensures may) ∙ c.if-not-is_quiet_in.false) k)

pub returns : goal.returns
returns c = λ may.
    let test = λ (d : Cell). is_quiet_in c.args.target.now c.args.live.now c.args.pair.own c.args.pair.own_number c.args.pair.other c.args.pair.other_number d.block in
    sym (sym (ap (list_all test) (take_all c.cells.i c.args.cells.now (omega arith))) ∙ c.cells.invariant may)
