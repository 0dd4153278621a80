use Rattle.std.proofs.Common.{◌<◌, arith, length, map}
use Rattle.std.proofs.lemmas.List.{length-map}
use Rattle.place_solve.specs.Choice.{need_of, holders}
use Rattle.place_solve.proofs.Covering.{units_short}
use Rattle.place_solve.proofs.cover.are_short.Goals as goal

pub returns-then-holders-len : goal.returns-then-holders-len
returns-then-holders-len c = λ e.
    let units = c.as_slice-in-each.result.now in
    let fewer : length units < holders c.args.target.now units (map need_of c.args.behind.now) c.args.left.now = omega (arith, c.as_slice-in-each.ensures.len, c.len.ensures, c.holders.ensures, c.if-holders-len.true) in
    units_short c.args.target.now (map need_of c.args.behind.now) c.args.left.now units (omega (arith, c.requires, length-map c.args.behind.now need_of)) fewer
