use Rattle.std.proofs.Common.{◌≡◌, ◌<◌, ◌≤◌, ◌+◌, ℕ, length, subst, arith}
use Rattle.live_lanes.proofs.Alike.{SameCell, agree-more, cells-agree}
use Rattle.live_lanes.proofs.ask.size.are_cells_alike.Goals as goal

pub cells-init : goal.cells-init
cells-init c = λ j x y w. absurd (omega (arith, w))

pub cells-preserved : goal.cells-preserved
cells-preserved c =
    let within : c.cells.k < length c.args.b.now = omega (arith, c.cells-test.true, c.if-a-b.false) in
    agree-more SameCell c.args.a.now c.args.b.now c.cells.k c.index-a-k.result c.index-b-k.result c.cells.invariant c.cells-test.true within c.index-a-k.is c.index-b-k.is (c.have_same_points.ensures c.if-not-have_same_points.false)

pub returns : goal.returns
returns c = λ u. cells-agree c.args.a.now c.args.b.now c.if-a-b.false (λ j x y w. c.cells.invariant j x y (omega (arith, w, c.cells-test.false)))
