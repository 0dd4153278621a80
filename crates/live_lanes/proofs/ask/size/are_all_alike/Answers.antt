use Rattle.std.proofs.Common.{◌≡◌, ◌<◌, ◌≤◌, ◌+◌, ℕ, length, subst, arith}
use Rattle.live_lanes.specs.declared.row.DefPiece.{DefPiece}
use Rattle.live_lanes.specs.Alike.{bounds}
use Rattle.live_lanes.specs.Table.{begun}
use Rattle.live_lanes.proofs.Alike.{Agree, agree-more, maps-agree}
use Rattle.live_lanes.proofs.ask.size.are_all_alike.Goals as goal

pub segments-init : goal.segments-init
segments-init c = λ j x y w. absurd (omega (arith, w))

pub segments-preserved : goal.segments-preserved
segments-preserved c =
    let same : DefPiece → DefPiece → Type 0 = λ x y. bounds (begun x) ≡ bounds (begun y) in
    let within : c.segments.k < length c.args.b.now = omega (arith, c.segments-test.true, c.if-a-b.false) in
    agree-more same c.args.a.now c.args.b.now c.segments.k c.index-a-k.result c.index-b-k.result c.segments.invariant c.segments-test.true within c.index-a-k.is c.index-b-k.is (c.are_alike.ensures c.if-not-are_alike.false)

pub returns : goal.returns
returns c = λ u. maps-agree (λ s. bounds (begun s)) c.args.a.now c.args.b.now c.if-a-b.false (λ j x y w. c.segments.invariant j x y (omega (arith, w, c.segments-test.false)))
