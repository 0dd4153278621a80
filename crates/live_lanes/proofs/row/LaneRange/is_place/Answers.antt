use Rattle.std.proofs.Common.{◌≡◌, ◌<◌, ◌-◌, true, false, length, arith, get_or}
use Rattle.std.proofs.lemmas.Bool.{lt-ltb, le-ltb, leb-true}
use Rattle.live_lanes.specs.declared.row.Cell.{Cell}
use Rattle.live_lanes.specs.Table.{is_before}
use Rattle.live_lanes.proofs.Cells.{parted}
use Rattle.live_lanes.proofs.Edges.{edge, at-read}
use Rattle.live_lanes.proofs.row.LaneRange.is_place.Goals as goal
use Rattle.live_lanes.proofs.row.LaneRange.is_place.Goals.{else-at-gt0-via-then-at-gt0+else-index-block, else-at-gt0-via-else-at-gt0}

pub returns-then-at-count-2-clause-place : goal.returns-then-at-count-2-clause-place
returns-then-at-count-2-clause-place c = λ r.
    let rows = c.args.self.now.cells in
    let cells = rows.items in
    let test = is_before c.args.block in
    let count : c.args.at ≡ length cells = omega (arith, rows.ok.0, c.len-count.ensures, c.if-at-count-2.true) in
    let before : (d : Cell) → 0 < c.args.at → test (get_or cells (c.args.at - 1) d) ≡ true =
    elim c.else-at-gt0.branch [
      | else-at-gt0-via-then-at-gt0+else-index-block w ↦ λ d _. at-read test cells (c.args.at - 1) w.index.result.now true w.index.ensures (omega (arith, count, w.if-at-gt0.true)) (lt-ltb c.args.block w.index.result.now.block w.if-index-block.false) d
      | else-at-gt0-via-else-at-gt0 w ↦ λ d more. absurd (omega (arith, more, w.if-at-gt0.false))
    ] in
    edge test cells c.args.at (parted c.args.block cells c.args.self.now.sorted) (omega (arith, count)) before (λ d less. absurd (omega (arith, less, count)))

pub returns-else-at-count-2-clause-place : goal.returns-else-at-count-2-clause-place
returns-else-at-count-2-clause-place c = λ r.
    let rows = c.args.self.now.cells in
    let cells = rows.items in
    let test = is_before c.args.block in
    let x : Cell = c.index-else-at-count-2.result.now in
    let within : c.args.at < length cells = omega (arith, rows.ok.0, c.len-count.ensures, c.if-at-count.false, c.if-at-count-2.false) in
    let before : (d : Cell) → 0 < c.args.at → test (get_or cells (c.args.at - 1) d) ≡ true =
    elim c.else-at-gt0.branch [
      | else-at-gt0-via-then-at-gt0+else-index-block w ↦ λ d _. at-read test cells (c.args.at - 1) w.index.result.now true w.index.ensures (omega (arith, within)) (lt-ltb c.args.block w.index.result.now.block w.if-index-block.false) d
      | else-at-gt0-via-else-at-gt0 w ↦ λ d more. absurd (omega (arith, more, w.if-at-gt0.false))
    ] in
    edge test cells c.args.at (parted c.args.block cells c.args.self.now.sorted) (omega (arith, within)) before (λ d _. at-read test cells c.args.at x false c.index-else-at-count-2.ensures within (le-ltb c.args.block x.block (leb-true x.block c.args.block r)) d)
