use Rattle.std.proofs.Common.{arith, ◌<◌, ◌≤◌, length}
use Rattle.live_lanes.proofs.Certain.{cell-is, set-blocks}
use Rattle.live_lanes.proofs.Raised.{ended, not-ended}
use Rattle.live_lanes.proofs.row.LaneRange.set_end.Goals as goal

pub invariant_of-self : goal.invariant_of-self
invariant_of-self c =
    let cells = c.args.self.now.cells in
    let within : c.args.place < length cells.items = omega (arith, cells.ok.0, c.len.ensures, c.if-place-len.true) in
    record { sorted = (ended cells.items c.args.place c.index_mut.result.now c.set_end.new.self c.args.index c.args.end c.args.self.now.sorted within c.index_mut.ensures.value c.set_end.ensures.block c.set_end.ensures.changed).0 }

pub returns-then-place-len-clause-blocks : goal.returns-then-place-len-clause-blocks
returns-then-place-len-clause-blocks c =
    let cells = c.args.self.now.cells in
    let within : c.args.place < length cells.items = omega (arith, cells.ok.0, c.len.ensures, c.if-place-len.true) in
    let x = c.index_mut.result.now in
    set-blocks cells.items c.args.place x c.set_end.new.self (cell-is cells.items c.args.place c.args.index x c.args.self.now.sorted within c.index_mut.ensures.value) c.set_end.ensures.block

pub returns-then-place-len-clause-set : goal.returns-then-place-len-clause-set
returns-then-place-len-clause-set c =
    let cells = c.args.self.now.cells in
    let within : c.args.place < length cells.items = omega (arith, cells.ok.0, c.len.ensures, c.if-place-len.true) in
    (ended cells.items c.args.place c.index_mut.result.now c.set_end.new.self c.args.index c.args.end c.args.self.now.sorted within c.index_mut.ensures.value c.set_end.ensures.block c.set_end.ensures.changed).1

pub returns-else-place-len-clause-set : goal.returns-else-place-len-clause-set
returns-else-place-len-clause-set c =
    let cells = c.args.self.now.cells in
    let past : length cells.items ≤ c.args.place = omega (arith, cells.ok.0, c.len.ensures, c.if-place-len.false) in
    not-ended cells.items c.args.place c.args.index c.args.end past
