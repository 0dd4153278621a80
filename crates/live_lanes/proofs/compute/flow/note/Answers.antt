use Rattle.std.proofs.Common.{arith, ◌<◌, ◌≤◌, length}
use Rattle.live_lanes.proofs.Raised.{on-ok}
use Rattle.live_lanes.proofs.Flowing.{note-past, note-row}
use Rattle.live_lanes.proofs.compute.flow.note.Goals as goal

pub returns-then-place-len : goal.returns-then-place-len
returns-then-place-len c =
    let flow = c.args.flow.now in
    let past : length flow.items ≤ c.args.next = omega (arith, flow.ok.0, c.len.ensures, c.if-place-len.true) in
    note-past flow.items c.args.next c.args.at past

pub returns : goal.returns
returns c =
    let flow = c.args.flow.now in
    let within : c.args.next < length flow.items = omega (arith, flow.ok.0, c.len.ensures, c.if-place-len.false) in
    on-ok c.add_predecessor.result c.add_predecessor.ensures.predecessors (λ r. note-row flow.items c.args.next c.args.at c.index_mut.result.now c.add_predecessor.new.self within c.index_mut.ensures.value r c.add_predecessor.ensures.successors c.add_predecessor.ensures.terminators)
