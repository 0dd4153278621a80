use Rattle.std.proofs.Common.{arith}
use Rattle.live_lanes.proofs.Flowing.{notes-none, notes-more, notes-all}
use Rattle.live_lanes.proofs.compute.flow.note_at.Goals as goal

pub nexts-init : goal.nexts-init
nexts-init c = notes-none c.args.flow.now.items c.args.nexts.now c.args.at

pub nexts-preserved : goal.nexts-preserved
nexts-preserved c = notes-more c.args.flow.now.items c.nexts.flow.items c.note.new.flow.items c.args.nexts.now c.nexts.next-index c.args.at (omega arith) c.nexts.invariant c.in_ok-note.ensures

pub returns : goal.returns
returns c = notes-all c.args.flow.now.items c.nexts.flow.items c.args.nexts.now c.nexts.next-index c.args.at (omega arith) c.nexts.invariant
