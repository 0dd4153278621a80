use Rattle.std.proofs.Common.{take}
use Rattle.live_lanes.specs.Flowing.{NotesAll}
use Rattle.live_lanes.proofs.compute.flow.note_at.Given as goal

abbrev pub invariant-nexts : goal.invariant-nexts
invariant-nexts l = NotesAll l.fn.flow.items l.flow.items (take l.next-index l.nexts) l.at
