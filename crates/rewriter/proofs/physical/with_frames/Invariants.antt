use Rattle.std.proofs.Common.{◌≡◌, ◌++◌, take, map}
use Rattle.rewriter.specs.Physical.{slot_frame}
use Rattle.rewriter.proofs.physical.with_frames.Given as goal

abbrev pub invariant-each : goal.invariant-each
invariant-each l = l.made ≡ l.fn.frames ++ map slot_frame (take l.k l.slots)
