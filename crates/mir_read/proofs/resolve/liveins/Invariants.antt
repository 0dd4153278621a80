use Rattle.std.proofs.Common.{◌≡◌, drop}
use Rattle.mir_read.specs.Resolving.{regs_named}
use Rattle.mir_read.proofs.Lists.{onto}
use Rattle.mir_read.proofs.resolve.liveins.Given as goal

abbrev pub invariant-loop-name : goal.invariant-loop-name
invariant-loop-name l = regs_named l.names l.raw ≡ onto l.made (regs_named l.names (drop l.name-index l.raw))
