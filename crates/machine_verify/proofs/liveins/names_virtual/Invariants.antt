use Rattle.std.proofs.Common.{◌≡◌, drop}
use Rattle.std.specs.List.{list_any}
use Rattle.mir_meaning.specs.Valid.{names_virtual}
use Rattle.machine_verify.proofs.liveins.names_virtual.Given as goal

abbrev pub invariant-loop-b : goal.invariant-loop-b
invariant-loop-b l = list_any names_virtual l.f.blocks ≡ list_any names_virtual (drop l.b-index l.f.blocks)
