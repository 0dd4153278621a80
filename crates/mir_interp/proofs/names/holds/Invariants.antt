use Rattle.std.proofs.Common.{◌≡◌, drop}
use Rattle.std.specs.List.{list_any}
use Rattle.target_base.specs.Storage.{same_numbers}
use Rattle.mir_interp.proofs.names.holds.Given as goal

abbrev pub invariant-loop-other : goal.invariant-loop-other
invariant-loop-other l = list_any (same_numbers l.name) (drop l.other-index l.names) ≡ list_any (same_numbers l.name) l.names
