use Rattle.std.proofs.Common.{◌≡◌, drop}
use Rattle.std.specs.List.{list_all}
use Rattle.bound_operands.specs.Seen.{seen_all}
use Rattle.machine_verify.specs.Ties.{slot_fits}
use Rattle.machine_verify.proofs.ties.slots_fit.Given as goal

abbrev pub invariant-loop-b : goal.invariant-loop-b
invariant-loop-b l = list_all (slot_fits l.slots) (seen_all l.bound) ≡ list_all (slot_fits l.slots) (seen_all (drop l.b-index l.bound))
