use Rattle.std.proofs.Common.{◌≡◌, ◌++◌, take}
use Rattle.std.specs.List.{flat_map}
use Rattle.two_address.specs.Lowered.{class_aside}
use Rattle.two_address.proofs.lower.push_classes_aside.Given as goal

abbrev pub invariant-each : goal.invariant-each
invariant-each l = l.made.items ≡ l.fn.made.items ++ flat_map (class_aside l.roles) (take l.tie-index l.ties)
