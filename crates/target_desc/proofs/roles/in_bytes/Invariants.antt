use Rattle.std.proofs.Common.{◌≡◌, length}
use Rattle.target_base.specs.Roles.{classes_of, widths_of_class, in_bytes}
use Rattle.target_desc.proofs.roles.in_bytes.Given as goal

abbrev pub invariant-classes : goal.invariant-classes
invariant-classes l = in_bytes (widths_of_class l.units l.regs l.classes) (classes_of l.rs) ≡ in_bytes (widths_of_class l.units l.regs l.classes) (classes_of l.rest)

abbrev pub decreases-classes : goal.decreases-classes
decreases-classes l = length l.rest
