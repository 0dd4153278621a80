use Rattle.std.proofs.Common.{◌≡◌, length, map, sum}
use Rattle.std.specs.Prelude.{◌==◌}
use Rattle.std.specs.List.{list_all}
use Rattle.target_base.specs.Roles.{classes_of, widths_of_class}
use Rattle.target_desc.proofs.roles.have_width.Given as goal

abbrev pub invariant-classes : goal.invariant-classes
invariant-classes l =
    list_all (λ m. l.width == m) (map (λ k. sum (widths_of_class l.units l.regs l.classes k)) (classes_of l.rs))
    ≡ list_all (λ m. l.width == m) (map (λ k. sum (widths_of_class l.units l.regs l.classes k)) (classes_of l.rest))

abbrev pub decreases-classes : goal.decreases-classes
decreases-classes l = length l.rest
